-- `guard::run_passed` meets its contract: the run's answer is the guard's, and demand 3 holds of its records.
use mathlib.Core.Path.{refl, sym, ap, subst, ◌∙◌}
use lib.ListN.{length}
use native.Mathlib.Omega.{arith}
use Rattle.bytes_le.proofs.Overlays.{overlay_part}
use Rattle.model.specs.Guarded.{guarded}
use Rattle.model.specs.Refusals.{ok, wrong_blocks}
use Rattle.std.proofs.lemmas.Result.{err_from_is_err_and}
use Rattle.model.specs.Lent.{ScratchLeft}
use Rattle.model.proofs.Demand3.{demand3}
use Rattle.model.proofs.Files.Lent.{scratch_wider}
use Rattle.analysis.specs.Deriving.{analysis_words}
use Rattle.interpreter.specs.Answers.{run_lent, run_answer, Kept}
use Rattle.interpreter.specs.Progress.{scratch_words}
use Rattle.guard.proofs.Behind.{guards_refused, guards_ended, not-run, is-run, late, ran-lent, ran_with}
use Rattle.guard.proofs.run_passed.Goals as goal
use Rattle.guard.proofs.run_passed.Goals.{After-run}

-- the run wants fewer words than the analysis, and no refusal with an early number is left
scratch-left : (c : After-run)
    → let a = c.args in
    ScratchLeft analysis_words wrong_blocks (guarded a.program.now a.input.now a.limit a.choices.now a.log.now) a.scratch.now
    c.run.new.scratch
scratch-left c =
    let a = c.args in
    let o = guarded a.program.now a.input.now a.limit a.choices.now a.log.now in
    let p = run_lent scratch_words (length a.scratch.now) a.program.now a.input.now a.limit a.choices.now a.log.now in
    scratch_wider analysis_words wrong_blocks o
    (late a.program.now a.input.now a.limit a.choices.now a.log.now a.file.now c.requires.0.derived)
    scratch_words wrong_blocks p a.scratch.now c.run.new.scratch (omega arith) c.run.ensures.scratch

pub returns-in_err-ran : goal.returns-in_err-ran
returns-in_err-ran c =
    let told = c.in_err-ran.was in
    let a = c.args in
    let pre = c.requires in
    let program = a.program.now in
    let input = a.input.now in
    let log' = c.run.new.log in
    let o = guarded program input a.limit a.choices.now a.log.now in
    let r = ran-lent (length a.scratch.now) program input a.limit a.choices.now a.log.now _ pre.0.words
    (sym (ap (λ x. run_answer x log') told) ∙ c.run.ensures.answer) in
    let p = err_from_is_err_and c.from_residual.result c.from_residual.ensures.1 in
    rw (p.1, p.2) (guards_refused program input a.limit a.choices.now o a.condition.now a.log.now a.scratch.now _ log' c.run.new.scratch
    (not-run program input a.limit a.choices.now a.log.now a.file.now pre.0.derived _ pre.1 r)
    (subst (λ x. Kept x a.log.now log') told c.run.ensures.log) (scratch-left (goal.at.returns-in_err-ran c).After-run))

pub returns : goal.returns
returns c =
    let ran = c.in_ok-ran.ran in
    let a = c.args in
    let pre = c.requires in
    let program = a.program.now in
    let input = a.input.now in
    let C = a.file.now in
    let log' = c.run.new.log in
    let R = ran_with ran log' in
    let o = guarded program input a.limit a.choices.now a.log.now in
    let r = ran-lent (length a.scratch.now) program input a.limit a.choices.now a.log.now (ok R) pre.0.words
    (sym (ap (λ x. run_answer x log') c.in_ok-ran.was) ∙ c.run.ensures.answer) in
    guards_ended program input a.limit a.choices.now o a.condition.now a.log.now a.scratch.now C ran _ log'
    c.run.new.scratch (is-run program input a.limit a.choices.now a.log.now C pre.0.derived R pre.1 r)
    (overlay_part 0 (length C) a.condition.now _ C c.copy_from_slice.ensures.after refl (omega arith))
    (demand3 program C input a.limit a.choices.now a.log.now R pre.0.derived pre.1 r) (scratch-left (goal.at.returns c).After-run)
