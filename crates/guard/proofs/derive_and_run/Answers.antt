-- `guard::derive_and_run` meets its contract: the file that the analysis wrote is the condition for the filter, and what either leaves
-- in scratch comes together.
use mathlib.Core.Path.{◌≡◌, refl, subst, ◌∙◌}
use Prim.Native.Nat.{◌≤◌}
use native.Mathlib.Omega.{arith}
use lib.ListN.{length, take}
use Rattle.model.specs.Condition.{analysis}
use Rattle.model.specs.Refusals.{ok, wrong_blocks}
use Rattle.model.proofs.Files.Lent.{scratch-both}
use Rattle.analysis.specs.Deriving.{analysis_words, derivation, Derives}
use Rattle.std.specs.Prelude.{Ok}
use Rattle.std.proofs.lemmas.Result.{err_from_is_err_and}
use Rattle.guard.specs.Answers.{guarding, Guards}
use Rattle.guard.proofs.Apart.{derivation-analysis}
use Rattle.guard.proofs.Behind.{guards_refused, guards_after, derived-refused, derived-lent, derived-guarding, late, scratch-refused}
use Rattle.guard.proofs.derive_and_run.Goals as goal
use Rattle.guard.proofs.derive_and_run.Goals.{In_ok-n}

-- ---- the file is written
derives : (c : In_ok-n)
    → let a = c.args in
    Derives (derivation (length a.file.now) (length a.scratch.now) a.program.now) (Ok c.in_ok-n.n) a.file.now
    c.derive.new.condition a.scratch.now c.derive.new.scratch
derives c =
    let a = c.args in
    let o = derivation (length a.file.now) (length a.scratch.now) a.program.now in
    subst (λ r. Derives o r a.file.now c.derive.new.condition a.scratch.now c.derive.new.scratch) c.in_ok-n.was c.derive.ensures

is-derived : (c : In_ok-n)
    → analysis c.args.program.now ≡ ok (take c.in_ok-n.n c.derive.new.condition)
is-derived c =
    let a = c.args in
    derivation-analysis (length a.file.now) (length a.scratch.now) a.program.now (take c.in_ok-n.n c.derive.new.condition)
    (derives c).answer

enough : (c : In_ok-n) → analysis_words ≤ length c.args.scratch.now
enough c =
    let a = c.args in
    let pre = c.requires in
    derived-lent a.program.now a.input.now a.limit a.choices.now a.log.now (length a.file.now) (length a.condition.now)
    (length a.scratch.now) pre.0 pre.1 (take c.in_ok-n.n c.derive.new.condition) (derives c).answer

pub filter_and_run-requires : goal.filter_and_run-requires
filter_and_run-requires c =
    let d = derives (goal.at.filter_and_run-requires c).In_ok-n in
    let scratch-kept = c.derive.auto.scratch in
    let words = enough (goal.at.filter_and_run-requires c).In_ok-n in
    record {
      most = omega (arith, d.output.most, d.output.whole);
      derived = is-derived (goal.at.filter_and_run-requires c).In_ok-n;
      output = c.requires.1;
      words = omega (arith, words, scratch-kept);
    }

pub returns-in_err-n : goal.returns-in_err-n
returns-in_err-n c =
    let a = c.args in
    let pre = c.requires in
    let program = a.program.now in
    let s = a.scratch.now in
    let file = c.derive.new.condition in
    let t = c.derive.new.scratch in
    let f = length a.file.now in
    let o = length a.condition.now in
    let g = guarding o (length s) program a.input.now a.limit a.choices.now a.log.now in
    let d = subst (λ r. Derives (derivation f (length s) program) r a.file.now file s t) c.in_err-n.was c.derive.ensures in
    let not = derived-refused program a.input.now a.limit a.choices.now a.log.now f o (length s) pre.0 pre.1 _ d.answer in
    let p = err_from_is_err_and c.from_residual.result c.from_residual.ensures.1 in
    rw (p.1, p.2) (guards_refused program a.input.now a.limit a.choices.now g a.condition.now a.log.now s _ a.log.now t not refl
    (scratch-refused g (derivation f (length s) program) _ s t not d.answer d.scratch))

pub returns : goal.returns
returns c =
    let a = c.args in
    let pre = c.requires in
    let program = a.program.now in
    let input = a.input.now in
    let s = a.scratch.now in
    let t = c.derive.new.scratch in
    let f = length a.file.now in
    let o = length a.condition.now in
    let d = derives (goal.at.returns c).In_ok-n in
    let log' = c.filter_and_run.new.log in
    let condition' = c.filter_and_run.new.condition in
    let u = c.filter_and_run.new.scratch in
    let g = guarding o (length s) program input a.limit a.choices.now a.log.now in
    let same = derived-guarding program input a.limit a.choices.now a.log.now f o (length s) pre.0 pre.1 (enough (goal.at.returns c).In_ok-n) in
    let is = subst (λ x. Guards program input a.limit a.choices.now x c.filter_and_run.result a.condition.now a.log.now t condition' log' u) same
    c.filter_and_run.ensures in
    let C = take c.in_ok-n.n c.derive.new.condition in
    guards_after program input a.limit a.choices.now g a.condition.now a.log.now s c.filter_and_run.result t condition' log' u is
    (scratch-both analysis_words wrong_blocks g (λ m e. late program input a.limit a.choices.now a.log.now C (is-derived (goal.at.returns c).In_ok-n) m (same ∙ e))
    (derivation f (length s) program) s t u d.scratch is.scratch)
