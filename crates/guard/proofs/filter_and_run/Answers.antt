-- `guard::filter_and_run` meets its contract: the filter's verdict is on the condition that was derived, so each of its answers is
-- the one that the definition of the run behind the filter gives.
use mathlib.Core.Path.{◌≡◌, refl, sym, ap, ◌∙◌}
use Rattle.model.specs.Filter.{filter_input}
use Rattle.model.specs.Failure.{answer_number}
use Rattle.model.proofs.Filters.Verdicts.{verdict-answer}
use Rattle.filter.specs.Verdict.{verdict_of}
use Rattle.filter.specs.declared.Verdict.{Verdict}
use Rattle.std.specs.Prelude.{Result, Ok}
use Rattle.std.proofs.lemmas.Result.{err_from_is_err_and}
use Rattle.refusals.specs.declared.Refusal.{Refusal}
use Rattle.model.specs.Guarded.{guarded}
use Rattle.model.specs.Refusals.{mapped, wrong_blocks}
use Rattle.model.proofs.Files.Lent.{scratch_as_it_was}
use Rattle.analysis.specs.Deriving.{analysis_words}
use Rattle.guard.proofs.Behind.{guards_refused, guards_held, not-filtered, is_held}
use Rattle.guard.proofs.filter_and_run.Goals as goal
use Rattle.guard.proofs.filter_and_run.Goals.{After-check}

-- the verdict is on the condition that was derived
filtered : (c : After-check) (v : Result Verdict Refusal) → c.check.result ≡ v
    → filter_input c.args.file.now c.args.input.now ≡ mapped answer_number (verdict_of v)
filtered c v e = verdict-answer c.args.file.now c.args.input.now (verdict_of v) (sym (ap verdict_of e) ∙ c.check.ensures)

pub returns-in_err-verdict : goal.returns-in_err-verdict
returns-in_err-verdict c =
    let a = c.args in
    let program = a.program.now in
    let input = a.input.now in
    let s = a.scratch.now in
    let o = guarded program input a.limit a.choices.now a.log.now in
    let f = filtered (goal.at.returns-in_err-verdict c).After-check _ c.in_err-verdict.was in
    let not = not-filtered program input a.limit a.choices.now a.log.now a.file.now c.requires.derived _ f in
    let p = err_from_is_err_and c.from_residual.result c.from_residual.ensures.1 in
    rw (p.1, p.2) (guards_refused program input a.limit a.choices.now o a.condition.now a.log.now s _ a.log.now s not refl
    (scratch_as_it_was analysis_words wrong_blocks o s))

pub run_passed-requires : goal.run_passed-requires
run_passed-requires c =
    (c.requires, filtered (goal.at.run_passed-requires c).After-check _ (c.in_ok-verdict.was ∙ ap Ok c.in-Pass.is))

pub returns-in-Held : goal.returns-in-Held
returns-in-Held c =
    let a = c.args in
    let program = a.program.now in
    let input = a.input.now in
    let s = a.scratch.now in
    let o = guarded program input a.limit a.choices.now a.log.now in
    let f = filtered (goal.at.returns-in-Held c).After-check _ (c.in_ok-verdict.was ∙ ap Ok c.in-Held.is) in
    let is = is_held program input a.limit a.choices.now a.log.now a.file.now c.requires.derived f in
    guards_held program input a.limit a.choices.now o a.condition.now a.log.now s s is (scratch_as_it_was analysis_words wrong_blocks o s)
