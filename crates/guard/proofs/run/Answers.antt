-- `guard::run` meets its contract: a condition's output that is too short is refused before any work.
use mathlib.Core.Path.{refl}
use lib.ListN.{length}
use Rattle.model.specs.Refusals.{wrong_blocks}
use Rattle.model.proofs.Files.Lent.{scratch_as_it_was}
use Rattle.analysis.specs.Deriving.{analysis_words}
use Rattle.guard.specs.Answers.{guarding}
use Rattle.refusals.specs.declared.Refusal.TheVariants.{LentTooShort}
use Rattle.guard.proofs.Behind.{output-short, guards_refused}
use Rattle.guard.proofs.run.Goals as goal

pub returns-then-condition-lt-CONDITION : goal.returns-then-condition-lt-CONDITION
returns-then-condition-lt-CONDITION c =
    let a = c.args in
    let program = a.program.now in
    let input = a.input.now in
    let s = a.scratch.now in
    let o = guarding (length a.condition.now) (length s) program input a.limit a.choices.now a.log.now in
    let short = output-short program input a.limit a.choices.now a.log.now (length a.condition.now) (length s) c.if-condition-lt-CONDITION.true in
    guards_refused program input a.limit a.choices.now o a.condition.now a.log.now s LentTooShort a.log.now s short refl
    (scratch_as_it_was analysis_words wrong_blocks o s)
