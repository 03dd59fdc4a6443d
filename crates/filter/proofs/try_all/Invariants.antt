-- `filter::try_all` meets its contract. The loop's invariant: what is left to be evaluated answers for all.
use mathlib.Core.Path.{◌≡◌}
use lib.ListN.{drop}
use Rattle.model.specs.Input.{Input}
use Rattle.model.specs.Failure.{first, failure_in}
use Rattle.condition.specs.Answers.{conjuncts_of}
use Rattle.plan.specs.Readings.{Decoded}
use Rattle.filter.proofs.try_all.Given as goal

abbrev pub invariant-loop-place : goal.invariant-loop-place
invariant-loop-place l = (I : Input) → Decoded I l.counts l.mags l.negs
    → first (failure_in I) (conjuncts_of l.condition) ≡ first (failure_in I) (drop l.place (conjuncts_of l.condition))
