-- `condition::is_chained` meets its contract.
use mathlib.Core.Path.{◌≡◌}
use lib.ListN.{length}
use Rattle.model.specs.Bytes.{pairs_at, chained}
use Rattle.condition.proofs.Passes.{pairs_from}
use Rattle.condition.proofs.is_chained.Given as goal

abbrev pub invariant-loop-i : goal.invariant-loop-i
invariant-loop-i l =
    chained l.start (pairs_at l.condition l.at l.count) (length l.condition) ≡ chained l.next (pairs_from l.condition l.at l.count l.i) (length l.condition)
