-- `condition::is_rising` meets its contract.
use mathlib.Core.Path.{◌≡◌}
use mathlib.Core.List.{map}
use Prim.Native.Nat.{◌+◌, ◌*◌, ◌≤◌}
use lib.ListN.{length}
use Rattle.model.specs.Sizes.{field_size, counts_size}
use Rattle.condition.specs.Answers.{pairs_of}
use Rattle.condition.proofs.Table.{conjuncts_from}
use Rattle.model.specs.Condition.{conjunct_at, rising, conjuncts_at}
use Rattle.condition.proofs.is_rising.Given as goal

abbrev pub invariant-loop-i : goal.invariant-loop-i
invariant-loop-i l =
    (conjuncts_at l.fields l.count ≤ length l.condition)
    × (rising (map (conjunct_at l.condition) (pairs_of l.condition l.fields l.count)) ≡ rising (conjuncts_from l.condition (counts_size + field_size * l.fields) l.count l.i))
