-- `condition::read_conjuncts` meets its contract. The invariant: the pairs before i are right.
use mathlib.Core.Path.{◌≡◌}
use mathlib.Core.Bool.{Bool}
use mathlib.Core.List.{List}
use Prim.Native.Nat.{ℕ, ◌+◌, ◌*◌, ◌≤◌}
use lib.ListN.{length}
use Rattle.model.specs.Sizes.{field_size, counts_size}
use Rattle.model.specs.Condition.{conjuncts_at}
use Rattle.model.specs.Bytes.{Pair}
use Rattle.model.specs.Lists.{every}
use Rattle.condition.specs.Answers.{pair_right, pairs_of, types_at}
use Rattle.condition.proofs.Passes.{pairs_from}
use Rattle.condition.proofs.read_conjuncts.Given as goal

-- the test of a pair
abbrev pub test : List ℕ → ℕ → Pair → Bool
test condition fields = pair_right (types_at condition fields) condition

abbrev pub invariant-loop-i : goal.invariant-loop-i
invariant-loop-i l =
    (conjuncts_at l.fields l.count ≤ length l.condition)
    × (every (test l.condition l.fields) (pairs_of l.condition l.fields l.count)
    ≡ every (test l.condition l.fields) (pairs_from l.condition (counts_size + field_size * l.fields) l.count l.i))
