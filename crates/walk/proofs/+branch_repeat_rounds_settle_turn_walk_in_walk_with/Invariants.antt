-- The cycle of `walk::walk_in`, `walk_with`, `turn`, `branch`, `repeat`, `settle` and `rounds`: its measure is made of the
-- remaining depth, which falls with every way into a block.
use Prim.Native.Nat.{◌+◌, ◌-◌, ◌*◌}
use Rattle.model.specs.Sizes.{most_rounds}
use Rattle.walk.proofs.Rounding.{InRounds}
use Rattle.walk.proofs.Walking.{Walking}
use Rattle.walk.proofs.+branch_repeat_rounds_settle_turn_walk_in_walk_with.Given as goal

abbrev pub decreases-branch : goal.decreases-branch
decreases-branch l = 6 * l.depth + 2

abbrev pub decreases-repeat : goal.decreases-repeat
decreases-repeat l = 6 * l.depth + 5

abbrev pub decreases-rounds : goal.decreases-rounds
decreases-rounds l = 6 * l.depth + 3

abbrev pub decreases-settle : goal.decreases-settle
decreases-settle l = 6 * l.depth + 4

abbrev pub decreases-turn : goal.decreases-turn
decreases-turn l = 6 * l.depth

abbrev pub decreases-walk_in : goal.decreases-walk_in
decreases-walk_in l = 6 * l.depth + 2

abbrev pub decreases-walk_with : goal.decreases-walk_with
decreases-walk_with l = 6 * l.depth + 1

abbrev pub invariant-rounds-loop-k : goal.invariant-rounds-loop-k
invariant-rounds-loop-k l = InRounds l.light l.p l.q l.b l.initial.s l.k l.s

abbrev pub decreases-rounds-loop-k : goal.decreases-rounds-loop-k
decreases-rounds-loop-k l = most_rounds - l.k

abbrev pub invariant-walk_with-loop-r : goal.invariant-walk_with-loop-r
invariant-walk_with-loop-r l = Walking l.light l.initial.s l.depth l.b l.p l.q l.s l.m l.r

abbrev pub decreases-walk_with-loop-r : goal.decreases-walk_with-loop-r
decreases-walk_with-loop-r l = l.r
