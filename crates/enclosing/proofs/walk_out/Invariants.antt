-- `enclosing::walk_out` meets its contract. The invariant: the walk from the label goes on from the block where the code stands.
use Rattle.enclosing.proofs.WalkingOut.{Outward}
use Rattle.enclosing.proofs.walk_out.Given as goal

abbrev pub invariant-loop-r : goal.invariant-loop-r
invariant-loop-r l = Outward l.initial.s l.b l.i l.s l.at

abbrev pub decreases-loop-r : goal.decreases-loop-r
decreases-loop-r l = l.at
