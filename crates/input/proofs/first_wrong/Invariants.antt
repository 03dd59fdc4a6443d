-- `input::first_wrong` meets its contract: every pair that was looked at is right.
use Prim.Native.Nat.{◌*◌, ◌≤◌}
use lib.ListN.{length}
use Rattle.model.specs.Fields.{types_in, fields_in}
use Rattle.input.proofs.Search.{RightSoFar}
use Rattle.input.proofs.first_wrong.Given as goal

abbrev pub invariant-loop-f : goal.invariant-loop-f
invariant-loop-f l = RightSoFar (types_in (fields_in l.fields)) l.input l.f l.next × (8 * l.count ≤ length l.input)
