-- `sets::bisect` meets its contract: the place lies between lo and hi (`Places.Between`), and one comparison more halves what is left.
use Prim.Native.Nat.{◌-◌, ◌≤◌}
use lib.ListN.{take}
use Rattle.conjunct.specs.Word.{nodes_of_lem}
use Rattle.sets.proofs.Places.{Between}
use Rattle.sets.specs.Region.{first_of}
use Rattle.sets.proofs.bisect.Given as goal

abbrev pub invariant-loop-lo : goal.invariant-loop-lo
invariant-loop-lo l = (l.lo ≤ l.hi) × (l.hi ≤ l.n) × Between (nodes_of_lem (take l.m l.w)) (first_of l.s l.base l.n) l.lo l.hi

abbrev pub decreases-loop-lo : goal.decreases-loop-lo
decreases-loop-lo l = l.hi - l.lo
