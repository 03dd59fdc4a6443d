-- `sets::rises` meets its contract: so far the conjuncts rise.
use mathlib.Core.Path.{◌≡◌}
use Prim.Native.Nat.{◌≤◌}
use lib.ListN.{length, take}
use Rattle.model.specs.Sizes.{most_conjuncts}
use Rattle.model.specs.TidySets.{Canon}
use Rattle.sets.specs.Region.{set_of}
use Rattle.sets.proofs.rises.Given as goal

abbrev pub invariant-loop-i : goal.invariant-loop-i
invariant-loop-i l = (l.n ≤ most_conjuncts) × (l.n ≡ length (set_of l.s l.base)) × Canon (take l.i (set_of l.s l.base))
