-- `sets::equal` meets its contract.
use mathlib.Core.Path.{◌≡◌}
use Prim.Native.Nat.{◌≤◌}
use lib.ListN.{length, drop}
use Rattle.model.specs.Conjunct.{same}
use Rattle.model.specs.Sizes.{most_conjuncts}
use Rattle.sets.specs.Region.{set_of}
use Rattle.sets.proofs.equal.Given as goal

abbrev pub invariant-loop-i : goal.invariant-loop-i
invariant-loop-i l =
    (l.n ≤ most_conjuncts) × (l.n ≡ length (set_of l.s l.a)) × (l.n ≡ length (set_of l.s l.b))
    × (same (set_of l.s l.a) (set_of l.s l.b) ≡ same (drop l.i (set_of l.s l.a)) (drop l.i (set_of l.s l.b)))
