-- `sets::copy` meets its contract.
use mathlib.Core.Path.{◌≡◌}
use Prim.Native.Nat.{◌+◌, ◌≤◌}
use lib.ListN.{length, get_or}
use Rattle.model.specs.Sizes.{most_conjuncts}
use Rattle.sets.proofs.Copied.{Copied}
use Rattle.sets.specs.Region.{few}
use Rattle.sets.proofs.copy.Given as goal

abbrev pub invariant-loop-i : goal.invariant-loop-i
invariant-loop-i l = (l.n ≡ few (get_or l.initial.s l.from 0)) × (l.n ≤ most_conjuncts) × (length l.s ≡ length l.initial.s) × Copied l.s l.initial.s (l.to + 1) (l.from + 1) 0 l.i
