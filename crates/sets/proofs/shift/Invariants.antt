-- `sets::shift` meets its contract.
use mathlib.Core.Path.{◌≡◌}
use Prim.Native.Nat.{◌+◌}
use lib.ListN.{length}
use Rattle.sets.proofs.Copied.{Copied}
use Rattle.sets.specs.Region.{slot_words}
use Rattle.sets.proofs.shift.Given as goal

abbrev pub invariant-loop-k : goal.invariant-loop-k
invariant-loop-k l = (length l.s ≡ length l.initial.s) × Copied l.s l.initial.s (l.a + slot_words) l.a l.k l.n
