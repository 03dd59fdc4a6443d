-- The first j words are written.
use mathlib.Core.Path.{◌≡◌}
use Prim.Native.Nat.{◌+◌, ◌≤◌}
use lib.ListN.{length, take}
use Rattle.bytes_le.specs.Overlay.{overlay}
use Rattle.sets.specs.Region.{slot_words}
use Rattle.sets.proofs.slots.write_slot.Given as goal

abbrev pub invariant-loop-j : goal.invariant-loop-j
invariant-loop-j l =
    (length l.s ≡ length l.initial.s) × (l.s ≡ overlay l.initial.s (l.a + 1) (take l.j l.w)) × (l.a + slot_words ≤ length l.s)
