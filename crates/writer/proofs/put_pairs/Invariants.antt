-- `writer::put_pairs` meets its contract.
use mathlib.Core.Path.{◌≡◌}
use Prim.Native.Nat.{◌+◌, ◌*◌, ◌≤◌}
use lib.ListN.{take}
use Rattle.model.specs.Condition.{pair_bytes}
use Rattle.model.specs.Formed.{size}
use Rattle.bytes_le.specs.Overlay.{overlay}
use Rattle.sets.specs.Region.{set_of}
use Rattle.writer.specs.Writing.{conjunct_room}
use Rattle.writer.proofs.put_pairs.Given as goal

abbrev pub invariant-loop-i : goal.invariant-loop-i
invariant-loop-i l =
    (l.place ≤ l.begin + conjunct_room * l.i) × (l.place ≡ l.begin + 8 * size (take l.i (set_of l.s l.b))) × (l.out ≡ overlay l.initial.out l.a (pair_bytes l.begin (take l.i (set_of l.s l.b))))
