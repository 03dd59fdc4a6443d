-- `writer::put_conjuncts` meets its contract.
use mathlib.Core.List.{List, flat_map}
use mathlib.Core.Path.{◌≡◌}
use Prim.Native.Nat.{ℕ, ◌+◌, ◌*◌, ◌≤◌}
use lib.ListN.{take}
use Rattle.model.specs.Condition.{conjunct_bytes}
use Rattle.model.specs.Lists.{All}
use Rattle.model.specs.Formed.{size, FileNode}
use Rattle.bytes_le.specs.Overlay.{overlay}
use Rattle.sets.specs.Region.{set_of}
use Rattle.writer.specs.Writing.{conjunct_room}
use Rattle.writer.proofs.put_conjuncts.Given as goal

abbrev pub invariant-loop-i : goal.invariant-loop-i
invariant-loop-i l =
    (l.place ≤ l.a + conjunct_room * l.i) × (l.place ≡ l.a + 8 * size (take l.i (set_of l.s l.b)))
    × ((types : List ℕ) → All (All (FileNode types)) (set_of l.s l.b) → l.out ≡ overlay l.initial.out l.a (flat_map conjunct_bytes (take l.i (set_of l.s l.b))))
