-- `writer::put_conjunct` meets its contract.
use mathlib.Core.List.{List}
use mathlib.Core.Path.{◌≡◌}
use Prim.Native.Nat.{ℕ}
use lib.ListN.{take}
use Rattle.model.specs.Condition.{conjunct_bytes}
use Rattle.model.specs.Lists.{All}
use Rattle.model.specs.Formed.{FileNode}
use Rattle.bytes_le.specs.Overlay.{overlay}
use Rattle.conjunct.specs.Value.{conj_of}
use Rattle.writer.proofs.put_conjunct.Given as goal

abbrev pub invariant-loop-i : goal.invariant-loop-i
invariant-loop-i l =
    (types : List ℕ) → All (FileNode types) (conj_of l.w l.n) → l.out ≡ overlay l.initial.out l.a (conjunct_bytes (take l.i (conj_of l.w l.n)))
