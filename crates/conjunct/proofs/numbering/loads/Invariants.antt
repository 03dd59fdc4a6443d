-- `conjunct::numbering::loads` meets its contract.
use mathlib.Core.Path.{◌≡◌}
use Prim.Native.Nat.{◌≤◌}
use lib.ListN.{length, take}
use Rattle.model.specs.Conjunct.{atoms}
use Rattle.model.specs.Walk.{loads}
use Rattle.model.specs.Sizes.{most_nodes}
use Rattle.conjunct.specs.Word.{nodes_of_lem}
use Rattle.conjunct.specs.Behind.{atoms_of_lem, Atoms}
use Rattle.conjunct.proofs.numbering.loads.Given as goal

abbrev pub invariant-loop-i : goal.invariant-loop-i
invariant-loop-i l =
    (l.n ≤ most_nodes) × (l.m ≤ l.i) × (l.n ≤ length l.e) × (most_nodes ≤ length l.initial.out) × (length l.out ≡ length l.initial.out) × Atoms (take l.m l.out)
    × (atoms_of_lem (take l.m l.out) ≡ loads l.array l.len (atoms (nodes_of_lem (take l.i l.e))))
