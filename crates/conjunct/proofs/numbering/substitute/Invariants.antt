-- `conjunct::numbering::substitute` meets its contract.
use mathlib.Core.List.{flat_map}
use mathlib.Core.Path.{◌≡◌}
use Prim.Native.Nat.{◌≤◌}
use lib.ListN.{length, take}
use Rattle.model.specs.Sizes.{most_nodes}
use Rattle.conjunct.specs.Behind.{right_words, piece_of}
use Rattle.conjunct.proofs.numbering.substitute.Given as goal

abbrev pub invariant-loop-i : goal.invariant-loop-i
invariant-loop-i l =
    (l.n ≤ length l.e) × (l.m ≤ most_nodes) × (most_nodes ≤ length l.initial.out) × (length l.out ≡ length l.initial.out)
    × (take l.m l.out ≡ flat_map (piece_of l.x (right_words l.r)) (take l.i l.e))
