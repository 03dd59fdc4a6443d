-- `rules::choose` meets its contract.
use mathlib.Core.List.{List, map}
use mathlib.Core.Path.{◌≡◌}
use Prim.Native.Nat.{ℕ, ◌-◌, ◌^◌, ◌<◌}
use lib.ListN.{length}
use Rattle.model.specs.Conjunct.{Atom, atom, var}
use Rattle.conjunct.specs.Word.{node_of, nodes_of_lem}
use Rattle.conjunct.specs.Value.{conj_of}
use Rattle.rules.proofs.Choices.{Left}
use Rattle.rules.proofs.choose.Given as goal

abbrev pub invariant-loop-atom : goal.invariant-loop-atom
invariant-loop-atom l =
    (l.half ≡ 2 ^ (length l.atoms - l.atom-index)) × (l.rest < l.half)
    × ((ks : List Atom) (x ty : ℕ) → nodes_of_lem l.atoms ≡ map atom ks → node_of l.v ≡ var x ty
    → Left ks x ty (conj_of l.initial.w l.n) l.j l.atom-index (conj_of l.w l.n) l.rest)
