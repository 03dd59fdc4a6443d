-- `rules::add_subsets` meets its contract: each turn adds the conjunct of one subset, from the last to the first.
use mathlib.Core.List.{List, map}
use mathlib.Core.Path.{◌≡◌}
use Prim.Native.Nat.{ℕ}
use lib.ListN.{drop}
use Rattle.model.specs.Conjunct.{Atom, atom, var, union_of}
use Rattle.model.specs.TidySets.{Canon}
use Rattle.conjunct.specs.Word.{node_of, nodes_of_lem}
use Rattle.conjunct.specs.Value.{conj_of}
use Rattle.sets.specs.Region.{set_of, Within}
use Rattle.rules.proofs.Additions.{Chosen}
use Rattle.rules.proofs.add_subsets.Given as goal

-- the conjuncts of all subsets from the j-th on are in the room
abbrev pub invariant-loop-j : goal.invariant-loop-j
invariant-loop-j l =
    Within l.room l.initial.s l.s
    × ((ks : List Atom) (x ty : ℕ) → nodes_of_lem l.atoms ≡ map atom ks → node_of l.v ≡ var x ty
    → set_of l.s l.room ≡ union_of (drop l.j (Chosen ks x ty (conj_of l.e l.n))) (set_of l.initial.s l.room))
    × Canon (set_of l.s l.room)
