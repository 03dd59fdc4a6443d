-- A right side without an atom leaves a numbered conjunct numbered: its atoms are the same, and so are their numbers.
use mathlib.Core.Bool.{true, false, cond, ◌||◌}
use mathlib.Core.List.{List, [], ◌∷◌, ◌++◌, map, flat_map, map-append}
use mathlib.Core.Path.{◌≡◌, refl, sym, ap, ap₂, ◌∙◌}
use Prim.Native.Nat.{ℕ, zero, suc}
use lib.ListN.{take}
use Rattle.model.proofs.Basics.Tests.{case, true→T}
use Rattle.model.specs.Conjunct.{Atom, Node, const, atom, var, op, conv, Conj, note, atoms, renamed, on_atom_lem, renumber, AtAtom}
use Rattle.model.specs.Lists.{All}
use Rattle.model.specs.TidySets.{Numbered}
use Rattle.model.specs.Touch.{is_var, some}
use Rattle.conjunct.proofs.node.Atoms.{other-kept, other-plain}
use Rattle.conjunct.specs.Word.{is_atom_lem, node_of, nodes_of_lem}
use Rattle.conjunct.specs.Behind.{piece_of}

-- ---- words of which none is an atom's

-- none is an atom's word
abbrev pub NoAtoms : List ℕ → Type 0
NoAtoms ws = All (λ w. is_atom_lem w ≡ false) ws

pub none-taken : (k : ℕ) (l : List ℕ) → some is_atom_lem l ≡ false → NoAtoms (take k l)
unfolding some
none-taken zero l h = tt
none-taken (suc k) [] h = tt
none-taken (suc k) (w ∷ l) h =
    case (is_atom_lem w) (λ z. (z || some is_atom_lem l) ≡ false → (z ≡ false) × NoAtoms (take k l))
    (λ p e. absurd (true→T (sym e))) (λ p e. (refl, none-taken k l e)) h

-- ---- no atom, and so nothing to number

note-other : (v : Node) (ks : List Atom) → AtAtom (λ a. ⊥) v → note v ks ≡ ks
note-other (const ty i) ks h = refl
note-other (atom a) ks h = absurd h
note-other (var x ty) ks h = refl
note-other (op o ty) ks h = refl
note-other (conv ty) ks h = refl

variable-plain : (x : ℕ) (v : Node) → is_var x v ≡ true → AtAtom (λ a. ⊥) v
variable-plain x (const ty i) h = tt
variable-plain x (atom a) h = true→T h
variable-plain x (var y ty) h = tt
variable-plain x (op o ty) h = tt
variable-plain x (conv ty) h = tt

atoms-behind : (r : List ℕ) (e : Conj) → NoAtoms r → atoms (nodes_of_lem r ++ e) ≡ atoms e
unfolding atoms
atoms-behind [] e h = refl
atoms-behind (w ∷ r) e h = note-other (node_of w) (atoms (nodes_of_lem r ++ e)) (other-plain w h.0) ∙ atoms-behind r e h.1

others-kept : (f : Atom → Node) (r : List ℕ) → NoAtoms r → map (on_atom_lem f) (nodes_of_lem r) ≡ nodes_of_lem r
others-kept f [] h = refl
others-kept f (w ∷ r) h = ap₂ ◌∷◌ (other-kept f w h.0) (others-kept f r h.1)

-- ---- put in the place of a variable

module _ (x : ℕ) (r : List ℕ) (none : NoAtoms r) where
  -- the atoms are the same
  atoms-same : (ws : List ℕ) → atoms (nodes_of_lem (flat_map (piece_of x r) ws)) ≡ atoms (nodes_of_lem ws)
  unfolding atoms flat_map piece_of
  atoms-same [] = refl
  atoms-same (w ∷ ws) =
      let rest = flat_map (piece_of x r) ws in
      ap atoms (map-append node_of (piece_of x r w) rest)
      ∙ case (is_var x (node_of w)) (λ z. atoms (nodes_of_lem (cond z r (w ∷ [])) ++ nodes_of_lem rest) ≡ note (node_of w) (atoms (nodes_of_lem ws)))
      (λ p. atoms-behind r (nodes_of_lem rest) none ∙ atoms-same ws
      ∙ sym (note-other (node_of w) (atoms (nodes_of_lem ws)) (variable-plain x (node_of w) p)))
      (λ p. ap (note (node_of w)) (atoms-same ws))

  -- a change of atoms that changes nothing before changes nothing after
  all-kept : (f : Atom → Node) (ws : List ℕ) → map (on_atom_lem f) (nodes_of_lem ws) ≡ nodes_of_lem ws
      → map (on_atom_lem f) (nodes_of_lem (flat_map (piece_of x r) ws)) ≡ nodes_of_lem (flat_map (piece_of x r) ws)
  unfolding flat_map piece_of
  all-kept f [] h = refl
  all-kept f (w ∷ ws) h =
      let rest = flat_map (piece_of x r) ws in
      let here : on_atom_lem f (node_of w) ≡ node_of w = cc in
      let after : map (on_atom_lem f) (nodes_of_lem ws) ≡ nodes_of_lem ws = cc in
      let one : map (on_atom_lem f) (nodes_of_lem (piece_of x r w)) ≡ nodes_of_lem (piece_of x r w) =
      case (is_var x (node_of w)) (λ z. map (on_atom_lem f) (nodes_of_lem (cond z r (w ∷ []))) ≡ nodes_of_lem (cond z r (w ∷ []))) (λ p. others-kept f r none)
      (λ p. ap (◌∷ []) here) in
      rw (map-append node_of (piece_of x r w) rest)
      (map-append (on_atom_lem f) (nodes_of_lem (piece_of x r w)) (nodes_of_lem rest) ∙ ap₂ ◌++◌ one (all-kept f ws after))

  pub still_numbered : (ws : List ℕ) → Numbered (nodes_of_lem ws) → Numbered (nodes_of_lem (flat_map (piece_of x r) ws))
  unfolding renumber
  still_numbered ws h =
      let f : List Atom → Atom → Node = λ ks a. atom (renamed ks a) in
      ap (λ ks. map (on_atom_lem (f ks)) (nodes_of_lem (flat_map (piece_of x r) ws))) (atoms-same ws) ∙ all-kept (f (atoms (nodes_of_lem ws))) ws h
