-- A word noted behind the words of atoms: its three cases.
use mathlib.Core.Bool.{true, false}
use mathlib.Core.List.{List, [], ◌∷◌, ◌++◌, map-append}
use mathlib.Core.Path.{◌≡◌, refl, sym, ap, ◌∙◌}
use Prim.Native.Nat.{ℕ, suc, ◌+◌, ◌<◌}
use native.Mathlib.Numerals.{add-one}
use native.Mathlib.Omega.{arith}
use lib.ListN.{length, take, set}
use lib.Seq.{take-suc-set}
use Rattle.model.proofs.Basics.Every.{every_of_append}
use Rattle.model.specs.Conjunct.{Atom, Node, const, atom, var, op, conv, rank, renamed, on_atom_lem, has, AtAtom}
use Rattle.model.specs.Lists.{every}
use Rattle.conjunct.proofs.node.Atoms.{is-atom, other-kept, other-plain, atom_changed}
use Rattle.conjunct.specs.Word.{is_atom_lem, source_of, atom_of, node_of}
use Rattle.conjunct.proofs.numbering.Snoc.{rank-behind}
use Rattle.conjunct.specs.Behind.{behind, atoms_of_lem, Atoms, Behind}

behind-other : (v : Node) (ks : List Atom) → AtAtom (λ a. ⊥) v → behind v ks ≡ ks
unfolding behind
behind-other (const ty i) ks h = refl
behind-other (atom a) ks h = absurd h
behind-other (var x ty) ks h = refl
behind-other (op o ty) ks h = refl
behind-other (conv ty) ks h = refl

-- one more word in the list
pub more_words : (l : List ℕ) (m w : ℕ) → m < length l → take (m + 1) (set l m w) ≡ take m l ++ (w ∷ [])
more_words l m w h = rw (add-one m) (take-suc-set l m w h)

pub more_atoms : (l : List ℕ) (m w : ℕ) → m < length l → Atoms (take m l) → is_atom_lem w ≡ true → Atoms (take (m + 1) (set l m w))
unfolding every
more_atoms l m w h a i = rw (more_words l m w h, every_of_append is_atom_lem (take m l) (w ∷ []), a, i)

module _ (l : List ℕ) (m w : ℕ) (all : Atoms (take m l)) where
  pub noted_other : is_atom_lem w ≡ false → Behind (take m l) w m l (record { word = w; count = m })
  noted_other h =
      record {
        count = omega arith;
        atoms = sym (behind-other (node_of w) (atoms_of_lem (take m l)) (other-plain w h));
        all = all;
        word = sym (other-kept (λ a. atom (renamed (behind (node_of w) (atoms_of_lem (take m l))) a)) w h);
      }

  module _ (h : is_atom_lem w ≡ true) (v n : ℕ) (e : node_of v ≡ atom (record { src = source_of w; n = n + 1 }))
      (r : n ≡ rank (atom_of w) (atoms_of_lem (take m l))) where
    -- the word with its new number
    renumbered : node_of v ≡ on_atom_lem (λ a. atom (renamed (behind (node_of w) (atoms_of_lem (take m l))) a)) (node_of w)
    unfolding renamed
    renumbered =
        let f : Node → Atom → Node = λ u a. atom (record { src = a.src; n = suc (rank a (behind u (atoms_of_lem (take m l)))) }) in
        let p : n + 1 ≡ suc (rank (atom_of w) (behind (atom (atom_of w)) (atoms_of_lem (take m l)))) =
        rw (rank-behind (atom_of w) (atoms_of_lem (take m l)), ← r) (add-one n) in
        e ∙ ap (λ k. atom (record { src = source_of w; n = k })) p ∙ ap (λ u. f u (atom_of w)) (sym (is-atom w h))
        ∙ sym (atom_changed (f (node_of w)) w h)

    pub noted-known : true ≡ has (atom_of w) (atoms_of_lem (take m l)) → Behind (take m l) w m l (record { word = v; count = m })
    unfolding behind
    noted-known k =
        record {
          count = omega arith;
          atoms = rw (is-atom w h, ← k);
          all = all;
          word = renumbered;
        }

    pub noted-new : m < length l → false ≡ has (atom_of w) (atoms_of_lem (take m l))
        → Behind (take m l) w m (set l m w) (record { word = v; count = m + 1 })
    unfolding behind
    noted-new g k =
        record {
          count = omega arith;
          atoms = rw (more_words l m w g, map-append atom_of (take m l) (w ∷ []), is-atom w h, ← k);
          all = more_atoms l m w g all h;
          word = renumbered;
        }
