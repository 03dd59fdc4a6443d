-- The loads from an array among the atoms of a conjunct that grows at its end.
use mathlib.Core.Bool.{Bool, true, false, cond}
use mathlib.Core.List.{List, [], ◌∷◌, map, map-append}
use mathlib.Core.Path.{◌≡◌, refl, sym, ap, ap₂, ◌∙◌}
use Prim.Native.Nat.{ℕ, ◌+◌, ◌<◌}
use native.Mathlib.Numerals.{add-one}
use native.Mathlib.Omega.{arith}
use lib.ListN.{length, take, get_or, set}
use lib.Seq.{take-suc}
use Rattle.model.proofs.Basics.Tests.{case, true→T, and_left, and_right}
use Rattle.model.specs.Conjunct.{Atom, Node, const, atom, var, op, conv, atoms, has, AtAtom}
use Rattle.model.specs.Lists.{every}
use Rattle.model.specs.Walk.{on_array, loads}
use Rattle.model.specs.Touch.{is_load_lem}
use Rattle.conjunct.proofs.node.Atoms.{is-atom, other-kept}
use Rattle.conjunct.specs.Word.{is_atom_lem, atom_of, node_of, nodes_of_lem}
use Rattle.conjunct.proofs.numbering.Notes.{more_words, more_atoms}
use Rattle.conjunct.proofs.numbering.Snoc.{atoms_snoc}
use Rattle.conjunct.proofs.numbering.Sources.{passing, passing-behind, passing-other}
use Rattle.conjunct.specs.Behind.{behind, atoms_of_lem, Atoms, LoadBehind}

module _ (t k : ℕ) where
  -- the loads are the atoms whose source is the array
  loads-passing : (ks : List Atom) → loads t k ks ≡ passing (on_array t k) ks
  unfolding loads passing
  loads-passing [] = refl
  loads-passing (a ∷ ks) = ap (λ ls. cond (on_array t k a.src) (a ∷ ls) ls) (loads-passing ks)

  load-source : (v : Node) (b : Bool) → is_load_lem t k v ≡ b → AtAtom (λ a. on_array t k a.src ≡ b) v
  load-source (const ty i) b h = tt
  load-source (atom a) b h = h
  load-source (var x ty) b h = tt
  load-source (op o ty) b h = tt
  load-source (conv ty) b h = tt

  loads-behind : (v : Node) (ks : List Atom) → loads t k (behind v ks) ≡ cond (is_load_lem t k v) (behind v (loads t k ks)) (loads t k ks)
  loads-behind v ks =
      rw (loads-passing (behind v ks), loads-passing ks)
      (case (is_load_lem t k v) (λ z. passing (on_array t k) (behind v ks) ≡ cond z (behind v (passing (on_array t k) ks)) (passing (on_array t k) ks))
      (λ p. passing-behind (on_array t k) v ks (load-source v true p)) (λ p. passing-other (on_array t k) v ks (load-source v false p)))

  -- a load is an atom
  not-load : (v : Node) → ((f : Atom → Node) → Rattle.model.specs.Conjunct.on_atom_lem f v ≡ v) → is_load_lem t k v ≡ true → ⊥
  not-load (const ty i) h p = true→T p
  not-load (atom a) h p = no (h (λ b. const 0 0))
    where
      no : const 0 0 ≡ atom a → ⊥
      no e = let z : ◌≡◌ {A = ℕ} 0 1 = cc in omega arith
  not-load (var x ty) h p = true→T p
  not-load (op o ty) h p = true→T p
  not-load (conv ty) h p = true→T p

  pub load-atom : (w : ℕ) → is_load_lem t k (node_of w) ≡ true → is_atom_lem w ≡ true
  load-atom w h = case (is_atom_lem w) (λ z. is_atom_lem w ≡ z → z ≡ true) (λ p q. refl) (λ p q. absurd (not-load (node_of w) (λ f. other-kept f w q) h)) refl

  -- ---- the three cases of one word

  module _ (l : List ℕ) (m w : ℕ) (all : Atoms (take m l)) where
    pub load-other : is_load_lem t k (node_of w) ≡ false → LoadBehind t k (take m l) w (take m l)
    load-other h = record { atoms = rw h; all = all }

    pub load-known : is_load_lem t k (node_of w) ≡ true → true ≡ has (atom_of w) (atoms_of_lem (take m l)) → LoadBehind t k (take m l) w (take m l)
    unfolding behind
    load-known h g = record { atoms = rw (h, is-atom w (load-atom w h), ← g); all = all }

    pub load-new : m < length l → is_load_lem t k (node_of w) ≡ true → false ≡ has (atom_of w) (atoms_of_lem (take m l))
        → LoadBehind t k (take m l) w (take (m + 1) (set l m w))
    unfolding behind
    load-new f h g =
        record {
          atoms = rw (h, is-atom w (load-atom w h), ← g, more_words l m w f, map-append atom_of (take m l) (w ∷ []));
          all = more_atoms l m w f all (load-atom w h);
        }

  -- ---- one word more

  pub loads-next : (l : List ℕ) (i : ℕ) (ks after : List ℕ) → i < length l → atoms_of_lem ks ≡ loads t k (atoms (nodes_of_lem (take i l)))
      → LoadBehind t k ks (get_or l i 0) after
      → atoms_of_lem after ≡ loads t k (atoms (nodes_of_lem (take (i + 1) l)))
  loads-next l i ks after h e b =
      let v = node_of (get_or l i 0) in
      b.atoms ∙ ap (λ x. cond (is_load_lem t k v) (behind v x) x) e ∙ sym (loads-behind v (atoms (nodes_of_lem (take i l))))
      ∙ ap (loads t k) (sym (atoms_snoc (nodes_of_lem (take i l)) v))
      ∙ rw (add-one i, take-suc l i 0 h, map-append node_of (take i l) (get_or l i 0 ∷ []))

-- the nodes of words that are all atoms'
pub nodes-atoms : (ws : List ℕ) → Atoms ws → nodes_of_lem ws ≡ map atom (atoms_of_lem ws)
unfolding every
nodes-atoms [] h = refl
nodes-atoms (w ∷ ws) h = ap₂ ◌∷◌ (is-atom w (and_left (is_atom_lem w) (every is_atom_lem ws) h)) (nodes-atoms ws (and_right (is_atom_lem w) (every is_atom_lem ws) h))
