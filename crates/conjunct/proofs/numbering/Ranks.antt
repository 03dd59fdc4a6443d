-- The search for an atom among the words of atoms, from place to place.
use mathlib.Core.Bool.{true, false, ◌&&◌, cond}
use mathlib.Core.List.{List, [], ◌∷◌}
use mathlib.Core.Path.{◌≡◌, refl, sym, ap, ◌∙◌}
use Prim.Native.Nat.{ℕ, suc, ◌+◌, ◌<◌, ◌≤◌}
use native.Mathlib.Nat.{zero-add, add_assoc, add-zero}
use native.Mathlib.Numerals.{add-one}
use native.Mathlib.Omega.{arith}
use lib.Dec.{eqb}
use lib.ListN.{length, take, drop, get_or}
use lib.Seq.{drop-cons, get_or-take, length-take-le, drop-length}
use borrow.Author.Tests.{eq-eqb, ne_eqb}
use Rattle.model.proofs.Basics.Every.{every-at}
use Rattle.model.proofs.Basics.Tests.{case, true→T}
use Rattle.model.specs.Conjunct.{Atom, same_source_lem, same_atom, rank, has}
use Rattle.conjunct.proofs.node.Atoms.{same-atom, same_source}
use Rattle.conjunct.specs.Word.{is_atom_lem, key_of, atom_of}
use Rattle.conjunct.specs.Behind.{atoms_of_lem, Atoms}

-- ---- one atom

rank_met : (a b : Atom) (ks : List Atom) → same_atom a b ≡ true → rank a (b ∷ ks) ≡ 0
unfolding rank same_atom
rank_met a b ks =
    case (same_source_lem a.src b.src) (λ z. (z && eqb a.n b.n) ≡ true → cond z (cond (eqb a.n b.n) 0 (suc (rank a ks))) (rank a ks) ≡ 0)
    (λ p q. rw q) (λ p q. absurd (true→T q))

rank-past : (a b : Atom) (ks : List Atom) → same_atom a b ≡ false → rank a (b ∷ ks) ≡ cond (same_source_lem a.src b.src) 1 0 + rank a ks
unfolding rank same_atom
rank-past a b ks =
    case (same_source_lem a.src b.src)
    (λ z. (z && eqb a.n b.n) ≡ false → cond z (cond (eqb a.n b.n) 0 (suc (rank a ks))) (rank a ks) ≡ cond z 1 0 + rank a ks)
    (λ p q. rw q (omega arith)) (λ p q. omega arith)

-- ---- among words

-- what is left after j words that are not it, n of them of its source
pub record Left (l : List ℕ) (m w j n : ℕ) : Type 0 where
  pub number : rank (atom_of w) (atoms_of_lem (take m l)) ≡ n + rank (atom_of w) (atoms_of_lem (drop j (take m l)))
  pub known : has (atom_of w) (atoms_of_lem (take m l)) ≡ has (atom_of w) (atoms_of_lem (drop j (take m l)))

pub left-all : (l : List ℕ) (m w : ℕ) → Left l m w 0 0
left-all l m w = record { number = sym (zero-add (rank (atom_of w) (atoms_of_lem (take m l)))); known = refl }

module _ (l : List ℕ) (m w : ℕ) (fits : m ≤ length l) (all : Atoms (take m l)) (at : is_atom_lem w ≡ true) (j n : ℕ) (r : Left l m w j n) where
  one : j < m → drop j (take m l) ≡ get_or l j 0 ∷ drop (j + 1) (take m l)
  one h =
      let len : length (take m l) ≡ m = length-take-le m l fits in
      rw (add-one j, ← get_or-take m l j 0 h) (drop-cons (take m l) j 0 (omega arith))

  is : j < m → is_atom_lem (get_or l j 0) ≡ true
  is h =
      let len : length (take m l) ≡ m = length-take-le m l fits in
      ap is_atom_lem (sym (get_or-take m l j 0 h)) ∙ every-at is_atom_lem 0 (take m l) all j (omega arith)

  pub left_met : j < m → get_or l j 0 ≡ w → (n ≡ rank (atom_of w) (atoms_of_lem (take m l))) × (true ≡ has (atom_of w) (atoms_of_lem (take m l)))
  left_met h e =
      let k = get_or l j 0 in
      let t : same_atom (atom_of w) (atom_of k) ≡ true = same-atom w k at (is h) ∙ eq-eqb w k (sym e) in
      let R = atoms_of_lem (drop (j + 1) (take m l)) in (
        sym (r.number ∙ rw (one h, rank_met (atom_of w) (atom_of k) R t, add-zero)),
        sym (r.known ∙ rw (one h, t)),
      )

  pub left-past : j < m → (get_or l j 0 ≡ w → ⊥) → Left l m w (j + 1) (n + cond (eqb (key_of w) (key_of (get_or l j 0))) 1 0)
  left-past h d =
      let k = get_or l j 0 in
      let t : same_atom (atom_of w) (atom_of k) ≡ false = same-atom w k at (is h) ∙ ne_eqb w k (λ e. d (sym e)) in
      let R = atoms_of_lem (drop (j + 1) (take m l)) in
      record {
        number = r.number ∙ rw (one h, rank-past (atom_of w) (atom_of k) R t, same_source w k at (is h), add_assoc);
        known = r.known ∙ rw (one h, t);
      }

  pub left-none : m ≤ j → j ≤ m → (n ≡ rank (atom_of w) (atoms_of_lem (take m l))) × (false ≡ has (atom_of w) (atoms_of_lem (take m l)))
  unfolding rank
  left-none h g =
      let len : length (take m l) ≡ m = length-take-le m l fits in
      let e : j ≡ length (take m l) = omega arith in
      let z : drop j (take m l) ≡ [] = ap (λ i. drop i (take m l)) e ∙ drop-length (take m l) in
      (sym (r.number ∙ rw (z, add-zero)), sym (r.known ∙ rw z))
