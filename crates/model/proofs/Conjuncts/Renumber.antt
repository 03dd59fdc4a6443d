-- A change of the atoms' numbers that keeps different atoms different changes nothing of the renumbered conjunct; so renumbering is idempotent.
use mathlib.Core.Path.{◌≡◌, refl, sym, ◌∙◌, ap, ap₂}
use mathlib.Core.Bool.{true, false, ◌&&◌, cond}
use mathlib.Core.List.{List, [], ◌∷◌, map}
use Prim.Native.Nat.{ℕ, suc}
use lib.Dec.{eqb, eqb-suc-suc}
use borrow.Author.Tests.{eqb-true}
use Rattle.model.specs.Conjunct.{Atom, const, atom, var, op, conv, Conj, same_source_lem, same_atom, without, atoms, rank, renamed, on_atom_lem, renumber, has, AtAtom}
use Rattle.model.specs.Lists.{All}
use Rattle.model.specs.TidySets.{Numbered}
use Rattle.model.proofs.Conjuncts.Atoms.{at_any, atoms-all, has-atoms, nth, nth_rank, source_eq}
use Rattle.model.proofs.Basics.Lists.{all_of}
use Rattle.model.proofs.Basics.Tests.{case, true→T, eqb_self}

-- ---- other numbers

-- the atom with the number that g gives it
abbrev pub moved : (Atom → ℕ) → Atom → Atom
moved g a = record { src = a.src; n = g a }

-- a conjunct with such numbers
abbrev pub moved_all : (Atom → ℕ) → Conj → Conj
moved_all g e = map (on_atom_lem (λ a. atom (moved g a))) e

module _ (g : Atom → ℕ) (P : Atom → Type 0)
    (apart : (a b : Atom) → P a → P b → same_source_lem a.src b.src ≡ true → eqb (g a) (g b) ≡ eqb a.n b.n) where
  same-moved : (a b : Atom) → P a → P b → same_atom (moved g a) (moved g b) ≡ same_atom a b
  unfolding same_atom
  same-moved a b p q = case (same_source_lem a.src b.src) (λ z. (z && eqb (g a) (g b)) ≡ (z && eqb a.n b.n)) (λ s. apart a b p q s) (λ s. refl)

  without-moved : (a : Atom) (ks : List Atom) → P a → All P ks → without (moved g a) (map (moved g) ks) ≡ map (moved g) (without a ks)
  unfolding without
  without-moved a [] p h = refl
  without-moved a (b ∷ ks) p h =
      let ih = without-moved a ks p h.1 in
      let W = without (moved g a) (map (moved g) ks) in
      ap (λ z. cond z W (moved g b ∷ W)) (same-moved a b p h.0)
      ∙ case (same_atom a b) (λ z. cond z W (moved g b ∷ W) ≡ map (moved g) (cond z (without a ks) (b ∷ without a ks))) (λ s. ih) (λ s. ap (moved g b ∷◌) ih)

  rank-moved : (a : Atom) (ks : List Atom) → P a → All P ks → rank (moved g a) (map (moved g) ks) ≡ rank a ks
  unfolding rank
  rank-moved a [] p h = refl
  rank-moved a (b ∷ ks) p h =
      let ih = rank-moved a ks p h.1 in
      let r = rank (moved g a) (map (moved g) ks) in
      case (same_source_lem a.src b.src) (λ z. cond z (cond (eqb (g a) (g b)) 0 (suc r)) r ≡ cond z (cond (eqb a.n b.n) 0 (suc (rank a ks))) (rank a ks))
      (λ s. ap₂ (λ z m. cond z 0 (suc m)) (apart a b p h.0 s) ih) (λ s. ih)

  atoms-moved : (e : Conj) → All (AtAtom P) e → atoms (moved_all g e) ≡ map (moved g) (atoms e)
  unfolding atoms
  atoms-moved [] h = refl
  atoms-moved (const ty i ∷ e) h = atoms-moved e h.1
  atoms-moved (atom a ∷ e) h =
      ap (λ ks. moved g a ∷ without (moved g a) ks) (atoms-moved e h.1) ∙ ap (moved g a ∷◌) (without-moved a (atoms e) h.0 (atoms-all P e h.1))
  atoms-moved (var x ty ∷ e) h = atoms-moved e h.1
  atoms-moved (op o ty ∷ e) h = atoms-moved e h.1
  atoms-moved (conv ty ∷ e) h = atoms-moved e h.1

  numbers_moved : (ks : List Atom) → All P ks → (e : Conj) → All (AtAtom P) e
      → map (on_atom_lem (λ a. atom (renamed (map (moved g) ks) a))) (moved_all g e) ≡ map (on_atom_lem (λ a. atom (renamed ks a))) e
  unfolding renamed
  numbers_moved ks k [] h = refl
  numbers_moved ks k (const ty i ∷ e) h = ap (const ty i ∷◌) (numbers_moved ks k e h.1)
  numbers_moved ks k (atom a ∷ e) h =
      ap₂ (λ m d. atom (record { src = a.src; n = suc m }) ∷ d) (rank-moved a ks h.0 k) (numbers_moved ks k e h.1)
  numbers_moved ks k (var x ty ∷ e) h = ap (var x ty ∷◌) (numbers_moved ks k e h.1)
  numbers_moved ks k (op o ty ∷ e) h = ap (op o ty ∷◌) (numbers_moved ks k e h.1)
  numbers_moved ks k (conv ty ∷ e) h = ap (conv ty ∷◌) (numbers_moved ks k e h.1)

  pub renumber-moved : (e : Conj) → All (AtAtom P) e → renumber (moved_all g e) ≡ renumber e
  unfolding renumber
  renumber-moved e h =
      ap (λ ks. map (on_atom_lem (λ a. atom (renamed ks a))) (moved_all g e)) (atoms-moved e h) ∙ numbers_moved (atoms e) (atoms-all P e h) e h

-- ---- two uses

-- every number one higher
pub renumber-raised : (e : Conj) → renumber (moved_all (λ a. suc a.n) e) ≡ renumber e
renumber-raised e = renumber-moved (λ a. suc a.n) (λ a. Unit {0}) (λ a b p q s. eqb-suc-suc a.n b.n) e (all_of at_any e)

-- in the same source, different numbers have different ranks
rank-apart : (ks : List Atom) (a b : Atom) → has a ks ≡ true → has b ks ≡ true → same_source_lem a.src b.src ≡ true → eqb (suc (rank a ks)) (suc (rank b ks)) ≡ eqb a.n b.n
rank-apart ks a b p q s =
    eqb-suc-suc (rank a ks) (rank b ks)
    ∙ case (eqb a.n b.n) (λ z. eqb (rank a ks) (rank b ks) ≡ z)
    (λ t. ap (λ m. eqb (rank a ks) m) (sym (ap₂ (λ u m. rank (record { src = u; n = m }) ks) same (eqb-true a.n b.n t))) ∙ eqb_self (rank a ks))
    (λ t. case (eqb (rank a ks) (rank b ks)) (λ z. z ≡ false)
    (λ r. absurd (true→T (sym t ∙ ap (λ m. eqb a.n m) (sym (numbers (eqb-true (rank a ks) (rank b ks) r))) ∙ eqb_self a.n))) (λ r. refl))
  where
    same : a.src ≡ b.src
    same = source_eq a.src b.src s

    numbers : rank a ks ≡ rank b ks → a.n ≡ b.n
    numbers r = sym (nth_rank a ks p) ∙ ap₂ (λ u m. nth u m ks) same r ∙ nth_rank b ks q

pub renumber_idem : (e : Conj) → Numbered (renumber e)
unfolding renumber renamed
renumber_idem e = renumber-moved (λ a. suc (rank a (atoms e))) (λ a. has a (atoms e) ≡ true) (rank-apart (atoms e)) e (has-atoms e)
