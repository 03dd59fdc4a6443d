-- The conjuncts for the subsets of a conjunct's loads are all different, renumbered too: for two of them there is a place where one
-- has an atom and the other the variable. So a set that has them all has at least 2 ^ n conjuncts for n loads.
use mathlib.Core.Bool.{Bool, true, false, cond}
use mathlib.Core.List.{List, [], ◌∷◌, ◌++◌, map, map-append}
use mathlib.Core.Logic.{◌⊎◌, inl, inr, ⊎_elim}
use mathlib.Core.Path.{◌≡◌, refl, sym, ap, subst, ◌∙◌}
use Prim.Native.Nat.{ℕ, suc, ◌^◌, ◌≤◌, ◌<◌, Ordering}
use native.Mathlib.Nat.{pow-suc, pow-le-pow_right}
use native.Mathlib.Omega.{arith}
use lib.ListN.{length, get_or, length-append, length-map, get_or-map}
use Rattle.model.specs.Conjunct.{Atom, Node, const, atom, var, op, conv, Conj, Conjuncts, order, place, with_conjunct, union_of, same_atom, AtAtom}
use Rattle.model.specs.Conjunct.{without, atoms, renamed, on_atom_lem, renumber}
use Rattle.model.specs.Lists.{All}
use Rattle.model.specs.Walk.{on_array, loads, swap, subsets}
use Rattle.model.specs.Sizes.{most_conjuncts}
use Rattle.model.proofs.Conjuncts.Atoms.{atom_eq, atom_self, at_imp, atoms-all}
use Rattle.model.proofs.Conjuncts.Canonical.{all_mem, union_from, union_canon, union_least, sub-length}
use Rattle.model.proofs.Basics.Lists.{all_imp, all_append, all_map}
use Rattle.model.proofs.Conjuncts.Order.{order_eq}
use Rattle.model.proofs.Basics.Tests.{case, true→T}
use Rattle.model.specs.TidySets.{Canon, Mem, Sub}

-- ---- lists without repetition

-- no conjunct twice
abbrev Distinct : List Conj → Type 0
Distinct [] = Unit {0}
Distinct (e ∷ R) = (Mem e R → ⊥) × Distinct R

mem_append : (x : Conj) (R S : List Conj) → Mem x (R ++ S) → Mem x R ⊎ Mem x S
mem_append x [] S m = inr m
mem_append x (e ∷ R) S (inl p) = inl (inl p)
mem_append x (e ∷ R) S (inr m) = ⊎_elim (λ k. inl (inr k)) (λ k. inr k) (mem_append x R S m)

distinct_append : (R S : List Conj) → Distinct R → Distinct S → ((x : Conj) → Mem x R → Mem x S → ⊥) → Distinct (R ++ S)
distinct_append [] S h k f = k
distinct_append (e ∷ R) S h k f =
    (λ m. ⊎_elim h.0 (f e (inl refl)) (mem_append e R S m), distinct_append R S h.1 k (λ x m. f x (inr m)))

placed-new : (o : Ordering) (e d : Conj) (S rest : Conjuncts) → (o ≡ Ordering.eq → ⊥) → length rest ≡ suc (length S)
    → length (place o e d S rest) ≡ suc (suc (length S))
placed-new Ordering.lt e d S rest n h = refl
placed-new Ordering.eq e d S rest n h = absurd (n refl)
placed-new Ordering.gt e d S rest n h = ap suc h

insert_new : (e : Conj) (S : Conjuncts) → (Mem e S → ⊥) → length (with_conjunct e S) ≡ suc (length S)
unfolding with_conjunct
insert_new e [] n = refl
insert_new e (d ∷ S) n = placed-new (order e d) e d S (with_conjunct e S) (λ p. n (inl (order_eq e d p))) (insert_new e S (λ m. n (inr m)))

distinct_union : (R : Conjuncts) → Distinct R → length (union_of R []) ≡ length R
unfolding union_of
distinct_union [] h = refl
distinct_union (e ∷ R) h = insert_new e (union_of R []) (λ m. ⊎_elim h.0 (λ k. k) (union_from e R [] m)) ∙ ap suc (distinct_union R h.1)

-- a canonical set that has them all is as large
distinct_within : (R G : Conjuncts) → Distinct R → Canon G → Sub R G → length R ≤ length G
distinct_within R G h c f =
    omega (arith, distinct_union R h, sub-length (union_of R []) G (union_canon R [] tt) c (union_least R [] G f (λ x m. absurd m)))

-- ---- where a conjunct has an atom

-- is it an atom?
abbrev atomic : Node → Bool
atomic (const ty i) = false
atomic (atom a) = true
atomic (var x ty) = false
atomic (op o ty) = false
atomic (conv ty) = false

-- the node at a place; past the end a constant
abbrev at : Conj → ℕ → Node
at e p = get_or e p (const 0 0)

-- the atom stands somewhere in the conjunct
abbrev Occurs : Conj → Atom → Type 0
Occurs e a = (p : ℕ) × (at e p ≡ atom a)

changed_at : (f : Atom → Node) (e : Conj) (p : ℕ) → at (map (on_atom_lem f) e) p ≡ on_atom_lem f (at e p)
changed_at f e p = get_or-map (on_atom_lem f) e p (const 0 0)

atomic_renamed : (f : Atom → Atom) (v : Node) → atomic (on_atom_lem (λ a. atom (f a)) v) ≡ atomic v
atomic_renamed f (const ty i) = refl
atomic_renamed f (atom a) = refl
atomic_renamed f (var x ty) = refl
atomic_renamed f (op o ty) = refl
atomic_renamed f (conv ty) = refl

atomic_renumber : (e : Conj) (p : ℕ) → atomic (at (renumber e) p) ≡ atomic (at e p)
unfolding renumber
atomic_renumber e p = ap atomic (changed_at (λ a. atom (renamed (atoms e) a)) e p) ∙ atomic_renamed (renamed (atoms e)) (at e p)

plain_stays : (f : Atom → Node) (v : Node) → atomic v ≡ false → atomic (on_atom_lem f v) ≡ false
plain_stays f (const ty i) h = refl
plain_stays f (atom a) h = absurd (true→T (sym h))
plain_stays f (var x ty) h = refl
plain_stays f (op o ty) h = refl
plain_stays f (conv ty) h = refl

module _ (x ty : ℕ) where
  swap-other : (a b : Atom) (e : Conj) (p : ℕ) → same_atom a b ≡ false → at e p ≡ atom a → at (swap b x ty e) p ≡ atom a
  unfolding swap
  swap-other a b e p d h =
      let f : Atom → Node = λ c. cond (same_atom c b) (var x ty) (atom c) in
      changed_at f e p ∙ ap (on_atom_lem f) h ∙ ap (λ z. cond z (var x ty) (atom a)) d

  swap-here : (a : Atom) (e : Conj) (p : ℕ) → at e p ≡ atom a → atomic (at (swap a x ty e) p) ≡ false
  unfolding swap
  swap-here a e p h =
      let f : Atom → Node = λ c. cond (same_atom c a) (var x ty) (atom c) in
      ap atomic (changed_at f e p ∙ ap (on_atom_lem f) h ∙ ap (λ z. cond z (var x ty) (atom a)) (atom_self a))

  swap-plain : (a : Atom) (e : Conj) (p : ℕ) → atomic (at e p) ≡ false → atomic (at (swap a x ty e) p) ≡ false
  unfolding swap
  swap-plain a e p h =
      let f : Atom → Node = λ c. cond (same_atom c a) (var x ty) (atom c) in
      ap atomic (changed_at f e p) ∙ plain_stays f (at e p) h

  -- an atom that is none of the chosen stays in every conjunct of the subsets, and what is no atom becomes none
  subsets_keep : (a : Atom) (p : ℕ) (ks : List Atom) (e : Conj) → All (λ b. same_atom a b ≡ false) ks → at e p ≡ atom a
      → All (λ d. atomic (at d p) ≡ true) (subsets ks x ty e)
  unfolding subsets
  subsets_keep a p [] e h k = (ap atomic k, tt)
  subsets_keep a p (b ∷ ks) e h k =
      all_append (λ d. atomic (at d p) ≡ true) (subsets ks x ty e) (subsets ks x ty (swap b x ty e))
      (subsets_keep a p ks e h.1 k) (subsets_keep a p ks (swap b x ty e) h.1 (swap-other a b e p h.0 k))

  subsets-plain : (p : ℕ) (ks : List Atom) (e : Conj) → atomic (at e p) ≡ false → All (λ d. atomic (at d p) ≡ false) (subsets ks x ty e)
  unfolding subsets
  subsets-plain p [] e h = (h, tt)
  subsets-plain p (b ∷ ks) e h =
      all_append (λ d. atomic (at d p) ≡ false) (subsets ks x ty e) (subsets ks x ty (swap b x ty e))
      (subsets-plain p ks e h) (subsets-plain p ks (swap b x ty e) (swap-plain b e p h))

-- what holds of each conjunct's atoms at a place holds of the renumbered ones
renumbered_at : (z : Bool) (p : ℕ) (R : List Conj) → All (λ d. atomic (at d p) ≡ z) R → All (λ d. atomic (at d p) ≡ z) (map renumber R)
renumbered_at z p R h = all_map (λ d. atomic (at d p) ≡ z) renumber R (all_imp (λ d k. atomic_renumber d p ∙ k) R h)

-- ---- the atoms of a conjunct

-- no atom twice
abbrev Different : List Atom → Type 0
Different [] = Unit {0}
Different (a ∷ ks) = All (λ b. same_atom a b ≡ false) ks × Different ks

without_all : (P : Atom → Type 0) (a : Atom) (ks : List Atom) → All P ks → All P (without a ks)
unfolding without
without_all P a [] h = tt
without_all P a (b ∷ ks) h =
    case (same_atom a b) (λ z. All P (cond z (without a ks) (b ∷ without a ks))) (λ q. without_all P a ks h.1)
    (λ q. (h.0, without_all P a ks h.1))

without_self : (a : Atom) (ks : List Atom) → All (λ b. same_atom a b ≡ false) (without a ks)
unfolding without
without_self a [] = tt
without_self a (b ∷ ks) =
    case (same_atom a b) (λ z. same_atom a b ≡ z → All (λ c. same_atom a c ≡ false) (cond z (without a ks) (b ∷ without a ks)))
    (λ q r. without_self a ks) (λ q r. (r, without_self a ks)) refl

without_different : (a : Atom) (ks : List Atom) → Different ks → Different (without a ks)
unfolding without
without_different a [] h = tt
without_different a (b ∷ ks) h =
    case (same_atom a b) (λ z. Different (cond z (without a ks) (b ∷ without a ks)))
    (λ q. without_different a ks h.1) (λ q. (without_all (λ c. same_atom b c ≡ false) a ks h.0, without_different a ks h.1))

atoms_different : (e : Conj) → Different (atoms e)
unfolding atoms
atoms_different [] = tt
atoms_different (const ty i ∷ e) = atoms_different e
atoms_different (atom a ∷ e) = (without_self a (atoms e), without_different a (atoms e) (atoms_different e))
atoms_different (var x ty ∷ e) = atoms_different e
atoms_different (op o ty ∷ e) = atoms_different e
atoms_different (conv ty ∷ e) = atoms_different e

-- each stands in the conjunct
occurs_later : (v : Node) (e : Conj) (a : Atom) → Occurs e a → Occurs (v ∷ e) a
occurs_later v e a h = (suc h.0, h.1)

occurs_first : (v : Node) (e : Conj) → AtAtom (Occurs (v ∷ e)) v
occurs_first (const ty i) e = tt
occurs_first (atom a) e = (0, refl)
occurs_first (var x ty) e = tt
occurs_first (op o ty) e = tt
occurs_first (conv ty) e = tt

occurs_each : (e : Conj) → All (AtAtom (Occurs e)) e
occurs_each [] = tt
occurs_each (v ∷ e) = (occurs_first v e, all_imp (at_imp (Occurs e) (Occurs (v ∷ e)) (occurs_later v e)) e (occurs_each e))

module _ (t k : ℕ) where
  loads-all : (P : Atom → Type 0) (ks : List Atom) → All P ks → All P (loads t k ks)
  unfolding loads
  loads-all P [] h = tt
  loads-all P (a ∷ ks) h =
      case (on_array t k a.src) (λ z. All P (cond z (a ∷ loads t k ks) (loads t k ks))) (λ q. (h.0, loads-all P ks h.1))
      (λ q. loads-all P ks h.1)

  loads_different : (ks : List Atom) → Different ks → Different (loads t k ks)
  unfolding loads
  loads_different [] h = tt
  loads_different (a ∷ ks) h =
      case (on_array t k a.src) (λ z. Different (cond z (a ∷ loads t k ks) (loads t k ks)))
      (λ q. (loads-all (λ b. same_atom a b ≡ false) ks h.0, loads_different ks h.1)) (λ q. loads_different ks h.1)

-- ---- the subsets

module _ (x ty : ℕ) where
  pub subsets-length : (ks : List Atom) (e : Conj) → length (subsets ks x ty e) ≡ 2 ^ length ks
  unfolding subsets
  subsets-length [] e = refl
  subsets-length (a ∷ ks) e =
      length-append (subsets ks x ty e) (subsets ks x ty (swap a x ty e))
      ∙ omega (arith, subsets-length ks e, subsets-length ks (swap a x ty e), pow-suc 2 (length ks))

  -- those that still stand in the conjunct after another was swapped
  stand_after : (a : Atom) (e : Conj) (ks : List Atom) → All (λ b. same_atom a b ≡ false) ks → All (Occurs e) ks → All (Occurs (swap a x ty e)) ks
  stand_after a e [] d h = tt
  stand_after a e (b ∷ ks) d h =
      ((h.0.0, swap-other x ty b a e h.0.0 (flip d) h.0.1), stand_after a e ks d.1 h.1)
    where
      flip : All (λ c. same_atom a c ≡ false) (b ∷ ks) → same_atom b a ≡ false
      flip d =
          case (same_atom b a) (λ z. same_atom b a ≡ z → z ≡ false)
          (λ q r. absurd (true→T (sym d.0 ∙ ap (same_atom a) (atom_eq b a r) ∙ atom_self a))) (λ q r. refl) refl

  subsets_distinct : (ks : List Atom) (e : Conj) → Different ks → All (Occurs e) ks → Distinct (map renumber (subsets ks x ty e))
  unfolding subsets
  subsets_distinct [] e d h = ((λ m. m), tt)
  subsets_distinct (a ∷ ks) e d h =
      let A = subsets ks x ty e in
      let B = subsets ks x ty (swap a x ty e) in
      let p = h.0.0 in
      let kept : All (λ c. atomic (at c p) ≡ true) (map renumber A) = renumbered_at true p A (subsets_keep x ty a p ks e d.0 h.0.1) in
      let gone : All (λ c. atomic (at c p) ≡ false) (map renumber B) =
      renumbered_at false p B (subsets-plain x ty p ks (swap a x ty e) (swap-here x ty a e p h.0.1)) in
      subst Distinct (sym (map-append renumber A B))
      (distinct_append (map renumber A) (map renumber B) (subsets_distinct ks e d.1 h.1)
      (subsets_distinct ks (swap a x ty e) d.1 (stand_after a e ks d.0 h.1))
      (λ c m n.
      true→T (sym (all_mem (λ d. atomic (at d p) ≡ false) (map renumber B) gone c n)
      ∙ all_mem (λ d. atomic (at d p) ≡ true) (map renumber A) kept c m)))

-- a canonical set with the conjuncts for every subset of the loads
pub subsets-many : (t k x ty : ℕ) (e : Conj) (G : Conjuncts) → Canon G → Sub (map renumber (subsets (loads t k (atoms e)) x ty e)) G
    → 2 ^ length (loads t k (atoms e)) ≤ length G
subsets-many t k x ty e G c f =
    let ks = loads t k (atoms e) in
    let many = distinct_within (map renumber (subsets ks x ty e)) G
    (subsets_distinct x ty ks e (loads_different t k (atoms e) (atoms_different e))
    (loads-all t k (Occurs e) (atoms e) (atoms-all (Occurs e) e (occurs_each e)))) c f in
    omega (arith, length-map (subsets ks x ty e) renumber, subsets-length x ty ks e)

-- for seven loads or more, more than 64
pub seven_many : (n : ℕ) → 7 ≤ n → most_conjuncts < 2 ^ n
seven_many n h = omega (arith, pow-le-pow_right {n = 2} (omega arith) {i = 7} {j = n} h)
