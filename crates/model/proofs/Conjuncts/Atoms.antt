-- The atoms of a conjunct: when two are the same, what holds of each of them, that each is among the distinct atoms, and its number by its rank.
use mathlib.Core.Path.{◌≡◌, refl, ap, ap₂, subst, sym, ◌∙◌}
use mathlib.Core.Logic.{◌⊎◌, inl, inr}
use mathlib.Core.Bool.{Bool, true, false, ◌&&◌, ◌||◌, cond}
use mathlib.Core.List.{List, [], ◌∷◌, map}
use Prim.Native.Nat.{ℕ, zero, suc}
use lib.Dec.{eqb}
use borrow.Author.Tests.{eqb-true}
use Rattle.model.specs.Conjunct.{Source, field, cell, Atom, Node, const, atom, var, op, conv, Conj, same_source_lem, same_atom, without, note, atoms, rank, on_atom_lem, AtAtom, has}
use Rattle.model.specs.Lists.{All}
use Rattle.model.proofs.Basics.Lists.{all_imp, all_map}
use Rattle.model.proofs.Basics.Tests.{decide, case, true→T, and_left, and_right, eqb_self}

-- ---- the same source, the same atom

pub source_eq : (s t : Source) → same_source_lem s t ≡ true → s ≡ t
unfolding same_source_lem
source_eq (field f ty) (field g u) e = ap₂ field (eqb-true f g (and_left (eqb f g) (eqb ty u) e)) (eqb-true ty u (and_right (eqb f g) (eqb ty u) e))
source_eq (field f ty) (cell l t k u) e = absurd (true→T e)
source_eq (cell l t k ty) (field g u) e = absurd (true→T e)
source_eq (cell l t k ty) (cell m s j u) e =
    let e₁ = and_left (eqb l m && eqb t s && eqb k j) (eqb ty u) e in
    let e₂ = and_left (eqb l m && eqb t s) (eqb k j) e₁ in
    let p = eqb-true l m (and_left (eqb l m) (eqb t s) e₂) in
    let q = eqb-true t s (and_right (eqb l m) (eqb t s) e₂) in
    let r = eqb-true k j (and_right (eqb l m && eqb t s) (eqb k j) e₁) in
    let w = eqb-true ty u (and_right (eqb l m && eqb t s && eqb k j) (eqb ty u) e) in
    λ i. cell (p i) (q i) (r i) (w i)

pub source_self : (s : Source) → same_source_lem s s ≡ true
unfolding same_source_lem
source_self (field f ty) = simp eqb_self
source_self (cell l t k ty) = simp eqb_self

pub atom_eq : (a b : Atom) → same_atom a b ≡ true → a ≡ b
unfolding same_atom
atom_eq a b e =
    let p = source_eq a.src b.src (and_left (same_source_lem a.src b.src) (eqb a.n b.n) e) in
    let q = eqb-true a.n b.n (and_right (same_source_lem a.src b.src) (eqb a.n b.n) e) in
    λ i. record { src = p i; n = q i }

pub atom_self : (a : Atom) → same_atom a a ≡ true
unfolding same_atom
atom_self a = simp (eqb_self, source_self)

-- ---- nodes by their atoms

pub at_any : (v : Node) → AtAtom (λ a. Unit {0}) v
at_any (const ty i) = tt
at_any (atom a) = tt
at_any (var x ty) = tt
at_any (op o ty) = tt
at_any (conv ty) = tt

pub at_imp : (P Q : Atom → Type 0) → ((a : Atom) → P a → Q a) → (v : Node) → AtAtom P v → AtAtom Q v
at_imp P Q f (const ty i) h = tt
at_imp P Q f (atom a) h = f a h
at_imp P Q f (var x ty) h = tt
at_imp P Q f (op o ty) h = tt
at_imp P Q f (conv ty) h = tt

pub at-on_atom : (P Q : Atom → Type 0) (g : Atom → Node) → ((a : Atom) → P a → AtAtom Q (g a)) → (v : Node) → AtAtom P v → AtAtom Q (on_atom_lem g v)
at-on_atom P Q g f (const ty i) h = tt
at-on_atom P Q g f (atom a) h = f a h
at-on_atom P Q g f (var x ty) h = tt
at-on_atom P Q g f (op o ty) h = tt
at-on_atom P Q g f (conv ty) h = tt

-- what holds of every atom of one conjunct, and so of every atom of another
pub every_imp : (P Q : Atom → Type 0) → ((a : Atom) → P a → Q a) → (e : Conj) → All (AtAtom P) e → All (AtAtom Q) e
every_imp P Q f e h = all_imp (at_imp P Q f) e h

pub every_map : (P Q : Atom → Type 0) (g : Atom → Node) → ((a : Atom) → P a → AtAtom Q (g a)) → (e : Conj) → All (AtAtom P) e → All (AtAtom Q) (map (on_atom_lem g) e)
every_map P Q g f e h = all_map (AtAtom Q) (on_atom_lem g) e (all_imp (at-on_atom P Q g f) e h)

-- ---- the distinct atoms

-- what holds of every atom of a conjunct holds of its distinct atoms
module _ (P : Atom → Type 0) where
  without_all : (a : Atom) (ks : List Atom) → All P ks → All P (without a ks)
  unfolding without
  without_all a [] h = tt
  without_all a (b ∷ ks) h =
      let ih = without_all a ks h.1 in
      case (same_atom a b) (λ z. All P (cond z (without a ks) (b ∷ without a ks))) (λ q. ih) (λ q. (h.0, ih))

  pub atoms-all : (e : Conj) → All (AtAtom P) e → All P (atoms e)
  unfolding atoms
  atoms-all [] h = tt
  atoms-all (const ty i ∷ e) h = atoms-all e h.1
  atoms-all (atom a ∷ e) h = (h.0, without_all a (atoms e) (atoms-all e h.1))
  atoms-all (var x ty ∷ e) h = atoms-all e h.1
  atoms-all (op o ty ∷ e) h = atoms-all e h.1
  atoms-all (conv ty ∷ e) h = atoms-all e h.1

-- another atom stays when b is removed
has-without : (a b : Atom) (bs : List Atom) → same_atom a b ≡ false → has a bs ≡ true → has a (without b bs) ≡ true
unfolding without
has-without a b [] n h = h
has-without a b (c ∷ cs) n h =
    let ih = has-without a b cs n in
    case (same_atom b c) (λ z. has a (cond z (without b cs) (c ∷ without b cs)) ≡ true)
    (λ p. ih (subst (λ z. (z || has a cs) ≡ true) (ap (same_atom a) (sym (atom_eq b c p)) ∙ n) h))
    (λ p. case (same_atom a c) (λ z. (z || has a cs) ≡ true → (z || has a (without b cs)) ≡ true) (λ q k. refl) (λ q k. ih k) h)

has-note : (b a : Atom) (ks : List Atom) → has a ks ≡ true → has a (b ∷ without b ks) ≡ true
has-note b a ks h = case (same_atom a b) (λ z. (z || has a (without b ks)) ≡ true) (λ p. refl) (λ p. has-without a b ks p h)

has_older : (v : Node) (a : Atom) (ks : List Atom) → has a ks ≡ true → has a (note v ks) ≡ true
has_older (const ty i) a ks h = h
has_older (atom b) a ks h = has-note b a ks h
has_older (var x ty) a ks h = h
has_older (op o ty) a ks h = h
has_older (conv ty) a ks h = h

has_self : (v : Node) (ks : List Atom) → AtAtom (λ a. has a (note v ks) ≡ true) v
has_self (const ty i) ks = tt
has_self (atom a) ks = rw atom_self
has_self (var x ty) ks = tt
has_self (op o ty) ks = tt
has_self (conv ty) ks = tt

-- every atom of a conjunct is among its atoms
pub has-atoms : (e : Conj) → All (AtAtom (λ a. has a (atoms e) ≡ true)) e
unfolding atoms
has-atoms [] = tt
has-atoms (v ∷ e) = (
  has_self v (atoms e),
  all_imp (at_imp (λ a. has a (atoms e) ≡ true) (λ a. has a (note v (atoms e)) ≡ true) (λ a. has_older v a (atoms e))) e (has-atoms e),
)

-- the number of the atom of this source that has the rank m
pub nth : Source → ℕ → List Atom → ℕ
nth s m [] = 0
nth s m (b ∷ bs) = cond (same_source_lem s b.src) (elim m [ zero ↦ b.n | suc k ↦ nth s k bs ]) (nth s m bs)

pub nth_rank : (a : Atom) (bs : List Atom) → has a bs ≡ true → nth a.src (rank a bs) bs ≡ a.n
unfolding nth rank same_atom
nth_rank a [] h = absurd (true→T h)
nth_rank a (b ∷ bs) h = go (decide (same_source_lem a.src b.src)) (decide (eqb a.n b.n)) (nth_rank a bs)
  where
    go : (same_source_lem a.src b.src ≡ true) ⊎ (same_source_lem a.src b.src ≡ false) → (eqb a.n b.n ≡ true) ⊎ (eqb a.n b.n ≡ false)
        → (has a bs ≡ true → nth a.src (rank a bs) bs ≡ a.n) → nth a.src (rank a (b ∷ bs)) (b ∷ bs) ≡ a.n
    go (inl p) (inl q) ih = rw (p, q) (sym (eqb-true a.n b.n q))
    go (inl p) (inr q) ih = rw (p, q) (ih (rw (p, q) at h))
    go (inr p) q ih = rw p (ih (rw p at h))
