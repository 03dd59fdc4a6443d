-- Sets: members of `insert` and `union`, canonical lists, and the algebra of unions.
use mathlib.Core.Path.{◌≡◌, refl, sym, ◌∙◌, ap, ap₂, subst}
use mathlib.Core.Logic.{◌⊎◌, inl, inr, ⊎_elim, ◌↔◌}
use mathlib.Core.List.{[], ◌∷◌, ◌++◌}
use Prim.Native.Nat.{suc, ◌+◌, ◌≤◌, Ordering}
use native.Mathlib.Omega.{arith}
use lib.ListN.{length}
use Rattle.model.specs.Conjunct.{Conj, Conjuncts, order, place, with_conjunct, union_of}
use Rattle.model.specs.Lists.{All}
use Rattle.model.specs.TidySets.{Less, Canon, Mem, Sub}
use Rattle.model.proofs.Basics.Lists.{all_imp}
use Rattle.model.proofs.Conjuncts.Order.{flip, order_flip, less_irreflexive, less_trans, order_eq}

-- ---- members

pub all_mem : (P : Conj → Type 0) (S : Conjuncts) → All P S → (x : Conj) → Mem x S → P x
all_mem P [] h x m = absurd m
all_mem P (e ∷ S) h x (inl p) = subst P (sym p) h.0
all_mem P (e ∷ S) h x (inr m) = all_mem P S h.1 x m

pub mem_all : (P : Conj → Type 0) (S : Conjuncts) → ((x : Conj) → Mem x S → P x) → All P S
mem_all P [] h = tt
mem_all P (e ∷ S) h = (h e (inl refl), mem_all P S (λ x m. h x (inr m)))

pub sub_self : (S : Conjuncts) → Sub S S
sub_self S x m = m

-- ---- members of a set with one conjunct more

module _ (x : Conj) where
  placed-from : (o : Ordering) (e d : Conj) (S rest : Conjuncts) → (Mem x rest → (x ≡ e) ⊎ Mem x S) → Mem x (place o e d S rest) → (x ≡ e) ⊎ Mem x (d ∷ S)
  placed-from Ordering.lt e d S rest f m = m
  placed-from Ordering.eq e d S rest f m = inr m
  placed-from Ordering.gt e d S rest f (inl p) = inr (inl p)
  placed-from Ordering.gt e d S rest f (inr m) = later (f m)
    where
      later : (x ≡ e) ⊎ Mem x S → (x ≡ e) ⊎ Mem x (d ∷ S)
      later (inl p) = inl p
      later (inr n) = inr (inr n)

  pub insert_from : (e : Conj) (S : Conjuncts) → Mem x (with_conjunct e S) → (x ≡ e) ⊎ Mem x S
  unfolding with_conjunct
  insert_from e [] m = m
  insert_from e (d ∷ S) m = placed-from (order e d) e d S (with_conjunct e S) (insert_from e S) m

  placed-new : (o : Ordering) (e d : Conj) (S rest : Conjuncts) → (o ≡ Ordering.eq → e ≡ d) → Mem x rest → x ≡ e → Mem x (place o e d S rest)
  placed-new Ordering.lt e d S rest q m p = inl p
  placed-new Ordering.eq e d S rest q m p = inl (p ∙ q refl)
  placed-new Ordering.gt e d S rest q m p = inr m

  pub insert_new : (e : Conj) (S : Conjuncts) → x ≡ e → Mem x (with_conjunct e S)
  unfolding with_conjunct
  insert_new e [] p = inl p
  insert_new e (d ∷ S) p = placed-new (order e d) e d S (with_conjunct e S) (order_eq e d) (insert_new e S p) p

  placed_old : (o : Ordering) (e d : Conj) (S rest : Conjuncts) → (Mem x S → Mem x rest) → Mem x (d ∷ S) → Mem x (place o e d S rest)
  placed_old Ordering.lt e d S rest f m = inr m
  placed_old Ordering.eq e d S rest f m = m
  placed_old Ordering.gt e d S rest f (inl p) = inl p
  placed_old Ordering.gt e d S rest f (inr m) = inr (f m)

  pub insert_old : (e : Conj) (S : Conjuncts) → Mem x S → Mem x (with_conjunct e S)
  unfolding with_conjunct
  insert_old e [] m = absurd m
  insert_old e (d ∷ S) m = placed_old (order e d) e d S (with_conjunct e S) (insert_old e S) m

  -- ---- members of a union

  pub union_from : (R S : Conjuncts) → Mem x (union_of R S) → Mem x R ⊎ Mem x S
  unfolding union_of
  union_from [] S m = inr m
  union_from (e ∷ R) S m = first (insert_from e (union_of R S) m) (union_from R S)
    where
      second : Mem x R ⊎ Mem x S → Mem x (e ∷ R) ⊎ Mem x S
      second (inl n) = inl (inr n)
      second (inr n) = inr n

      first : (x ≡ e) ⊎ Mem x (union_of R S) → (Mem x (union_of R S) → Mem x R ⊎ Mem x S) → Mem x (e ∷ R) ⊎ Mem x S
      first (inl p) f = inl (inl p)
      first (inr n) f = second (f n)

  pub union_left : (R S : Conjuncts) → Mem x R → Mem x (union_of R S)
  unfolding union_of
  union_left [] S m = absurd m
  union_left (e ∷ R) S (inl p) = insert_new e (union_of R S) p
  union_left (e ∷ R) S (inr m) = insert_old e (union_of R S) (union_left R S m)

  pub union_right : (R S : Conjuncts) → Mem x S → Mem x (union_of R S)
  unfolding union_of
  union_right [] S m = m
  union_right (e ∷ R) S m = insert_old e (union_of R S) (union_right R S m)

-- a conjunct is in the union if and only if it is in one of the two
pub union_members : (x : Conj) (R S : Conjuncts) → Mem x (union_of R S) ↔ (Mem x R ⊎ Mem x S)
union_members x R S = (union_from x R S, ⊎_elim (union_left x R S) (union_right x R S))

-- the least set that has both
pub union_least : (R S T : Conjuncts) → Sub R T → Sub S T → Sub (union_of R S) T
union_least R S T f g x m = ⊎_elim (f x) (g x) (union_from x R S m)

pub union_mono : (R S R' S' : Conjuncts) → Sub R R' → Sub S S' → Sub (union_of R S) (union_of R' S')
union_mono R S R' S' f g = union_least R S (union_of R' S') (λ x m. union_left x R' S' (f x m)) (λ x m. union_right x R' S' (g x m))

-- what holds of all of a union holds of all of both, and the other way round
module _ (P : Conj → Type 0) (R S : Conjuncts) where
  pub union_all : All P (union_of R S) → All P R × All P S
  union_all h =
      let each = all_mem P (union_of R S) h in
      (mem_all P R (λ x m. each x (union_left x R S m)), mem_all P S (λ x m. each x (union_right x R S m)))

  pub union_every : All P R → All P S → All P (union_of R S)
  union_every h k = mem_all P (union_of R S) (λ x m. ⊎_elim (all_mem P R h x) (all_mem P S k x) (union_from x R S m))

-- ---- canonical lists

above : (e d : Conj) (S : Conjuncts) → Less e d → All (Less d) S → All (Less e) S
above e d S h k = all_imp (λ x l. less_trans e d x h l) S k

insert_above : (d e : Conj) (S : Conjuncts) → Less d e → All (Less d) S → All (Less d) (with_conjunct e S)
insert_above d e S h k = mem_all (Less d) (with_conjunct e S) (λ x m. ⊎_elim (λ p. subst (Less d) (sym p) h) (all_mem (Less d) S k x) (insert_from x e S m))

placed-canon : (o : Ordering) (e d : Conj) (S rest : Conjuncts) → order e d ≡ o → (Less d e → All (Less d) rest) → Canon rest → Canon (d ∷ S) → Canon (place o e d S rest)
placed-canon Ordering.lt e d S rest q f c h = ((q, above e d S q h.0), h)
placed-canon Ordering.eq e d S rest q f c h = h
placed-canon Ordering.gt e d S rest q f c h = (f (order_flip e d ∙ ap flip q), c)

pub insert_canon : (e : Conj) (S : Conjuncts) → Canon S → Canon (with_conjunct e S)
unfolding with_conjunct
insert_canon e [] h = (tt, tt)
insert_canon e (d ∷ S) h =
    placed-canon (order e d) e d S (with_conjunct e S) refl (λ l. insert_above d e S l h.0) (insert_canon e S h.1) h

pub union_canon : (R S : Conjuncts) → Canon S → Canon (union_of R S)
unfolding union_of
union_canon [] S h = h
union_canon (e ∷ R) S h = insert_canon e (union_of R S) (union_canon R S h)

-- canonical lists with the same members are equal
pub canon_ext : (R S : Conjuncts) → Canon R → Canon S → Sub R S → Sub S R → R ≡ S
canon_ext [] [] h k f g = refl
canon_ext [] (e ∷ S) h k f g = absurd (g e (inl refl))
canon_ext (d ∷ R) [] h k f g = absurd (f d (inl refl))
canon_ext (d ∷ R) (e ∷ S) h k f g = ap₂ ◌∷◌ (heads (f d (inl refl)) (g e (inl refl))) (canon_ext R S h.1 k.1 right left)
  where
    heads : Mem d (e ∷ S) → Mem e (d ∷ R) → d ≡ e
    heads (inl p) m = p
    heads (inr n) (inl p) = sym p
    heads (inr n) (inr m) = absurd (less_irreflexive d (less_trans d e d (all_mem (Less d) R h.0 e m) (all_mem (Less e) S k.0 d n)))

    head : d ≡ e
    head = heads (f d (inl refl)) (g e (inl refl))

    right : Sub R S
    right x m = ⊎_elim (λ p. absurd (less_irreflexive d (subst (Less d) (p ∙ sym head) (all_mem (Less d) R h.0 x m)))) (λ n. n) (f x (inr m))

    left : Sub S R
    left x m = ⊎_elim (λ p. absurd (less_irreflexive e (subst (Less e) (p ∙ head) (all_mem (Less e) S k.0 x m)))) (λ n. n) (g x (inr m))

-- ---- the algebra of unions

pub union_comm : (R S : Conjuncts) → Canon R → Canon S → union_of R S ≡ union_of S R
union_comm R S h k =
    canon_ext (union_of R S) (union_of S R) (union_canon R S k) (union_canon S R h)
    (union_least R S (union_of S R) (λ x. union_right x S R) (λ x. union_left x S R))
    (union_least S R (union_of R S) (λ x. union_right x R S) (λ x. union_left x R S))

pub union_assoc : (R S T : Conjuncts) → Canon T → union_of (union_of R S) T ≡ union_of R (union_of S T)
union_assoc R S T k =
    canon_ext (union_of (union_of R S) T) (union_of R (union_of S T)) (union_canon (union_of R S) T k) (union_canon R (union_of S T) (union_canon S T k))
    (union_least (union_of R S) T (union_of R (union_of S T))
    (union_mono R S R (union_of S T) (sub_self R) (λ x. union_left x S T))
    (λ x m. union_right x R (union_of S T) (union_right x S T m)))
    (union_least R (union_of S T) (union_of (union_of R S) T)
    (λ x m. union_left x (union_of R S) T (union_left x R S m))
    (union_mono S T (union_of R S) T (λ x. union_right x R S) (sub_self T)))

-- one list after the other
pub union_append : (R S T : Conjuncts) → union_of (R ++ S) T ≡ union_of R (union_of S T)
unfolding union_of
union_append [] S T = refl
union_append (e ∷ R) S T = ap (with_conjunct e) (union_append R S T)

-- the order in which two lists are put in does not matter
pub union_left_comm : (R S T : Conjuncts) → Canon T → union_of R (union_of S T) ≡ union_of S (union_of R T)
union_left_comm R S T k =
    canon_ext (union_of R (union_of S T)) (union_of S (union_of R T)) (union_canon R (union_of S T) (union_canon S T k)) (union_canon S (union_of R T) (union_canon R T k))
    (either R S) (either S R)
  where
    either : (A B : Conjuncts) → Sub (union_of A (union_of B T)) (union_of B (union_of A T))
    either A B =
        union_least A (union_of B T) (union_of B (union_of A T)) (λ x m. union_right x B (union_of A T) (union_left x A T m))
        (union_mono B T B (union_of A T) (sub_self B) (λ x. union_right x A T))

-- what is there already adds nothing
pub union_absorb : (R S : Conjuncts) → Canon S → Sub R S → union_of R S ≡ S
union_absorb R S k f = canon_ext (union_of R S) S (union_canon R S k) k (union_least R S S f (sub_self S)) (λ x. union_right x R S)

pub union_idem : (S : Conjuncts) → Canon S → union_of S S ≡ S
union_idem S k = union_absorb S S k (sub_self S)

pub union_nil : (S : Conjuncts) → Canon S → union_of S [] ≡ S
union_nil S k = canon_ext (union_of S []) S (union_canon S [] tt) k (union_least S [] S (sub_self S) (λ x m. absurd m)) (λ x. union_left x S [])

-- the least conjunct comes first
pub insert_least : (e : Conj) (S : Conjuncts) → Canon (e ∷ S) → with_conjunct e S ≡ e ∷ S
unfolding with_conjunct
insert_least e [] h = refl
insert_least e (d ∷ S) h = ap (λ o. place o e d S (with_conjunct e S)) h.0.0

-- two and two
pub union_swap : (A B C D : Conjuncts) → Canon B → Canon C → Canon D → union_of (union_of A B) (union_of C D) ≡ union_of (union_of A C) (union_of B D)
union_swap A B C D b c d =
    union_assoc A B (union_of C D) (union_canon C D d)
    ∙ ap (union_of A) (sym (union_assoc B C D d) ∙ ap (λ X. union_of X D) (union_comm B C b c) ∙ union_assoc C B D d)
    ∙ sym (union_assoc A C (union_of B D) (union_canon B D d))

-- ---- sizes

placed-length : (o : Ordering) (e d : Conj) (S rest : Conjuncts) → length rest ≤ suc (length S) → length (place o e d S rest) ≤ suc (suc (length S))
placed-length Ordering.lt e d S rest h = omega arith
placed-length Ordering.eq e d S rest h = omega arith
placed-length Ordering.gt e d S rest h = omega arith

pub insert_length : (e : Conj) (S : Conjuncts) → length (with_conjunct e S) ≤ suc (length S)
unfolding with_conjunct
insert_length e [] = omega arith
insert_length e (d ∷ S) = placed-length (order e d) e d S (with_conjunct e S) (insert_length e S)

pub union_length : (R S : Conjuncts) → length (union_of R S) ≤ length R + length S
unfolding union_of
union_length [] S = omega arith
union_length (e ∷ R) S = omega (arith, insert_length e (union_of R S), union_length R S)

placed_grows : (o : Ordering) (e d : Conj) (S rest : Conjuncts) → length S ≤ length rest → suc (length S) ≤ length (place o e d S rest)
placed_grows Ordering.lt e d S rest h = omega arith
placed_grows Ordering.eq e d S rest h = omega arith
placed_grows Ordering.gt e d S rest h = omega arith

pub insert_grows : (e : Conj) (S : Conjuncts) → length S ≤ length (with_conjunct e S)
unfolding with_conjunct
insert_grows e [] = omega arith
insert_grows e (d ∷ S) = placed_grows (order e d) e d S (with_conjunct e S) (insert_grows e S)

pub union_grows : (R S : Conjuncts) → length S ≤ length (union_of R S)
unfolding union_of
union_grows [] S = omega arith
union_grows (e ∷ R) S = omega (arith, insert_grows e (union_of R S), union_grows R S)

-- a part of a canonical set is no larger
pub sub-length : (R S : Conjuncts) → Canon R → Canon S → Sub R S → length R ≤ length S
sub-length R S h k f = omega (arith, union_grows S R, ap length (union_comm S R k h ∙ union_absorb R S k f))
