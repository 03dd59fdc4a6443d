-- The difference of two sets: where a search tells that a conjunct is there, a loop over the conjuncts, and what remains.
use mathlib.Core.Bool.{Bool, true, false, ◌||◌, cond}
use mathlib.Core.List.{[], ◌∷◌, ◌++◌}
use mathlib.Core.Logic.{◌⊎◌, inl, inr}
use mathlib.Core.Path.{◌≡◌, refl, sym, ap, subst, ◌∙◌}
use Prim.Native.Nat.{ℕ, suc, ◌+◌, ◌<◌, ◌≤◌, Ordering}
use native.Mathlib.Numerals.{add-one}
use native.Mathlib.Omega.{arith}
use lib.Dec.{compare_is_eq}
use lib.ListN.{length, get_or, take}
use lib.Seq.{take-suc}
use Rattle.model.specs.Conjunct.{Conj, Conjuncts, order, with_conjunct, union_of}
use Rattle.model.specs.Lists.{All}
use Rattle.model.specs.TidySets.{Less, Canon, Mem, Sub}
use Rattle.model.proofs.Conjuncts.Canonical.{union_absorb}
use Rattle.model.proofs.Conjuncts.Order.{order_self, order_eq}
use Rattle.model.proofs.Conjuncts.Remains.{Remains, insert_here}
use Rattle.model.proofs.Basics.Tests.{case, true→T}
use Rattle.sets.specs.Minus.{has, minus}
use Rattle.sets.specs.Region.{Spotted}
use Rattle.std.specs.Prelude.{Result, Ok, Err}
use Rattle.std.specs.Result.{is_ok}
use Rattle.sets.proofs.Inserting.{grown}

-- ---- members

has_mem : (e : Conj) (T : Conjuncts) → has e T ≡ true → Mem e T
unfolding has
has_mem e [] h = absurd (true→T h)
has_mem e (d ∷ T) h = go (order e d) refl h (has_mem e T)
  where
    go : (o : Ordering) → order e d ≡ o → (compare_is_eq o || has e T) ≡ true → (has e T ≡ true → Mem e T) → (e ≡ d) ⊎ Mem e T
    go Ordering.lt p q ih = inr (ih q)
    go Ordering.eq p q ih = inl (order_eq e d p)
    go Ordering.gt p q ih = inr (ih q)

mem_has : (e : Conj) (T : Conjuncts) → Mem e T → has e T ≡ true
unfolding has
mem_has e [] m = absurd m
mem_has e (d ∷ T) (inl p) = ap (λ o. compare_is_eq o || has e T) (ap (order e) (sym p) ∙ order_self e)
mem_has e (d ∷ T) (inr m) = go (order e d) (mem_has e T m)
  where
    go : (o : Ordering) → has e T ≡ true → (compare_is_eq o || has e T) ≡ true
    go Ordering.lt q = q
    go Ordering.eq q = refl
    go Ordering.gt q = q

-- a conjunct of a canonical set leaves it as it is
here-again : (e : Conj) (T : Conjuncts) → Canon T → Mem e T → with_conjunct e T ≡ T
unfolding union_of
here-again e T c m = union_absorb (e ∷ []) T c (λ x n. of_one x n)
  where
    of_one : (x : Conj) → Mem x (e ∷ []) → Mem x T
    of_one x (inl p) = subst (λ y. Mem y T) (sym p) m
    of_one x (inr n) = absurd n

pub spotted_here : (e : Conj) (T : Conjuncts) → Spotted (Ok tt) e T → true ≡ has e T
spotted_here e T h = sym (mem_has e T (insert_here e T h))

pub spotted_before : (e : Conj) (T : Conjuncts) (i : ℕ) → Canon T → Spotted (Err i) e T → false ≡ has e T
spotted_before e T i c h =
    case (has e T) (λ z. false ≡ z)
    (λ q. absurd (omega (arith, grown e T i h.0 h.1, ap length (here-again e T c (has_mem e T q)))))
    (λ q. refl)

-- the answer of a search tells which
pub spotted_tells : (r : Result Unit ℕ) (e : Conj) (T : Conjuncts) → Canon T → Spotted r e T → is_ok r ≡ has e T
spotted_tells (Ok u) e T c h = spotted_here e T h
spotted_tells (Err i) e T c h = spotted_before e T i c h

-- ---- a loop over the conjuncts

minus-append : (I J T : Conjuncts) → minus (I ++ J) T ≡ minus I T ++ minus J T
unfolding minus
minus-append [] J T = refl
minus-append (e ∷ I) J T = go (has e T) (minus-append I J T)
  where
    go : (z : Bool) → minus (I ++ J) T ≡ minus I T ++ minus J T
        → cond z (minus (I ++ J) T) (e ∷ minus (I ++ J) T) ≡ cond z (minus I T) (e ∷ minus I T) ++ minus J T
    go true h = h
    go false h = ap (e ∷◌) h

pub minus-every : (P : Conj → Type 0) (I T : Conjuncts) → All P I → All P (minus I T)
unfolding minus
minus-every P [] T h = tt
minus-every P (e ∷ I) T h =
    case (has e T) (λ z. All P (cond z (minus I T) (e ∷ minus I T))) (λ q. minus-every P I T h.1) (λ q. (h.0, minus-every P I T h.1))

pub minus-few : (I T : Conjuncts) → length (minus I T) ≤ length I
unfolding minus
minus-few [] T = omega arith
minus-few (e ∷ I) T = go (has e T) (minus-few I T)
  where
    go : (z : Bool) → length (minus I T) ≤ length I → length (cond z (minus I T) (e ∷ minus I T)) ≤ suc (length I)
    go true h = omega arith
    go false h = omega arith

pub append-none : (S : Conjuncts) → S ++ [] ≡ S
append-none [] = refl
append-none (e ∷ S) = ap (e ∷◌) (append-none S)

-- one conjunct, which the other set has or has not
pub minus-here : (e : Conj) (T : Conjuncts) → has e T ≡ true → minus (e ∷ []) T ≡ []
unfolding minus
minus-here e T q = rw q

pub minus-new : (e : Conj) (T : Conjuncts) → has e T ≡ false → minus (e ∷ []) T ≡ e ∷ []
unfolding minus
minus-new e T q = rw q

-- one turn more
pub minus-next : (I T : Conjuncts) (k : ℕ) → k < length I → minus (take (k + 1) I) T ≡ minus (take k I) T ++ minus (get_or I k [] ∷ []) T
minus-next I T k h = ap (λ J. minus J T) (rw (add-one k) (take-suc I k [] h)) ∙ minus-append (take k I) (get_or I k [] ∷ []) T

pub minus-none : (I T : Conjuncts) → minus (take 0 I) T ≡ []
unfolding minus
minus-none I T = refl

-- ---- what remains

minus-all : (P : Conj → Type 0) (I T : Conjuncts) → All P I → All P (minus I T)
unfolding minus
minus-all P [] T h = tt
minus-all P (e ∷ I) T h = go (has e T) (minus-all P I T h.1)
  where
    go : (z : Bool) → All P (minus I T) → All P (cond z (minus I T) (e ∷ minus I T))
    go true k = k
    go false k = (h.0, k)

pub minus_remains : (I T : Conjuncts) → Canon I → Remains (minus I T) I T
unfolding minus
minus_remains [] T c = record { canon = tt; of_it = λ x m. m; no_less = λ x m. absurd m }
minus_remains (e ∷ I) T c =
    case (has e T) (λ z. Remains (cond z (minus I T) (e ∷ minus I T)) (e ∷ I) T) (there (minus_remains I T c.1)) (λ q. put (minus_remains I T c.1))
  where
    there : Remains (minus I T) I T → has e T ≡ true → Remains (minus I T) (e ∷ I) T
    there r q = record { canon = r.canon; of_it = λ x m. inr (r.of_it x m); no_less = λ x m. either x m }
      where
        either : (x : Conj) → Mem x (e ∷ I) → Mem x (minus I T) ⊎ Mem x T
        either x (inl p) = inr (subst (λ y. Mem y T) (sym p) (has_mem e T q))
        either x (inr m) = r.no_less x m

    put : Remains (minus I T) I T → Remains (e ∷ minus I T) (e ∷ I) T
    put r = record { canon = (minus-all (Less e) I T c.0, r.canon); of_it = λ x m. either x m; no_less = λ x m. or_new x m }
      where
        either : (x : Conj) → Mem x (e ∷ minus I T) → Mem x (e ∷ I)
        either x (inl p) = inl p
        either x (inr m) = inr (r.of_it x m)

        keep : (x : Conj) → Mem x (minus I T) ⊎ Mem x T → Mem x (e ∷ minus I T) ⊎ Mem x T
        keep x (inl m) = inl (inr m)
        keep x (inr m) = inr m

        or_new : (x : Conj) → Mem x (e ∷ I) → Mem x (e ∷ minus I T) ⊎ Mem x T
        or_new x (inl p) = inl (inl p)
        or_new x (inr m) = keep x (r.no_less x m)

-- nothing remains of a part
minus-part : (I S : Conjuncts) → Sub I S → minus I S ≡ []
unfolding minus
minus-part [] S f = refl
minus-part (e ∷ I) S f = rw (mem_has e S (f e (inl refl))) (minus-part I S (λ x m. f x (inr m)))

pub minus_self : (S : Conjuncts) → minus S S ≡ []
minus_self S = minus-part S S (λ x m. m)
