-- Where a conjunct goes in a canonical set: behind what is less, before what is more. One comparison settles all on one side of a place.
use mathlib.Core.List.{[], ◌∷◌, ◌++◌}
use mathlib.Core.Path.{◌≡◌, refl, sym, ap, subst, ◌∙◌}
use Prim.Native.Nat.{Ordering}
use Prim.Native.Nat.{ℕ, suc, ◌+◌, ◌-◌, ◌<◌, ◌≤◌}
use native.Mathlib.Numerals.{add-one}
use native.Mathlib.Omega.{arith}
use lib.ListN.{length, get_or, take, drop, take-append-drop}
use lib.Seq.{drop-cons, take-suc, take_all, drop-length}
use Rattle.model.specs.Conjunct.{Conj, Conjuncts, order, place, with_conjunct}
use Rattle.model.specs.Lists.{All}
use Rattle.model.specs.TidySets.{Less, Canon}
use Rattle.model.proofs.Basics.Lists.{all_imp, all_right, all_append}
use Rattle.model.proofs.Conjuncts.Order.{flip, order_flip, order_eq, less_trans}

-- ---- a set in two parts

sides : (A : Conjuncts) (d : Conj) (B : Conjuncts) → Canon (A ++ (d ∷ B)) → All (λ x. Less x d) A × All (Less d) B
sides [] d B c = (tt, c.0)
sides (x ∷ A) d B c = let r = sides A d B c.1 in (((all_right (Less x) A (d ∷ B) c.0).0, r.0), r.1)

module _ (e : Conj) where
  passed : (d : Conj) (S T : Conjuncts) → Less d e → with_conjunct e S ≡ T → with_conjunct e (d ∷ S) ≡ d ∷ T
  unfolding with_conjunct
  passed d S T h p = ap (λ o. place o e d S (with_conjunct e S)) (order_flip d e ∙ ap flip h) ∙ ap (d ∷◌) p

  put-between : (A B : Conjuncts) → All (λ d. Less d e) A → All (Less e) B → with_conjunct e (A ++ B) ≡ A ++ (e ∷ B)
  unfolding with_conjunct
  put-between [] [] h k = refl
  put-between [] (d ∷ B) h k = ap (λ o. place o e d B (with_conjunct e B)) k.0
  put-between (d ∷ A) B h k = passed d (A ++ B) (A ++ (e ∷ B)) h.0 (put-between A B h.1 k)

  found_between : (A : Conjuncts) (d : Conj) (B : Conjuncts) → All (λ x. Less x e) A → order e d ≡ Ordering.eq
      → with_conjunct e (A ++ (d ∷ B)) ≡ A ++ (d ∷ B)
  unfolding with_conjunct
  found_between [] d B h o = ap (λ z. place z e d B (with_conjunct e B)) o
  found_between (x ∷ A) d B h o = passed x (A ++ (d ∷ B)) (A ++ (d ∷ B)) h.0 (found_between A d B h.1 o)

-- ---- a search

-- the first lo conjuncts stand before e, and those from hi on behind it
pub record Between (e : Conj) (S : Conjuncts) (lo hi : ℕ) : Type 0 where
  pub less : All (λ d. Less d e) (take lo S)
  pub more : All (Less e) (drop hi S)

pub between-all : (e : Conj) (S : Conjuncts) (n : ℕ) → n ≡ length S → Between e S 0 n
between-all e S n h = record { less = tt; more = subst (All (Less e)) (sym (ap (λ i. drop i S) h ∙ drop-length S)) tt }

-- where nothing is left between
pub between_none : (e : Conj) (S : Conjuncts) (i : ℕ) → Between e S i i → with_conjunct e S ≡ take i S ++ (e ∷ drop i S)
between_none e S i b = ap (with_conjunct e) (sym (take-append-drop i S)) ∙ put-between e (take i S) (drop i S) b.less b.more

-- one comparison
module _ (e : Conj) (S : Conjuncts) (i : ℕ) (c : Canon S) (h : i < length S) where
  from-here : drop i S ≡ get_or S i [] ∷ drop (i + 1) S
  from-here = rw (add-one i) (drop-cons S i [] h)

  up_to_here : take (i + 1) S ≡ take i S ++ (get_or S i [] ∷ [])
  up_to_here = rw (add-one i) (take-suc S i [] h)

  apart : S ≡ take i S ++ (get_or S i [] ∷ drop (i + 1) S)
  apart = sym (take-append-drop i S) ∙ ap (take i S ++◌) from-here

  beside : All (λ x. Less x (get_or S i [])) (take i S) × All (Less (get_or S i [])) (drop (i + 1) S)
  beside = sides (take i S) (get_or S i []) (drop (i + 1) S) (subst Canon apart c)

  pub found_here : order e (get_or S i []) ≡ Ordering.eq → with_conjunct e S ≡ S
  found_here o =
      let d = get_or S i [] in
      let before = subst (λ x. All (λ y. Less y x) (take i S)) (sym (order_eq e d o)) beside.0 in
      ap (with_conjunct e) apart ∙ found_between e (take i S) d (drop (i + 1) S) before o ∙ sym apart

  pub before_here : (lo hi : ℕ) → Between e S lo hi → order e (get_or S i []) ≡ Ordering.lt → Between e S lo i
  before_here lo hi b o =
      record { less = b.less; more = subst (All (Less e)) (sym from-here) (o, all_imp (λ x l. less_trans e (get_or S i []) x o l) (drop (i + 1) S) beside.1) }

  pub behind-here : (lo hi : ℕ) → Between e S lo hi → order e (get_or S i []) ≡ Ordering.gt → Between e S (i + 1) hi
  behind-here lo hi b o =
      let d = get_or S i [] in
      let l : Less d e = order_flip e d ∙ ap flip o in
      let before = all_imp (λ x k. less_trans x d e k l) (take i S) beside.0 in
      record { less = subst (All (λ x. Less x e)) (sym up_to_here) (all_append (λ x. Less x e) (take i S) (d ∷ []) before (l, tt)); more = b.more }

-- ---- conjuncts of which each stands before the next

canon-behind : (S : Conjuncts) (e : Conj) → Canon S → All (λ d. Less d e) S → Canon (S ++ (e ∷ []))
canon-behind [] e c h = (tt, tt)
canon-behind (d ∷ S) e c h = (all_append (Less d) S (e ∷ []) c.0 (h.0, tt), canon-behind S e c.1 h.1)

-- the first one
pub rising-one : (S : Conjuncts) → Canon (take 1 S)
rising-one [] = tt
rising-one (e ∷ S) = (tt, tt)

-- one more, before which the last one stands
pub rising-next : (S : Conjuncts) (i : ℕ) → 0 < i → i < length S → Less (get_or S (i - 1) []) (get_or S i []) → Canon (take i S) → Canon (take (i + 1) S)
rising-next S i f h l c =
    let d = get_or S (i - 1) [] in
    let e = get_or S i [] in
    let up : i ≡ suc (i - 1) = omega arith in
    let last : take i S ≡ take (i - 1) S ++ (d ∷ []) = ap (λ k. take k S) up ∙ take-suc S (i - 1) [] (omega arith) in
    let next : take (i + 1) S ≡ take i S ++ (e ∷ []) = rw (add-one i) (take-suc S i [] h) in
    let before = (sides (take (i - 1) S) d [] (subst Canon last c)).0 in
    let all : All (λ x. Less x e) (take i S) =
    subst (All (λ x. Less x e)) (sym last) (all_append (λ x. Less x e) (take (i - 1) S) (d ∷ []) (all_imp (λ x g. less_trans x d e g l) (take (i - 1) S) before) (l, tt)) in
    subst Canon (sym next) (canon-behind (take i S) e c all)

-- all of them
pub rising-all : (S : Conjuncts) (i : ℕ) → length S ≤ i → Canon (take i S) → Canon S
rising-all S i h c = subst Canon (take_all i S h) c
