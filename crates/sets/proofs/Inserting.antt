-- The answers of an insertion, of a union and of a comparison of sets, from what their parts answer.
use mathlib.Core.Bool.{Bool, true, false, ◌&&◌}
use mathlib.Core.List.{List, [], ◌∷◌, ◌++◌, map}
use mathlib.Core.Path.{◌≡◌, refl, sym, ap, ap₂, ◌∙◌, subst}
use Prim.Native.Nat.{ℕ, ◌+◌, ◌<◌, ◌≤◌}
use native.Mathlib.Numerals.{add-one}
use native.Mathlib.Omega.{arith}
use lib.Dec.{compare_is_eq}
use lib.ListN.{length, get_or, take, drop, length-append, length-drop, take-append-drop}
use lib.Seq.{length-take-le, take-suc, drop-cons, drop-length}
use Rattle.model.proofs.Conjuncts.Canonical.{union_append, union_left_comm, union_grows}
use Rattle.model.proofs.Basics.Tests.{case, true→T}
use Rattle.model.proofs.Conjuncts.Order.{same_eq}
use Rattle.model.specs.Conjunct.{Conj, Conjuncts, with_conjunct, union_of, same, order_nodes}
use Rattle.model.specs.Sizes.{most_conjuncts}
use Rattle.model.specs.TidySets.{Canon}
use Rattle.conjunct.specs.Word.{nodes_of_lem}
use Rattle.sets.proofs.Rows.{set-rows, frame}
use Rattle.sets.specs.Region.{few, rows_from, set_of, Within, Apart, Spotted, Inserted, region_words}
use Rattle.std.specs.Prelude.{Result}

-- ---- insertion

pub spotted : (q r : Result Unit ℕ) → q ≡ r → (s : List ℕ) (b n : ℕ) (d : Conj) → n ≡ few (get_or s b 0) → Spotted q d (map nodes_of_lem (rows_from s (b + 1) n))
    → Spotted r d (set_of s b)
spotted q r o s b n d e h = subst (λ S. Spotted r d S) (sym (set-rows s b n e)) (subst (λ x. Spotted x d (map nodes_of_lem (rows_from s (b + 1) n))) o h)

-- one more than it has
pub grown : (e : Conj) (S : Conjuncts) (i : ℕ) → i ≤ length S → with_conjunct e S ≡ take i S ++ (e ∷ drop i S)
    → length (with_conjunct e S) ≡ length S + 1
grown e S i h p =
    let q = ap length p ∙ length-append (take i S) (e ∷ drop i S) in
    let r : length (take i S) ≡ i = length-take-le i S h in
    let d = length-drop i S in
    omega arith

-- ---- union

pub union_none : (F T : Conjuncts) → T ≡ union_of (take 0 F) T
unfolding union_of
union_none F T = refl

module _ (F T : Conjuncts) (c : Canon T) where
  pub union_next : (k : ℕ) → k < length F → with_conjunct (get_or F k []) (union_of (take k F) T) ≡ union_of (take (k + 1) F) T
  unfolding union_of
  union_next k h =
      let one = get_or F k [] ∷ [] in
      let more : take (k + 1) F ≡ take k F ++ one = rw (add-one k) (take-suc F k [] h) in
      union_left_comm one (take k F) T c ∙ sym (union_append (take k F) one T) ∙ ap (λ X. union_of X T) (sym more)

  pub union_over : (k : ℕ) → length (union_of (take k F) T) ≤ length (union_of F T)
  union_over k =
      let all : union_of F T ≡ union_of (drop k F) (union_of (take k F) T) =
      ap (λ X. union_of X T) (sym (take-append-drop k F)) ∙ union_append (take k F) (drop k F) T ∙ union_left_comm (take k F) (drop k F) T c in
      omega (arith, ap length all, union_grows (drop k F) (union_of (take k F) T))

-- ---- the same sets

pub same_lengths : (A B : Conjuncts) → (length A ≡ length B → ⊥) → false ≡ same A B
same_lengths A B h = case (same A B) (λ z. same A B ≡ z → false ≡ z) (λ p q. absurd (h (ap length (same_eq A B q)))) (λ p q. refl) refl

pub same_next : (A B : Conjuncts) (i : ℕ) → i < length A → i < length B
    → same (drop i A) (drop i B) ≡ (compare_is_eq (order_nodes (get_or A i []) (get_or B i [])) && same (drop (i + 1) A) (drop (i + 1) B))
unfolding same
same_next A B i h k = rw (add-one i, drop-cons A i [] h, drop-cons B i [] k)

pub same_end : (A B : Conjuncts) (i : ℕ) → i ≡ length A → i ≡ length B → same (drop i A) (drop i B) ≡ true
unfolding same
same_end A B i h k =
    let y : drop i A ≡ [] = ap (λ j. drop j A) h ∙ drop-length A in
    let z : drop i B ≡ [] = ap (λ j. drop j B) k ∙ drop-length B in
    rw (y, z)

-- ---- a turn of a union

module _ (s₀ s t : List ℕ) (to from k : ℕ) (d : Conj) (fit : from + region_words ≤ length s₀) (apart : Apart region_words to from) (canon : Canon (set_of s₀ to))
    (len : length s ≡ length s₀) (in' : Within to s₀ s)
    (few' : k < length (set_of s₀ from)) (e : d ≡ get_or (set_of s from) k [])
    (so : set_of s to ≡ union_of (take k (set_of s₀ from)) (set_of s₀ to)) where
  -- the set with the next conjunct
  step : with_conjunct d (set_of s to) ≡ union_of (take (k + 1) (set_of s₀ from)) (set_of s₀ to)
  step =
      let p : d ≡ get_or (set_of s₀ from) k [] = e ∙ ap (λ S. get_or S k []) (frame s₀ s to from len fit apart in') in
      ap₂ with_conjunct p so ∙ union_next (set_of s₀ from) (set_of s₀ to) canon k few'

  pub turn-over : (r : Bool) → r ≡ false → Inserted r to d s t → most_conjuncts < length (union_of (set_of s₀ from) (set_of s₀ to))
  turn-over true q h = absurd (true→T (sym q))
  turn-over false q h = omega (arith, h.1, ap length step, union_over (set_of s₀ from) (set_of s₀ to) canon (k + 1))

  pub turn-done : (r : Bool) → r ≡ true → Inserted r to d s t → set_of t to ≡ union_of (take (k + 1) (set_of s₀ from)) (set_of s₀ to)
  turn-done true q h = h ∙ step
  turn-done false q h = absurd (true→T q)
