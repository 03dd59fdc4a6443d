-- A conjunct changed in its slot, and conjuncts that are made a set again by way of an empty room.
use mathlib.Core.Bool.{Bool, true, false}
use mathlib.Core.List.{List, [], map}
use mathlib.Core.Logic.{◌⊎◌, inl, inr}
use mathlib.Core.Path.{◌≡◌, refl, sym, ap, ap₂, ◌∙◌}
use Prim.Native.Nat.{ℕ, suc, ◌+◌, ◌*◌, ◌<◌, ◌≤◌}
use native.Mathlib.Numerals.{add-one}
use native.Mathlib.Omega.{arith}
use lib.ListN.{length, get_or, take, drop, set, length-set}
use lib.Seq.{ext_get_or, get_or-set_same, get_or-set_other, get_or-drop, take-suc, take_all, take-suc-set, drop-cons, drop-set-lt}
use Rattle.model.specs.Conjunct.{Conj, Conjuncts, union_of}
use Rattle.model.specs.Sizes.{most_conjuncts}
use Rattle.model.proofs.Conjuncts.Canonical.{union_length}
use Rattle.conjunct.proofs.node.WordOrder.{Tri, less, equal, more, tri}
use Rattle.conjunct.specs.Word.{nodes_of_lem}
use Rattle.sets.proofs.Rows.{few-most, slot_kept, set-length, set-few, set_at, frame}
use Rattle.sets.specs.Region.{few, slot_at, set_of, Outside, Within, Joined, region_words, slot_words}

-- ---- one slot

-- nothing but the k-th slot of a region differs
module _ (s t : List ℕ) (b k : ℕ) (sized : length t ≡ length s) (fits : b + region_words ≤ length s) (has : k < length (set_of s b))
    (rest : Outside (b + 1 + slot_words * k) slot_words s t) where
  small : k < most_conjuncts
  small = omega (arith, has, set-few s b)

  same_count : get_or t b 0 ≡ get_or s b 0
  same_count = rest b (inl (omega arith))

  -- the set has another conjunct there
  pub slot_changed : set_of t b ≡ set (set_of s b) k (nodes_of_lem (slot_at t (b + 1 + slot_words * k)))
  slot_changed =
      let e = nodes_of_lem (slot_at t (b + 1 + slot_words * k)) in
      let S = set_of s b in
      let long : length (set S k e) ≡ few (get_or s b 0) = length-set S k e ∙ set-length s b in
      let same : few (get_or t b 0) ≡ few (get_or s b 0) = ap few same_count in
      ext_get_or [] (set_of t b) (set S k e) (set-length t b ∙ same ∙ sym long) (λ i h.
      let g : i < few (get_or s b 0) = omega (arith, set-length t b, same) in
      set_at t b i (omega (arith, same)) ∙ at i g (tri i k))
    where
      at : (i : ℕ) → i < few (get_or s b 0) → Tri i k
          → nodes_of_lem (slot_at t (b + 1 + slot_words * i)) ≡ get_or (set (set_of s b) k (nodes_of_lem (slot_at t (b + 1 + slot_words * k)))) i []
      at i g (less p) =
          ap nodes_of_lem (slot_kept s t (b + 1 + slot_words * k) slot_words (b + 1 + slot_words * i) sized (omega (arith, small)) rest (inl (omega arith)))
          ∙ sym (get_or-set_other (set_of s b) k i (nodes_of_lem (slot_at t (b + 1 + slot_words * k))) [] (λ q. omega arith) ∙ set_at s b i g)
      at i g (equal p) =
          ap (λ j. nodes_of_lem (slot_at t (b + 1 + slot_words * j))) p
          ∙ sym (ap (λ j. get_or (set (set_of s b) k (nodes_of_lem (slot_at t (b + 1 + slot_words * k)))) j []) p
          ∙ get_or-set_same (set_of s b) k (nodes_of_lem (slot_at t (b + 1 + slot_words * k))) [] has)
      at i g (more p) =
          ap nodes_of_lem (slot_kept s t (b + 1 + slot_words * k) slot_words (b + 1 + slot_words * i) sized (omega (arith, few-most (get_or s b 0))) rest (inr (omega arith)))
          ∙ sym (get_or-set_other (set_of s b) k i (nodes_of_lem (slot_at t (b + 1 + slot_words * k))) [] (λ q. omega arith) ∙ set_at s b i g)

  pub slot-within : Within b s t
  slot-within i h = rest i (side h)
    where
      side : (i < b) ⊎ (b + region_words ≤ i) → (i < b + 1 + slot_words * k) ⊎ (b + 1 + slot_words * k + slot_words ≤ i)
      side (inl p) = inl (omega arith)
      side (inr p) = inr (omega (arith, small))

-- ---- slot after slot

-- the first k conjuncts are changed as f says, and the others are as they were
pub record Mapped (f : Conj → Conj) (S₀ S : Conjuncts) (k : ℕ) : Type 0 where
  pub first : take k S ≡ map f (take k S₀)
  pub rest : drop k S ≡ drop k S₀

module _ (f : Conj → Conj) (S₀ : Conjuncts) where
  pub mapped-none : Mapped f S₀ S₀ 0
  mapped-none = record { first = refl; rest = refl }

  module _ (S : Conjuncts) (k : ℕ) (h : k < length S) (h₀ : k < length S₀) (m : Mapped f S₀ S k) where
    -- the k-th conjunct is as it was
    pub mapped-here : get_or S k [] ≡ get_or S₀ k []
    mapped-here =
        let e : k + 0 ≡ k = omega arith in
        ap (λ j. get_or S j []) (sym e) ∙ sym (get_or-drop k S 0 []) ∙ ap (λ l. get_or l 0 []) m.rest ∙ get_or-drop k S₀ 0 [] ∙ ap (λ j. get_or S₀ j []) e

    pub mapped_next : Mapped f S₀ (set S k (f (get_or S₀ k []))) (k + 1)
    mapped_next =
        let v = f (get_or S₀ k []) in
        let tails : drop (suc k) S ≡ drop (suc k) S₀ = ap (drop 1) (sym (drop-cons S k [] h) ∙ m.rest ∙ drop-cons S₀ k [] h₀) in
        record {
          first = rw (add-one k, take-suc-set S k v h, take-suc S₀ k [] h₀, mathlib.Core.List.map-append, m.first);
          rest = drop-set-lt (k + 1) S k v (omega arith) ∙ rw (add-one k) tails;
        }

  -- all of them
  pub mapped-all : (S : Conjuncts) (k : ℕ) → length S ≤ k → length S₀ ≤ k → Mapped f S₀ S k → S ≡ map f S₀
  mapped-all S k h h₀ m = sym (take_all k S h) ∙ m.first ∙ ap (map f) (take_all k S₀ h₀)

-- ---- made a set again

pub arranged : (s t u v : List ℕ) (b : ℕ) (r : Bool) → b + 2 * region_words ≤ length s → length t ≡ length s → length u ≡ length t
    → (set_of t (b + region_words) ≡ []) × Within (b + region_words) s t
    → Joined r b (b + region_words) t u × Within (b + region_words) t u
    → (set_of v b ≡ set_of u (b + region_words)) × Within b u v
    → (set_of v b ≡ union_of (set_of s b) []) × Outside b (2 * region_words) s v
arranged s t u v b r fits len len' cleared joined copied = (copied.0 ∙ gathered r joined.0, λ i h. copied.1 i (own i h) ∙ joined.1 i (other i h) ∙ cleared.1 i (other i h))
  where
    own : (i : ℕ) → (i < b) ⊎ (b + 2 * region_words ≤ i) → (i < b) ⊎ (b + region_words ≤ i)
    own i (inl p) = inl p
    own i (inr p) = inr (omega arith)

    other : (i : ℕ) → (i < b) ⊎ (b + 2 * region_words ≤ i) → (i < b + region_words) ⊎ (b + region_words + region_words ≤ i)
    other i (inl p) = inl (omega arith)
    other i (inr p) = inr (omega arith)

    from : set_of t b ≡ set_of s b
    from = frame s t (b + region_words) b len (omega arith) (inr (omega arith)) cleared.1

    both : union_of (set_of t b) (set_of t (b + region_words)) ≡ union_of (set_of s b) []
    both = ap₂ union_of from cleared.0

    gathered : (z : Bool) → Joined z b (b + region_words) t u → set_of u (b + region_words) ≡ union_of (set_of s b) []
    gathered true j = j ∙ both
    gathered false j = absurd (omega (arith, j, ap length both, union_length (set_of s b) [], set-few s b))
