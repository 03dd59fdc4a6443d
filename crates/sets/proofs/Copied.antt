-- A slot copied word by word to another, slots copied one after the other, and a region so copied.
use mathlib.Core.List.{List, map}
use mathlib.Core.Logic.{◌⊎◌, inl, inr}
use mathlib.Core.Path.{◌≡◌, refl, sym, ap, ◌∙◌}
use Prim.Native.Nat.{ℕ, ◌+◌, ◌-◌, ◌*◌, ◌<◌, ◌≤◌}
use native.Mathlib.Omega.{arith}
use lib.ListN.{length, get_or, take, set, length-set}
use lib.Seq.{get_or-set_same, get_or-set_other}
use Rattle.model.specs.Sizes.{most_conjuncts, most_nodes}
use Rattle.conjunct.proofs.node.WordOrder.{Tri, less, equal, more, tri}
use Rattle.conjunct.specs.Word.{nodes_of_lem}
use Rattle.sets.proofs.Rows.{few-most, few-is, part_same, slot_same, slot_kept, rows_same}
use Rattle.sets.proofs.slots.Words.{slot-words}
use Rattle.sets.specs.Region.{few, slot_at, rows_from, rows_of, set_of, Outside, Within, Apart, region_words, slot_words}

-- ---- the words of a slot

module _ (s₀ : List ℕ) (to from : ℕ) (h : to + slot_words ≤ length s₀) (g : from + slot_words ≤ length s₀) where
  -- the count and n words copied, if n is the count as far as it goes
  pub slot_copied : (s : List ℕ) (n : ℕ) → n ≤ most_nodes → ((l : List ℕ) → length l ≡ most_nodes → take n l ≡ take (get_or s₀ from 0) l)
      → length s ≡ length s₀
      → ((x : ℕ) → to ≤ x → x < to + (1 + n) → get_or s x 0 ≡ get_or s₀ (from + (x - to)) 0)
      → ((x : ℕ) → x < to → get_or s x 0 ≡ get_or s₀ x 0)
      → ((x : ℕ) → to + (1 + n) ≤ x → get_or s x 0 ≡ get_or s₀ x 0)
      → (slot_at s to ≡ slot_at s₀ from) × Outside to slot_words s₀ s
  slot_copied s n k f size copied below beyond = (
    sym (slot-words s to n (omega (arith, size)) k (λ l q. f l q ∙ ap (λ c. take c l) (sym count)))
        ∙ part_same s₀ s (from + 1) (to + 1) n (omega arith) (omega (arith, size)) (λ x q.
        let u : from + (x + 1) ≡ from + 1 + x = omega arith in
        let v : to + (x + 1) ≡ to + 1 + x = omega arith in
        ap (λ i. get_or s i 0) (sym v) ∙ word (x + 1) (omega arith) ∙ ap (λ i. get_or s₀ i 0) u)
        ∙ slot-words s₀ from n g k f,
    away,
  )
    where
      word : (x : ℕ) → x < 1 + n → get_or s (to + x) 0 ≡ get_or s₀ (from + x) 0
      word x q =
          let u : from + (to + x - to) ≡ from + x = omega arith in
          copied (to + x) (omega arith) (omega arith) ∙ ap (λ i. get_or s₀ i 0) u

      count : get_or s to 0 ≡ get_or s₀ from 0
      count =
          let u : from + 0 ≡ from = omega arith in
          let v : to + 0 ≡ to = omega arith in
          ap (λ i. get_or s i 0) (sym v) ∙ word 0 (omega arith) ∙ ap (λ i. get_or s₀ i 0) u

      away : (i : ℕ) → (i < to) ⊎ (to + slot_words ≤ i) → get_or s i 0 ≡ get_or s₀ i 0
      away i (inl p) = below i p
      away i (inr p) = beyond i (omega arith)

-- ---- slot after slot

-- the slots from the lo-th up to the hi-th from `to` on are those from `from` on, and nothing else differs
pub Copied : List ℕ → List ℕ → (to from lo hi : ℕ) → Type 0
Copied s s₀ to from lo hi =
    ((i : ℕ) → lo ≤ i → i < hi → slot_at s (to + slot_words * i) ≡ slot_at s₀ (from + slot_words * i))
    × ((x : ℕ) → (x < to + slot_words * lo) ⊎ (to + slot_words * hi ≤ x) → get_or s x 0 ≡ get_or s₀ x 0)

pub copied_none : (s : List ℕ) (to from lo hi : ℕ) → hi ≤ lo → Copied s s to from lo hi
unfolding Copied
copied_none s to from lo hi h = (λ i p q. absurd (omega arith), λ x d. refl)

-- the j-th slot more, next below or next above
module _ (s₀ s t : List ℕ) (to from lo hi lo' hi' j : ℕ) (sized : length s ≡ length s₀) (sized' : length t ≡ length s)
    (fits : to + slot_words * hi' ≤ length s₀)
    (fits' : from + slot_words * j + slot_words ≤ length s₀) (low : lo' ≤ lo) (high : hi ≤ hi') (first : lo' ≤ j) (last : j < hi')
    (above : (i : ℕ) → j < i → i < hi' → (lo ≤ i) × (i < hi))
    (below : (i : ℕ) → lo' ≤ i → i < j → (lo ≤ i) × (i < hi)) where
  pub copied_next : Copied s s₀ to from lo hi
      → (from + slot_words * j + slot_words ≤ to + slot_words * lo) ⊎ (to + slot_words * hi ≤ from + slot_words * j) → (p q : ℕ) → p ≡ to + slot_words * j
      → q ≡ from + slot_words * j
      → (slot_at t p ≡ slot_at s q) × Outside p slot_words s t → Copied t s₀ to from lo' hi'
  unfolding Copied
  copied_next had source p q ep eq' step = (λ i k l. slots i k l (tri i j), λ x d. step.1 x (besides x d) ∙ had.1 x (wider x d))
    where
      besides : (x : ℕ) → (x < to + slot_words * lo') ⊎ (to + slot_words * hi' ≤ x) → (x < p) ⊎ (p + slot_words ≤ x)
      besides x (inl d) = inl (omega arith)
      besides x (inr d) = inr (omega arith)

      wider : (x : ℕ) → (x < to + slot_words * lo') ⊎ (to + slot_words * hi' ≤ x) → (x < to + slot_words * lo) ⊎ (to + slot_words * hi ≤ x)
      wider x (inl d) = inl (omega arith)
      wider x (inr d) = inr (omega arith)

      untouched : (x : ℕ) → x < slot_words → (from + slot_words * j + slot_words ≤ to + slot_words * lo) ⊎ (to + slot_words * hi ≤ from + slot_words * j)
          → (from + slot_words * j + x < to + slot_words * lo) ⊎ (to + slot_words * hi ≤ from + slot_words * j + x)
      untouched x g (inl d) = inl (omega arith)
      untouched x g (inr d) = inr (omega arith)

      new : slot_at t (to + slot_words * j) ≡ slot_at s₀ (from + slot_words * j)
      new =
          ap (slot_at t) (sym ep) ∙ step.0 ∙ ap (slot_at s) eq'
          ∙ slot_same s₀ s (from + slot_words * j) (from + slot_words * j) fits' (omega arith)
          (λ x g. had.1 (from + slot_words * j + x) (untouched x g source))

      slots : (i : ℕ) → lo' ≤ i → i < hi' → Tri i j → slot_at t (to + slot_words * i) ≡ slot_at s₀ (from + slot_words * i)
      slots i k l (less r) =
          let b = below i k r in
          slot_kept s t p slot_words (to + slot_words * i) sized' (omega arith) step.1 (inl (omega arith)) ∙ had.0 i b.0 b.1
      slots i k l (equal r) = rw r new
      slots i k l (more r) =
          let b = above i r l in
          slot_kept s t p slot_words (to + slot_words * i) sized' (omega arith) step.1 (inr (omega arith)) ∙ had.0 i b.0 b.1

-- all of n
pub copied_rows : (s s₀ : List ℕ) (to from n : ℕ) → Copied s s₀ to from 0 n → (rows_from s to n ≡ rows_from s₀ from n) × Outside to (slot_words * n) s₀ s
unfolding Copied
copied_rows s s₀ to from n c = (rows_same s₀ s from to n (λ i l. c.0 i (omega arith) l), λ x d. c.1 x (side x d))
  where
    side : (x : ℕ) → (x < to) ⊎ (to + slot_words * n ≤ x) → (x < to + slot_words * 0) ⊎ (to + slot_words * n ≤ x)
    side x (inl d) = inl (omega arith)
    side x (inr d) = inr d

-- ---- a region: its slots, and the count last

pub region_copied : (s₀ s : List ℕ) (to from n : ℕ) → length s ≡ length s₀ → to + region_words ≤ length s₀ → n ≡ few (get_or s₀ from 0)
    → Copied s s₀ (to + 1) (from + 1) 0 n
    → (set_of (set s to n) to ≡ set_of s₀ from) × Within to s₀ (set s to n)
unfolding set_of rows_of
region_copied s₀ s to from n sized fits e c = (
  ap (map nodes_of_lem) (ap (λ k. rows_from (set s to n) (to + 1) k) count ∙ beside ∙ rows.0 ∙ ap (λ k. rows_from s₀ (from + 1) k) e),
  λ x d. get_or-set_other s to x n 0 (away x d) ∙ rows.1 x (wider x d),
)
  where
    rows : (rows_from s (to + 1) n ≡ rows_from s₀ (from + 1) n) × Outside (to + 1) (slot_words * n) s₀ s
    rows = copied_rows s s₀ (to + 1) (from + 1) n c

    most : n ≤ most_conjuncts
    most = omega (arith, few-most (get_or s₀ from 0))

    count : few (get_or (set s to n) to 0) ≡ n
    count = ap few (get_or-set_same s to n 0 (omega arith)) ∙ few-is n most

    beside : rows_from (set s to n) (to + 1) n ≡ rows_from s (to + 1) n
    beside =
        rows_same s (set s to n) (to + 1) (to + 1) n (λ i l.
        slot_same s (set s to n) (to + 1 + slot_words * i) (to + 1 + slot_words * i) (omega (arith, most)) (omega (arith, most, length-set s to n))
        (λ x g.
        get_or-set_other s to (to + 1 + slot_words * i + x) n 0 (λ q. omega arith)))

    away : (x : ℕ) → (x < to) ⊎ (to + region_words ≤ x) → x ≡ to → ⊥
    away x (inl d) q = omega arith
    away x (inr d) q = omega arith

    wider : (x : ℕ) → (x < to) ⊎ (to + region_words ≤ x) → (x < to + 1) ⊎ (to + 1 + slot_words * n ≤ x)
    wider x (inl d) = inl (omega arith)
    wider x (inr d) = inr (omega (arith, most))

-- the i-th slots of two regions have no word in common, nor has the one any with those before the other
pub slots_apart : (to from i : ℕ) → i < most_conjuncts → Apart region_words to from → Apart slot_words (to + 1 + slot_words * i) (from + 1 + slot_words * i)
slots_apart to from i h (inl p) = inl (omega arith)
slots_apart to from i h (inr p) = inr (omega arith)

pub slots-before : (to from i : ℕ) → i < most_conjuncts → Apart region_words to from
    → (from + 1 + slot_words * i + slot_words ≤ to + 1 + slot_words * 0) ⊎ (to + 1 + slot_words * i ≤ from + 1 + slot_words * i)
slots-before to from i h (inl p) = inr (omega arith)
slots-before to from i h (inr p) = inl (omega arith)
