-- The words of slots: read, written.
use mathlib.Core.List.{List, ◌∷◌, ◌++◌}
use mathlib.Core.Logic.{◌⊎◌, inl, inr}
use mathlib.Core.Path.{◌≡◌, sym, ap, ap₂, ◌∙◌}
use Prim.Native.Nat.{ℕ, ◌+◌, ◌-◌, ◌<◌, ◌≤◌, compare}
use native.Mathlib.Numerals.{add-one}
use native.Mathlib.Omega.{arith}
use lib.ListN.{length, get_or, take, drop, set, length-drop, length-set}
use lib.Seq.{get_or-drop, get_or-take, length-take-le, take-take, take-append_seam, drop-append_seam}
use borrow.Rule.Slice.PartMut.{post_of, put_mid, same_len_mid, mid_len, take_put, drop_put}
use Rattle.model.specs.Conjunct.{◌then◌, order_numbers, order}
use Rattle.model.specs.Sizes.{most_nodes}
use Rattle.bytes_le.proofs.Overlays.{overlay_read}
use Rattle.bytes_le.specs.Overlay.{overlay}
use Rattle.conjunct.proofs.node.Lists.{conjunct-order}
use Rattle.conjunct.specs.Word.{nodes_of_lem}
use Rattle.sets.proofs.Overlaid.{overlay-before, overlay-beyond, overlay-inside}
use Rattle.sets.specs.Region.{slot_at, Outside, slot_words}

-- ---- read

-- the room of a slot
room : (s : List ℕ) (a : ℕ) → a + slot_words ≤ length s → length (take most_nodes (drop (a + 1) s)) ≡ most_nodes
room s a h = length-take-le most_nodes (drop (a + 1) s) (rw length-drop (omega arith))

-- n words of the room are the slot's, if n is its count as far as it goes
pub slot-words : (s : List ℕ) (a n : ℕ) → a + slot_words ≤ length s → n ≤ most_nodes → ((l : List ℕ) → length l ≡ most_nodes → take n l ≡ take (get_or s a 0) l)
    → take n (drop (a + 1) s) ≡ slot_at s a
unfolding slot_at
slot-words s a n h k f = sym (take-take n most_nodes (drop (a + 1) s) k) ∙ f (take most_nodes (drop (a + 1) s)) (room s a h)

pub slot-count : (s : List ℕ) (a n : ℕ) → a + slot_words ≤ length s → n ≤ most_nodes → ((l : List ℕ) → length l ≡ most_nodes → take n l ≡ take (get_or s a 0) l)
    → length (slot_at s a) ≡ n
slot-count s a n h k f = ap length (sym (slot-words s a n h k f)) ∙ length-take-le n (drop (a + 1) s) (rw length-drop (omega arith))

-- the same words, by their bounds
pub slot-part : (s : List ℕ) (a n : ℕ) → a + slot_words ≤ length s → n ≤ most_nodes → ((l : List ℕ) → length l ≡ most_nodes → take n l ≡ take (get_or s a 0) l)
    → take (a + 1 + n - (a + 1)) (drop (a + 1) s) ≡ slot_at s a
slot-part s a n h k f = let e : a + 1 + n - (a + 1) ≡ n = omega arith in ap (λ m. take m (drop (a + 1) s)) e ∙ slot-words s a n h k f

-- m words against a slot's
pub slot-order : (w s : List ℕ) (m a n : ℕ) → m ≤ length w → a + slot_words ≤ length s → n ≤ most_nodes
    → ((l : List ℕ) → length l ≡ most_nodes → take n l ≡ take (get_or s a 0) l)
    → (compare m n then order_numbers (take m w) (take n (drop (a + 1) s))) ≡ order (nodes_of_lem (take m w)) (nodes_of_lem (slot_at s a))
slot-order w s m a n g h k f =
    rw (slot-words s a n h k f)
    (ap₂ (λ x y. compare x y then order_numbers (take m w) (slot_at s a)) (sym (length-take-le m w g)) (sym (slot-count s a n h k f))
    ∙ sym (conjunct-order (take m w) (slot_at s a)))

-- ---- written

pub written : (s l : List ℕ) (a n : ℕ) → overlay (set s a n) (a + 1) l ≡ overlay s a (n ∷ l)
unfolding overlay
written s l a n = rw (add-one a)

-- ---- put back

-- other words in the place of a slot's: they are the slot's, and nothing else differs
module _ (s ys : List ℕ) (a n : ℕ) (fits : a + slot_words ≤ length s) (few : n ≤ most_nodes)
    (counted : (l : List ℕ) → length l ≡ most_nodes → take n l ≡ take (get_or s a 0) l) (same : length ys ≡ n) where
  after : List ℕ
  after = put_mid (a + 1) (a + 1 + n - (a + 1)) s ys

  before-part : (i : ℕ) → i < a + 1 → get_or after i 0 ≡ get_or s i 0
  unfolding after
  before-part i h =
      sym (get_or-take (a + 1) after i 0 h) ∙ ap (λ l. get_or l i 0) (take_put (a + 1) (a + 1 + n - (a + 1)) s ys (omega arith)) ∙ get_or-take (a + 1) s i 0 h

  behind-part : (i : ℕ) → a + 1 + n ≤ i → get_or after i 0 ≡ get_or s i 0
  unfolding after
  behind-part i h =
      let e : a + 1 + n + (i - (a + 1 + n)) ≡ i = omega arith in
      ap (λ j. get_or after j 0) (sym e) ∙ sym (get_or-drop (a + 1 + n) after (i - (a + 1 + n)) 0)
      ∙ ap (λ l. get_or l (i - (a + 1 + n)) 0) (drop_put (a + 1) (a + 1 + n) s ys (omega arith) (omega arith) (omega arith))
      ∙ get_or-drop (a + 1 + n) s (i - (a + 1 + n)) 0 ∙ ap (λ j. get_or s j 0) e

  size : length after ≡ length s
  unfolding after
  size = same_len_mid (a + 1) (a + 1 + n - (a + 1)) s ys (omega (arith, same, mid_len (a + 1) (a + 1 + n) s (omega arith)))

  inside : take n (drop (a + 1) after) ≡ ys
  unfolding after
  inside =
      let front : length (take (a + 1) s) ≡ a + 1 = length-take-le (a + 1) s (omega arith) in
      let rest = post_of (a + 1) (a + 1 + n - (a + 1)) s in
      ap (take n) (ap (λ k. drop k (take (a + 1) s ++ (ys ++ rest))) (sym front) ∙ drop-append_seam (take (a + 1) s) (ys ++ rest))
      ∙ ap (λ k. take k (ys ++ rest)) (sym same) ∙ take-append_seam ys rest

  pub put_back : (slot_at (put_mid (a + 1) (a + 1 + n - (a + 1)) s ys) a ≡ ys) × Outside a slot_words s (put_mid (a + 1) (a + 1 + n - (a + 1)) s ys)
  unfolding after
  put_back = (
    sym (slot-words after a n (omega (arith, size)) few (λ l q. counted l q ∙ ap (λ c. take c l) (sym (before-part a (omega arith))))) ∙ inside,
    λ i h. away i h,
  )
    where
      away : (i : ℕ) → (i < a) ⊎ (a + slot_words ≤ i) → get_or after i 0 ≡ get_or s i 0
      away i (inl h) = before-part i (omega arith)
      away i (inr h) = behind-part i (omega arith)

-- m words and their count, stored over a slot
module _ (s w : List ℕ) (a m : ℕ) (fits : a + slot_words ≤ length s) (few : m ≤ most_nodes) (there : m ≤ length w) where
  long : length (take m w) ≡ m
  long = length-take-le m w there

  count : get_or (overlay s a (m ∷ take m w)) a 0 ≡ m
  count =
      let first : a + 0 ≡ a = omega arith in
      ap (λ i. get_or (overlay s a (m ∷ take m w)) i 0) (sym first) ∙ overlay-inside (m ∷ take m w) s a 0 (omega arith) (omega (arith, long))

  words : take m (take most_nodes (drop (a + 1) (overlay s a (m ∷ take m w)))) ≡ take m w
  words =
      ap (λ l. take m (take most_nodes (drop (a + 1) l))) (sym (written s (take m w) a m))
      ∙ ap (λ k. take k (take most_nodes (drop (a + 1) (overlay (set s a m) (a + 1) (take m w))))) (sym long)
      ∙ overlay_read (take m w) (set s a m) (a + 1) most_nodes (omega (arith, long, length-set s a m)) (omega (arith, long))

  away : (i : ℕ) → (i < a) ⊎ (a + slot_words ≤ i) → get_or (overlay s a (m ∷ take m w)) i 0 ≡ get_or s i 0
  away i (inl h) = overlay-before (m ∷ take m w) s a i h
  away i (inr h) = overlay-beyond (m ∷ take m w) s a i (omega (arith, long))

  pub stored : (t : List ℕ) → t ≡ overlay s a (m ∷ take m w) → (slot_at t a ≡ take m w) × Outside a slot_words s t
  unfolding slot_at
  stored t e = (
    ap (λ l. take (get_or l a 0) (take most_nodes (drop (a + 1) l))) e
        ∙ ap (λ c. take c (take most_nodes (drop (a + 1) (overlay s a (m ∷ take m w))))) count ∙ words,
    λ i h. ap (λ l. get_or l i 0) e ∙ away i h,
  )
