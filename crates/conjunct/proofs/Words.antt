-- The words of a conjunct compared, changed one by one, and tested. What a loop has changed after i words is `Changed`; it has a law
-- for no word, for one word more, and for all of them.
use mathlib.Core.Bool.{Bool, true, false, ◌||◌}
use mathlib.Core.List.{List, [], ◌∷◌, map, map-append}
use mathlib.Core.Path.{◌≡◌, refl, sym, ap, ap₂, ◌∙◌}
use Prim.Native.Nat.{Ordering}
use Prim.Native.Nat.{ℕ, ◌+◌, ◌<◌, ◌≤◌, compare}
use native.Mathlib.Numerals.{add-one}
use native.Mathlib.Omega.{arith}
use lib.ListN.{length, take, drop, get_or, set, length-set}
use lib.Seq.{drop-cons, take-suc, take-suc-set, drop-set-lt, get_or-drop}
use Rattle.model.specs.Conjunct.{Node, ◌then◌, order_numbers}
use Rattle.std.specs.Cmp.Lexicographic.{slice_cmp}
use Rattle.std.specs.List.{list_any}
use Rattle.std.specs.declared.cmp.Ordering.{Ordering as Compared}
use Rattle.std.specs.declared.cmp.Ordering.TheVariants.{Less, Equal, Greater}
use Rattle.std.specs.Ordering.{MatchOrdering, is_ne, nat_cmp, ordering_then}
use Rattle.std.proofs.lemmas.Cmp.{ranked}
use Rattle.conjunct.specs.Value.{ordering_of}
use Rattle.model.specs.Touch.{some}
use Rattle.model.proofs.Conjuncts.Order.{compare_less, compare_more, compare_same}
use Rattle.conjunct.specs.Word.{node_of, nodes_of_lem}

-- ---- the order

by_rank : (x y : ℕ) (r : Compared) → MatchOrdering r (x < y) (x ≡ y) (y < x) → ordering_of r ≡ compare x y
by_rank x y Less h = sym (compare_less x y h)
by_rank x y Equal h = sym (compare_same x y h)
by_rank x y Greater h = sym (compare_more x y h)

-- std's order of numbers is that of the model
pub numbers_compared : (x y : ℕ) → ordering_of (nat_cmp x y) ≡ compare x y
numbers_compared x y = by_rank x y (nat_cmp x y) (ranked x y (nat_cmp x y) refl)

then_of : (r s : Compared) → ordering_of (ordering_then r s) ≡ (ordering_of r then ordering_of s)
then_of Less s = refl
then_of Equal s = refl
then_of Greater s = refl

-- and so is its order of lists
pub lists_compared : (xs ys : List ℕ) → ordering_of (slice_cmp nat_cmp xs ys) ≡ order_numbers xs ys
unfolding order_numbers
lists_compared [] [] = refl
lists_compared [] (y ∷ ys) = refl
lists_compared (x ∷ xs) [] = refl
lists_compared (x ∷ xs) (y ∷ ys) = then_of (nat_cmp x y) (slice_cmp nat_cmp xs ys) ∙ ap₂ ◌then◌ (numbers_compared x y) (lists_compared xs ys)

-- the sizes decide, or the words
pub first_decides : (r : Compared) (o : Ordering) → is_ne r ≡ true → ordering_of r ≡ (ordering_of r then o)
first_decides Less o h = refl
first_decides Equal o h = cc
first_decides Greater o h = refl

pub second_decides : (r : Compared) (o : Ordering) → is_ne r ≡ false → o ≡ (ordering_of r then o)
second_decides Less o h = cc
second_decides Equal o h = refl
second_decides Greater o h = cc

-- ---- words changed one by one

module _ (l l₀ : List ℕ) (i v : ℕ) (h : i < length l) (k : i < length l₀) (e : drop i l ≡ drop i l₀) where
  -- the word at i is as it was
  pub at_same : get_or l i 0 ≡ get_or l₀ i 0
  at_same =
      let p : i + 0 ≡ i = omega arith in
      ap (λ j. get_or l j 0) (sym p) ∙ sym (get_or-drop i l 0 0) ∙ ap (λ x. get_or x 0 0) e ∙ get_or-drop i l₀ 0 0 ∙ ap (λ j. get_or l₀ j 0) p

  -- and so are those behind it
  pub behind-same : drop (i + 1) l ≡ drop (i + 1) l₀
  behind-same = rw (add-one i) (ap (drop 1) (sym (drop-cons l i 0 h) ∙ e ∙ drop-cons l₀ i 0 k))

  pub after_same : drop (i + 1) (set l i v) ≡ drop (i + 1) l₀
  after_same = drop-set-lt (i + 1) l i v (omega arith) ∙ behind-same

  mapped_more : (f : Node → Node) → nodes_of_lem (take i l) ≡ map f (nodes_of_lem (take i l₀)) → node_of v ≡ f (node_of (get_or l i 0))
      → nodes_of_lem (take (i + 1) (set l i v)) ≡ map f (nodes_of_lem (take (i + 1) l₀))
  mapped_more f m n =
      rw (add-one i, take-suc-set l i v h, take-suc l₀ i 0 k, map-append, map-append, map-append, m, n, at_same)

-- of n words, the first i are changed as f says, whichever k of K is meant, and the others are as they were
pub record Changed (K : Type 0) (f : K → Node → Node) (l₀ : List ℕ) (n : ℕ) (l : List ℕ) (i : ℕ) : Type 0 where
  pub within : i ≤ n
  pub room : n ≤ length l₀
  pub kept : length l ≡ length l₀
  pub rest : drop i l ≡ drop i l₀
  pub first : (k : K) → nodes_of_lem (take i l) ≡ map (f k) (nodes_of_lem (take i l₀))

module _ {K : Type 0} {f : K → Node → Node} where
  pub changed_none : {l : List ℕ} {n : ℕ} → n ≤ length l → Changed K f l n l 0
  changed_none h = record { within = omega arith; room = h; kept = refl; rest = refl; first = λ k. refl }

  module _ {l₀ : List ℕ} {n : ℕ} {l : List ℕ} {i : ℕ} (c : Changed K f l₀ n l i) where
    pub changed_next : (v : ℕ) → i < n → ((k : K) → node_of v ≡ f k (node_of (get_or l i 0))) → Changed K f l₀ n (set l i v) (i + 1)
    changed_next v h e =
        let u : i < length l = omega (arith, c.room, c.kept) in
        let u₀ : i < length l₀ = omega (arith, c.room) in
        record {
          within = omega arith;
          room = c.room;
          kept = length-set l i v ∙ c.kept;
          rest = after_same l l₀ i v u u₀ c.rest;
          first = λ k. mapped_more l l₀ i v u u₀ c.rest (f k) (c.first k) (e k);
        }

    pub changed_all : n ≤ i → (k : K) → nodes_of_lem (take n l) ≡ map (f k) (nodes_of_lem (take n l₀))
    changed_all h k =
        let e : i ≡ n = omega (arith, c.within) in
        rw e at (c.first k)

-- ---- words tested

-- a test passes one of a list, in the words of std and of the model
pub some_any : {A : Type 0} (f : A → Bool) (l : List A) → list_any f l ≡ some f l
unfolding some
some_any f [] = refl
some_any f (x ∷ l) = ap (f x ||◌) (some_any f l)

-- a node passes if and only if its word does
pub some_word : (f : Node → Bool) (l : List ℕ) → list_any (λ w. f (node_of w)) l ≡ some f (nodes_of_lem l)
unfolding some
some_word f [] = refl
some_word f (w ∷ l) = ap (f (node_of w) ||◌) (some_word f l)
