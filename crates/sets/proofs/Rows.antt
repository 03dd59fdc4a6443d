-- Slots and rows of slots that agree word by word; and what lies outside of a region.
use mathlib.Core.Bool.{cond}
use mathlib.Core.List.{List, [], ◌∷◌, map}
use mathlib.Core.Logic.{◌⊎◌, inl, inr}
use mathlib.Core.Path.{◌≡◌, refl, sym, ap, ap₂, ◌∙◌}
use Prim.Native.Nat.{ℕ, zero, suc, ◌+◌, ◌*◌, ◌<◌, ◌≤◌}
use native.Mathlib.Omega.{arith}
use lib.Dec.{ltb}
use lib.ListN.{length, get_or, take, drop, set, length-drop, length-map, get_or-map, get_or-eq_default}
use lib.Seq.{ext_get_or, get_or-take, get_or-drop, length-take-le, get_or-set_same, get_or-set_other}
use borrow.Author.Tests.{ltb-true}
use Rattle.model.specs.Sizes.{most_conjuncts, most_nodes}
use Rattle.model.proofs.Basics.Tests.{case}
use Rattle.conjunct.specs.Word.{nodes_of_lem}
use Rattle.sets.specs.Region.{few, slot_at, rows_from, rows_of, set_of, Outside, Within, Apart, region_words, slot_words}

pub few-most : (c : ℕ) → few c ≤ most_conjuncts
unfolding few
few-most c = case (ltb c most_conjuncts) (λ z. cond z c most_conjuncts ≤ most_conjuncts) (λ p. omega (arith, ltb-true c most_conjuncts p)) (λ p. omega arith)

pub few-is : (c : ℕ) → c ≤ most_conjuncts → few c ≡ c
unfolding few
few-is c h = case (ltb c most_conjuncts) (λ z. cond z c most_conjuncts ≡ c) (λ p. refl) (λ p. omega (arith, borrow.Author.Tests.ltb-false c most_conjuncts p))

-- ---- slots

part_length : (s : List ℕ) (a n : ℕ) → a + n ≤ length s → length (take n (drop a s)) ≡ n
part_length s a n h = length-take-le n (drop a s) (rw length-drop (omega arith))

pub part_same : (s t : List ℕ) (a b n : ℕ) → a + n ≤ length s → b + n ≤ length t → ((x : ℕ) → x < n → get_or t (b + x) 0 ≡ get_or s (a + x) 0)
    → take n (drop b t) ≡ take n (drop a s)
part_same s t a b n h k f =
    ext_get_or 0 (take n (drop b t)) (take n (drop a s)) (part_length t b n k ∙ sym (part_length s a n h)) (λ i g.
    let l : i < n = omega (arith, part_length t b n k) in
    get_or-take n (drop b t) i 0 l ∙ get_or-drop b t i 0 ∙ f i l ∙ sym (get_or-take n (drop a s) i 0 l ∙ get_or-drop a s i 0))

pub slot_same : (s t : List ℕ) (a b : ℕ) → a + slot_words ≤ length s → b + slot_words ≤ length t
    → ((x : ℕ) → x < slot_words → get_or t (b + x) 0 ≡ get_or s (a + x) 0) → slot_at t b ≡ slot_at s a
unfolding slot_at
slot_same s t a b h k f =
    let p : a + 0 ≡ a = omega arith in
    let q : b + 0 ≡ b = omega arith in
    let count : get_or t b 0 ≡ get_or s a 0 = ap (λ i. get_or t i 0) (sym q) ∙ f 0 (omega arith) ∙ ap (λ i. get_or s i 0) p in
    ap₂ take count (part_same s t (a + 1) (b + 1) most_nodes (omega arith) (omega arith) (λ x g.
    let u : a + (x + 1) ≡ a + 1 + x = omega arith in
    let v : b + (x + 1) ≡ b + 1 + x = omega arith in
    ap (λ i. get_or t i 0) (sym v) ∙ f (x + 1) (omega arith) ∙ ap (λ i. get_or s i 0) u))

-- a slot beside the n words from b on, where nothing else differs
pub slot_kept : (s t : List ℕ) (b n a : ℕ) → length t ≡ length s → a + slot_words ≤ length s → Outside b n s t → (a + slot_words ≤ b) ⊎ (b + n ≤ a)
    → slot_at t a ≡ slot_at s a
slot_kept s t b n a e h o d = slot_same s t a a h (omega arith) (λ x g. o (a + x) (side d x g))
  where
    side : (a + slot_words ≤ b) ⊎ (b + n ≤ a) → (x : ℕ) → x < slot_words → (a + x < b) ⊎ (b + n ≤ a + x)
    side (inl p) x g = inl (omega arith)
    side (inr p) x g = inr (omega arith)

-- ---- rows

pub rows-length : (n : ℕ) (s : List ℕ) (a : ℕ) → length (rows_from s a n) ≡ n
unfolding rows_from
rows-length zero s a = refl
rows-length (suc n) s a = ap suc (rows-length n s (a + slot_words))

pub rows_at : (n : ℕ) (s : List ℕ) (a i : ℕ) → i < n → get_or (rows_from s a n) i [] ≡ slot_at s (a + slot_words * i)
unfolding rows_from
rows_at zero s a i h = absurd (omega arith)
rows_at (suc n) s a zero h = let e : a + slot_words * 0 ≡ a = omega arith in rw e
rows_at (suc n) s a (suc i) h =
    let e : a + slot_words * suc i ≡ a + slot_words + slot_words * i = omega arith in rw e (rows_at n s (a + slot_words) i (omega arith))

pub rows_same : (s t : List ℕ) (a b n : ℕ) → ((i : ℕ) → i < n → slot_at t (b + slot_words * i) ≡ slot_at s (a + slot_words * i))
    → rows_from t b n ≡ rows_from s a n
rows_same s t a b n f =
    ext_get_or [] (rows_from t b n) (rows_from s a n) (rows-length n t b ∙ sym (rows-length n s a)) (λ i g.
    let l : i < n = omega (arith, rows-length n t b) in
    rows_at n t b i l ∙ f i l ∙ sym (rows_at n s a i l))

-- rows whose words agree
pub rows_words : (s t : List ℕ) (a b n : ℕ) → a + slot_words * n ≤ length s → b + slot_words * n ≤ length t
    → ((x : ℕ) → x < slot_words * n → get_or t (b + x) 0 ≡ get_or s (a + x) 0)
    → rows_from t b n ≡ rows_from s a n
rows_words s t a b n h k f =
    rows_same s t a b n (λ i l. slot_same s t (a + slot_words * i) (b + slot_words * i) (omega arith) (omega arith) (λ x g.
    let u : a + (slot_words * i + x) ≡ a + slot_words * i + x = omega arith in
    let v : b + (slot_words * i + x) ≡ b + slot_words * i + x = omega arith in
    ap (λ j. get_or t j 0) (sym v) ∙ f (slot_words * i + x) (omega arith) ∙ ap (λ j. get_or s j 0) u))

pub set-length : (s : List ℕ) (b : ℕ) → length (set_of s b) ≡ few (get_or s b 0)
unfolding set_of rows_of
set-length s b = length-map (rows_from s (b + 1) (few (get_or s b 0))) nodes_of_lem ∙ rows-length (few (get_or s b 0)) s (b + 1)

pub set-few : (s : List ℕ) (b : ℕ) → length (set_of s b) ≤ most_conjuncts
set-few s b = omega (arith, set-length s b, few-most (get_or s b 0))

-- ---- regions that agree word by word hold the same set

pub set_same : (s t : List ℕ) (a b : ℕ) → a + region_words ≤ length s → b + region_words ≤ length t
    → ((x : ℕ) → x < 1 + slot_words * few (get_or s a 0) → get_or t (b + x) 0 ≡ get_or s (a + x) 0) → set_of t b ≡ set_of s a
unfolding set_of rows_of
set_same s t a b h k f =
    let p : a + 0 ≡ a = omega arith in
    let q : b + 0 ≡ b = omega arith in
    let m = few-most (get_or s a 0) in
    let count : get_or t b 0 ≡ get_or s a 0 = ap (λ i. get_or t i 0) (sym q) ∙ f 0 (omega arith) ∙ ap (λ i. get_or s i 0) p in
    ap (map nodes_of_lem)
    (ap (λ c. rows_from t (b + 1) (few c)) count ∙ rows_words s t (a + 1) (b + 1) (few (get_or s a 0)) (omega arith) (omega arith) (λ x g.
    let u : a + (x + 1) ≡ a + 1 + x = omega arith in
    let v : b + (x + 1) ≡ b + 1 + x = omega arith in
    ap (λ i. get_or t i 0) (sym v) ∙ f (x + 1) (omega arith) ∙ ap (λ i. get_or s i 0) u))

-- a change inside of one region changes no other
pub frame : (s t : List ℕ) (a b : ℕ) → length t ≡ length s → b + region_words ≤ length s → Apart region_words a b → Within a s t → set_of t b ≡ set_of s b
frame s t a b e h d w = set_same s t b b h (omega arith) (λ x g. w (b + x) (side d x g))
  where
    side : Apart region_words a b → (x : ℕ) → x < 1 + slot_words * few (get_or s b 0) → (b + x < a) ⊎ (a + region_words ≤ b + x)
    side (inl p) x g = inr (omega arith)
    side (inr p) x g = inl (omega (arith, few-most (get_or s b 0)))

pub within_trans : (b : ℕ) (s t u : List ℕ) → Within b s t → Within b t u → Within b s u
within_trans b s t u f g i h = g i h ∙ f i h

pub cleared : (s : List ℕ) (b : ℕ) → b < length s → (set_of (set s b 0) b ≡ []) × Within b s (set s b 0)
unfolding set_of rows_of rows_from few
cleared s b h = (rw (get_or-set_same s b 0 0 h), λ i g. get_or-set_other s b i 0 0 (away i g))
  where
    away : (i : ℕ) → (i < b) ⊎ (b + region_words ≤ i) → i ≡ b → ⊥
    away i (inl p) e = omega arith
    away i (inr p) e = omega arith

-- ---- rows as conjuncts

pub rowset_length : (n : ℕ) (s : List ℕ) (a : ℕ) → length (map nodes_of_lem (rows_from s a n)) ≡ n
rowset_length n s a = length-map (rows_from s a n) nodes_of_lem ∙ rows-length n s a

pub rowset_at : (n : ℕ) (s : List ℕ) (a i : ℕ) → i < n → get_or (map nodes_of_lem (rows_from s a n)) i [] ≡ nodes_of_lem (slot_at s (a + slot_words * i))
rowset_at n s a i h = get_or-map nodes_of_lem (rows_from s a n) i [] ∙ ap nodes_of_lem (rows_at n s a i h)

pub set_at : (s : List ℕ) (b i : ℕ) → i < few (get_or s b 0) → get_or (set_of s b) i [] ≡ nodes_of_lem (slot_at s (b + 1 + slot_words * i))
unfolding set_of rows_of
set_at s b i h = rowset_at (few (get_or s b 0)) s (b + 1) i h

pub set_past : (s : List ℕ) (b i : ℕ) → few (get_or s b 0) ≤ i → get_or (set_of s b) i [] ≡ []
set_past s b i h = get_or-eq_default (set_of s b) [] (omega (arith, set-length s b))

-- the set, where the count is at hand
pub set-rows : (s : List ℕ) (b n : ℕ) → n ≡ few (get_or s b 0) → set_of s b ≡ map nodes_of_lem (rows_from s (b + 1) n)
unfolding set_of rows_of
set-rows s b n e = rw e

pub take_short : (n : ℕ) (l : List ℕ) → length (take n l) ≤ length l
take_short zero l = omega arith
take_short (suc n) [] = omega arith
take_short (suc n) (x ∷ l) = omega (arith, take_short n l)
