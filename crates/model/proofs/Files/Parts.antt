-- Entries, pairs and parts of a byte string: where they stand, and that a part holds what the whole holds there.
use mathlib.Core.Path.{◌≡◌, refl, sym, ◌∙◌, ap, ap₂}
use mathlib.Core.Bool.{true}
use mathlib.Core.List.{List, [], ◌∷◌}
use Prim.Native.Nat.{ℕ, zero, suc, ◌+◌, ◌*◌, ◌≤◌, ◌<◌}
use native.Mathlib.Nat.{mul-suc, mul-zero, add_assoc, add-zero}
use native.Mathlib.Omega.{arith}
use lib.Dec.{eqb}
use lib.ListN.{length, get_or, drop, length-drop}
use lib.Seq.{get_or-take, get_or-drop, length-take-le}
use borrow.Author.Tests.{eqb-true}
use Rattle.model.specs.Bytes.{byte_at, u16_at, u32_at, u64_at, part, Pair, entries, chained}
use Rattle.model.proofs.Basics.Tests.{and_left, and_right}

-- ---- entries

module _ {A : Type 0} (at : List ℕ → ℕ → A) (w : ℕ) (s : List ℕ) where
  pub length-entries : (n a : ℕ) → length (entries at w s a n) ≡ n
  unfolding entries
  length-entries zero a = refl
  length-entries (suc n) a = ap suc (length-entries n (a + w))

  pub entries-get_or : (n a i : ℕ) (d : A) → i < n → get_or (entries at w s a n) i d ≡ at s (a + w * i)
  unfolding entries
  entries-get_or zero a i d h = absurd (omega arith)
  entries-get_or (suc n) a zero d h = rw (mul-zero, add-zero)
  entries-get_or (suc n) a (suc i) d h =
      let e : a + w + w * i ≡ a + w * suc i = rw mul-suc (omega arith) in
      entries-get_or n (a + w) i d (omega arith) ∙ ap (at s) e

  -- the first of them
  pub entries-step : (a b n m : ℕ) → n ≡ suc m → b ≡ a + w → entries at w s a n ≡ at s a ∷ entries at w s b m
  unfolding entries
  entries-step a b n m e f = rw (e, f)

-- ---- pairs one after the other

pub chained_le : (ps : List Pair) (a e : ℕ) → chained a ps e ≡ true → a ≤ e
unfolding chained
chained_le [] a e h = let q = eqb-true a e h in omega arith
chained_le (p ∷ ps) a e h =
    let r = chained_le ps (a + p.len) e (and_right (eqb p.offset a) (chained (a + p.len) ps e) h) in
    omega arith

pub chained-inside : (ps : List Pair) (a e : ℕ) → chained a ps e ≡ true → (i : ℕ) (d : Pair) → i < length ps
    → (a ≤ (get_or ps i d).offset) × ((get_or ps i d).offset + (get_or ps i d).len ≤ e)
unfolding chained
chained-inside [] a e h i d k = absurd (omega arith)
chained-inside (p ∷ ps) a e h zero d k =
    let q = eqb-true p.offset a (and_left (eqb p.offset a) (chained (a + p.len) ps e) h) in
    let r = chained_le ps (a + p.len) e (and_right (eqb p.offset a) (chained (a + p.len) ps e) h) in
    (omega arith, omega arith)
chained-inside (p ∷ ps) a e h (suc i) d k =
    let r = chained-inside ps (a + p.len) e (and_right (eqb p.offset a) (chained (a + p.len) ps e) h) i d (omega arith) in
    (omega arith, r.1)

-- ---- parts

pub length_part : (s : List ℕ) (o n : ℕ) → o + n ≤ length s → length (part s o n) ≡ n
length_part s o n h = length-take-le n (drop o s) (omega (arith, length-drop o s))

pub get_d_part : (s : List ℕ) (o n i : ℕ) → i < n → get_or (part s o n) i 0 ≡ get_or s (o + i) 0
get_d_part s o n i h = get_or-take n (drop o s) i 0 h ∙ get_or-drop o s i 0

-- a reader of w bytes at its place
abbrev pub Narrow : {A : Type 0} → (List ℕ → ℕ → A) → ℕ → Type 0
Narrow at w = (s : List ℕ) (o n a : ℕ) → a + w ≤ n → at (part s o n) a ≡ at s (o + a)

pub byte_narrow : Narrow byte_at 1
byte_narrow s o n a h = get_d_part s o n a (omega arith)

-- a byte some way behind the place
pub get_or-behind : (s : List ℕ) (o n a k : ℕ) → a + k < n → get_or (part s o n) (a + k) 0 ≡ get_or s (o + a + k) 0
get_or-behind s o n a k h = get_d_part s o n (a + k) h ∙ ap (λ (i : ℕ). get_or s i 0) (sym (add_assoc o a k))

pub u16_narrow : Narrow u16_at 2
u16_narrow s o n a h = rw (get_d_part s o n a (omega arith), get_or-behind s o n a 1 (omega arith))

pub u32_narrow : Narrow u32_at 4
u32_narrow s o n a h =
    rw (get_d_part s o n a (omega arith), get_or-behind s o n a 1 (omega arith), get_or-behind s o n a 2 (omega arith), get_or-behind s o n a 3 (omega arith))

pub u64_narrow : Narrow u64_at 8
u64_narrow s o n a h =
    ap₂ (λ (x y : ℕ). x + 4294967296 * y) (u32_narrow s o n a (omega arith)) (u32_narrow s o n (a + 4) (omega arith) ∙ ap (u32_at s) (sym (add_assoc o a 4)))

-- entries of a part are those of the whole
pub entries-part : {A : Type 0} (at : List ℕ → ℕ → A) (w : ℕ) → Narrow at w → (s : List ℕ) (o n k a : ℕ) → a + w * k ≤ n
    → entries at w (part s o n) a k ≡ entries at w s (o + a) k
unfolding entries
entries-part at w f s o n zero a h = refl
entries-part at w f s o n (suc k) a h =
    let g : a + w + w * k ≤ n = omega (arith, mul-suc w k) in
    ap₂ ◌∷◌ (f s o n a (omega arith)) (entries-part at w f s o n k (a + w) g ∙ ap (λ (b : ℕ). entries at w s b k) (sym (add_assoc o a w)))
