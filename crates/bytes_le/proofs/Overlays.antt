-- The laws of `overlay`, for every caller.
use mathlib.Core.Path.{◌≡◌, refl, sym, ap, ◌∙◌}
use mathlib.Core.List.{List, [], ◌∷◌, ◌++◌, append_assoc}
use Prim.Native.Nat.{ℕ, suc, ◌+◌, ◌-◌, ◌/◌, ◌%◌, ◌^◌, ◌≤◌, ◌<◌}
use native.Mathlib.Nat.{add-zero}
use native.Mathlib.Numerals.{add-one}
use native.Mathlib.Omega.{arith}
use lib.ListN.{length, get_or, take, drop, set, length-set}
use borrow.Rule.Slice.PartMut.{put_mid}
use lib.Seq.{sets, sets-eq, take-suc, drop-drop, length-take-le, drop-set-add, take-set-le, take_at, drop_at, take-take}
use Rattle.model.specs.Bytes.{bytes2, bytes4, bytes8}
use Rattle.bytes_le.specs.Overlay.{overlay}

-- it is the library's `sets`, which computes, and so is shut here
pub overlay-sets : (vs l : List ℕ) (i : ℕ) → overlay l i vs ≡ sets l i vs
unfolding overlay
overlay-sets [] l i = refl
overlay-sets (v ∷ vs) l i = overlay-sets vs (set l i v) (suc i)

pub length-overlay : (vs l : List ℕ) (i : ℕ) → length (overlay l i vs) ≡ length l
unfolding overlay
length-overlay [] l i = refl
length-overlay (v ∷ vs) l i = length-overlay vs (set l i v) (suc i) ∙ length-set l i v

pub overlay-none : (l : List ℕ) (i : ℕ) → l ≡ overlay l i []
unfolding overlay
overlay-none l i = refl

pub overlay-append : (xs l : List ℕ) (i : ℕ) (ys : List ℕ) → overlay l i (xs ++ ys) ≡ overlay (overlay l i xs) (i + length xs) ys
unfolding overlay
overlay-append [] l i ys = rw add-zero
overlay-append (x ∷ xs) l i ys =
    let e : i + suc (length xs) ≡ suc i + length xs = omega arith in
    rw e (overlay-append xs (set l i x) (suc i) ys)

-- stores one behind the other
pub stored_then : (l m k xs ys : List ℕ) (i j : ℕ) → j ≡ i + length xs → m ≡ overlay l i xs → k ≡ overlay m j ys → k ≡ overlay l i (xs ++ ys)
stored_then l m k xs ys i j e p q = q ∙ rw (p, e) (sym (overlay-append xs l i ys))

-- a copy, one element more
pub overlay_more : (d : List ℕ) (b : ℕ) (s : List ℕ) (i : ℕ) → i < length s
    → set (overlay d b (take i s)) (b + i) (get_or s i 0) ≡ overlay d b (take (i + 1) s)
unfolding overlay
overlay_more d b s i h =
    let len : length (take i s) ≡ i = length-take-le i s (omega arith) in
    rw (add-one, take-suc s i 0 h, overlay-append) (rw len)

-- a part before it is as it was
set_after : (l : List ℕ) (i v a w : ℕ) → a + w ≤ i → take w (drop a (set l i v)) ≡ take w (drop a l)
set_after l i v a w h =
    let e : i ≡ a + (i - a) = omega arith in
    ap (λ (k : ℕ). take w (drop a (set l k v))) e ∙ rw drop-set-add (take-set-le w (drop a l) (i - a) v (omega arith))

pub overlay-after : (vs l : List ℕ) (i a w : ℕ) → a + w ≤ i → take w (drop a (overlay l i vs)) ≡ take w (drop a l)
unfolding overlay
overlay-after [] l i a w h = refl
overlay-after (v ∷ vs) l i a w h = overlay-after vs (set l i v) (suc i) a w (omega arith) ∙ set_after l i v a w h

-- what was stored is read back
pub overlay_read : (vs l : List ℕ) (b w : ℕ) → b + length vs ≤ length l → length vs ≤ w
    → take (length vs) (take w (drop b (overlay l b vs))) ≡ vs
overlay_read vs l b w h g =
    let rest = drop (b + length vs) l in
    let behind = drop_at (take b l) (vs ++ rest) b (length-take-le b l (omega arith)) in
    take-take (length vs) w (drop b (overlay l b vs)) g
    ∙ rw (overlay-sets, sets-eq vs l b h, append_assoc, behind) (take_at vs rest (length vs) refl)

-- a part that is written as a whole
pub overlay_part : (a k : ℕ) (l ys vs : List ℕ) → ys ≡ vs → k ≡ length vs → a + length vs ≤ length l → put_mid a k l ys ≡ overlay l a vs
overlay_part a k l ys vs e m h =
    rw (e, m, overlay-sets, sets-eq vs l a h, append_assoc, ← drop-drop (length vs) a l)

-- two elements that are stored one after the other
pub overlay_2 : (l : List ℕ) (a v w : ℕ) → set (set l a v) (a + 1) w ≡ overlay l a (v ∷ w ∷ [])
unfolding overlay
overlay_2 l a v w = rw (add-one a)

-- ---- the bytes of a number, as its own method gives them

pub bytes2-are : (v : ℕ) → v < 2 ^ 16 → (v % 256 ∷ v / 256 % 256 ∷ []) ≡ bytes2 v
unfolding bytes2
bytes2-are v h = let e : v / 256 % 256 ≡ v / 256 = omega arith in rw e

pub bytes4-are : (v : ℕ) → v < 2 ^ 32 → (v % 256 ∷ v / 256 % 256 ∷ v / 65536 % 256 ∷ v / 16777216 % 256 ∷ []) ≡ bytes4 v
unfolding bytes4
bytes4-are v h = let e : v / 16777216 % 256 ≡ v / 16777216 = omega arith in rw e

pub bytes8-are : (v : ℕ) → v < 2 ^ 64
    → (v % 256 ∷ v / 256 % 256 ∷ v / 65536 % 256 ∷ v / 16777216 % 256 ∷ v / 4294967296 % 256 ∷ v / 1099511627776 % 256 ∷ v / 281474976710656 % 256
    ∷ v / 72057594037927936 % 256 ∷ [])
    ≡ bytes8 v
unfolding bytes8 bytes4
bytes8-are v h =
    let a : v % 4294967296 % 256 ≡ v % 256 = omega arith in
    let b : v % 4294967296 / 256 % 256 ≡ v / 256 % 256 = omega arith in
    let c : v % 4294967296 / 65536 % 256 ≡ v / 65536 % 256 = omega arith in
    let d : v % 4294967296 / 16777216 ≡ v / 16777216 % 256 = omega arith in
    let f : v / 4294967296 / 256 % 256 ≡ v / 1099511627776 % 256 = omega arith in
    let g : v / 4294967296 / 65536 % 256 ≡ v / 281474976710656 % 256 = omega arith in
    let k : v / 4294967296 / 16777216 ≡ v / 72057594037927936 % 256 = omega arith in
    rw (a, b, c, d, f, g, k)
