-- The operations on whole numbers, by sign and magnitude.
use Rattle.std.proofs.Common.{◌≡◌, ℕ, zero, suc, ◌+◌, ◌-◌, ◌*◌, ◌/◌, ◌<◌, ◌≤◌, Bool, true, false, not, pos, ◌+ℤ◌, ◌-ℤ◌, ◌*ℤ◌, neg_ℤ, nat_abs, sym, refl, ap, ◌∙◌, true≢false, mul-zero, zero-mul, arith, le-ltb, lt-ltb}
use mathlib.Core.Bool.{beq, false≢true}
use native.Mathlib.Nat.{zero-div}
use lib.IntN.{+ℤ_comm, neg_ℤ-neg_ℤ, neg_ℤ-+ℤ}
use lib.Signed.{quot_z}
use Rattle.arith.specs.Whole.{of_sign}

-- the test of two signs, as the code makes it
pub like : (n k : Bool) → beq n k ≡ true → k ≡ n
like true true e = refl
like true false e = absurd (false≢true e)
like false true e = absurd (false≢true e)
like false false e = refl

pub opposite : (n k : Bool) → beq n k ≡ false → k ≡ not n
opposite true true e = absurd (true≢false e)
opposite true false e = refl
opposite false true e = refl
opposite false false e = absurd (true≢false e)

-- the sign of a product and of a quotient
abbrev pub unlike : Bool → Bool → Bool
unlike n k = not (beq n k)

pub neg_sign : (n : Bool) (x : ℕ) → of_sign (not n) x ≡ neg_ℤ (of_sign n x)
neg_sign false x = refl
neg_sign true x = sym (neg_ℤ-neg_ℤ (pos x))

pub abs_sign : (n : Bool) (x : ℕ) → nat_abs (of_sign n x) ≡ x
abs_sign false x = refl
abs_sign true zero = refl
abs_sign true (suc x) = refl

-- x - y, where it is below 0 and where it is not
pub sub_lt : (x y : ℕ) → x < y → pos x -ℤ pos y ≡ neg_ℤ (pos (y - x))
sub_lt x zero h = absurd (omega arith)
sub_lt x (suc y) h =
    let e : suc y - x ≡ suc (suc y - suc x) = omega arith in
    rw (e, lt-ltb x (suc y) h)

pub sub_ge : (x y : ℕ) → y ≤ x → pos x -ℤ pos y ≡ pos (x - y)
sub_ge x zero h = ap pos (omega arith)
sub_ge x (suc y) h = rw (le-ltb x (suc y) h)

pub add_same : (n : Bool) (x y : ℕ) → of_sign n x +ℤ of_sign n y ≡ of_sign n (x + y)
add_same false x y = refl
add_same true x y = sym (neg_ℤ-+ℤ (pos x) (pos y))

pub add_lt : (n : Bool) (x y : ℕ) → x < y → of_sign n x +ℤ of_sign (not n) y ≡ of_sign (not n) (y - x)
add_lt false x y h = sub_lt x y h
add_lt true x y h = +ℤ_comm (neg_ℤ (pos x)) (pos y) ∙ sub_ge y x (omega arith)

pub add_ge : (n : Bool) (x y : ℕ) → y ≤ x → of_sign n x +ℤ of_sign (not n) y ≡ of_sign n (x - y)
add_ge false x y h = sub_ge x y h
add_ge true x y h = +ℤ_comm (neg_ℤ (pos x)) (pos y) ∙ go (x - y) refl
  where
    go : (d : ℕ) → x - y ≡ d → pos y -ℤ pos x ≡ neg_ℤ (pos d)
    go zero e = sub_ge y x (omega arith) ∙ ap pos {x = y - x} {y = 0} (omega arith)
    go (suc d) e = sub_lt y x (omega arith) ∙ ap (λ (m : ℕ). neg_ℤ (pos m)) e

pub mul-sign : (n k : Bool) (x y : ℕ) → of_sign n x *ℤ of_sign k y ≡ of_sign (unlike n k) (x * y)
mul-sign false false x y = refl
mul-sign false true x zero = simp mul-zero
mul-sign false true x (suc y) = refl
mul-sign true false zero y = simp zero-mul
mul-sign true false (suc x) y = refl
mul-sign true true zero zero = refl
mul-sign true true zero (suc y) = simp zero-mul
mul-sign true true (suc x) zero = simp mul-zero
mul-sign true true (suc x) (suc y) = refl

pub quot_sign : (n k : Bool) (x y : ℕ) → 0 < y → quot_z (of_sign n x) (of_sign k y) ≡ of_sign (unlike n k) (x / y)
quot_sign n k x zero h = absurd (omega arith)
quot_sign false false x (suc y) h = refl
quot_sign false true x (suc y) h = refl
quot_sign true false zero (suc y) h = simp zero-div
quot_sign true false (suc x) (suc y) h = refl
quot_sign true true zero (suc y) h = simp zero-div
quot_sign true true (suc x) (suc y) h = refl
