-- Wrapping: a number that fits its type wraps to itself, and what any number wraps to fits; and a number that fits is
-- what its word holds.
use Rattle.std.proofs.Common.{◌≡◌, ℕ, suc, ◌-◌, ◌%◌, ◌^◌, ◌<◌, ◌≤◌, Bool, true, false, cond, not, leb, ℤ, pos, negsuc, sym, refl, ap, ◌∙◌, le_trans, mod-lt, mod-eq_of_lt, arith, pow_pos, pow_mono, leb-false, leb-true}
use Rattle.arith.specs.Types.{bits, signed, depth, height, highest, limit_of}
use Rattle.arith.specs.Whole.{of_sign}
use Rattle.arith.specs.Step.{residue, fold_down, fits, wrap}
use Rattle.arith.specs.Words.{wide_of, word_of, value_at, immediate}
use Rattle.arith.proofs.Ranges.{fits_le, le_fits, limit_lt, wrap_in, wrap_out}
use Rattle.arith.proofs.Spans.{bits_le, span, span_le}

pub stays : (t : ℕ) (n : Bool) (m : ℕ) → m ≤ limit_of t n → of_sign n m ≡ wrap t (of_sign n m)
stays t n m h = wrap_in t m m (sym (mod-eq_of_lt (limit_lt t n m h))) n h

-- A number that fits its type wraps to itself.
pub fits_wrap : (t : ℕ) (z : ℤ) → fits t z ≡ true → wrap t z ≡ z
fits_wrap t (pos m) e = sym (stays t false m (fits_le t false m e))
fits_wrap t (negsuc m) e = sym (stays t true (suc m) (fits_le t true (suc m) e))

wrapped_fits : (t : ℕ) (n : Bool) (m : ℕ) → fits t (wrap t (of_sign n m)) ≡ true
wrapped_fits t n m = go (leb x (limit_of t n)) refl
  where
    M : ℕ
    M = 2 ^ bits t

    x : ℕ
    x = m % M

    rest : (n : Bool) → limit_of t n < x → M - x ≤ limit_of t (not n)
    rest true h = omega (arith, span t)
    rest false h = omega (arith, span t)

    go : (b : Bool) → leb x (limit_of t n) ≡ b → fits t (wrap t (of_sign n m)) ≡ true
    go true e =
        let h = leb-true x (limit_of t n) e in
        rw (← wrap_in t m x refl n h) (le_fits t n x h)
    go false e =
        let h = leb-false x (limit_of t n) e in
        rw (← wrap_out t m x refl n h) (le_fits t (not n) (M - x) (rest n h))

-- What a number wraps to fits the type.
pub wrap-fits : (t : ℕ) (z : ℤ) → fits t (wrap t z) ≡ true
wrap-fits t (pos m) = wrapped_fits t false m
wrap-fits t (negsuc m) = wrapped_fits t true (suc m)

-- ---- zero

pub fits-zero : (t : ℕ) → fits t (pos 0) ≡ true
fits-zero t = le_fits t false 0 (omega arith)

pub immediate-zero : (t : ℕ) → immediate t 0 ≡ pos 0
unfolding immediate
immediate-zero t = fits_wrap (cond (signed t) 6 2) (pos 0) (fits-zero (cond (signed t) 6 2))

-- ---- words

pub residue_lt : (M : ℕ) → 0 < M → (z : ℤ) → residue M z < M
residue_lt M h (pos n) = mod-lt n h
residue_lt M h (negsuc n) = mod-lt (M - suc n % M) h

pub word_lt : (z : ℤ) → word_of z < 2 ^ 64
unfolding word_of
word_lt z = residue_lt (2 ^ 64) (pow_pos 64) z

-- the type of 64 bits has the numbers of every narrower type
wide_bits : (t : ℕ) → 2 ^ bits (wide_of t) ≡ 2 ^ 64
unfolding wide_of bits
wide_bits t = go (signed t)
  where
    go : (s : Bool) → 2 ^ bits (cond s 7 3) ≡ 2 ^ 64
    go true = refl
    go false = refl

half_le : (t : ℕ) → 2 ^ (bits t - 1) ≤ 2 ^ 63
half_le t = pow_mono {i = bits t - 1} {j = 63} (omega (arith, bits_le t))

widened : (t : ℕ) (s n : Bool) → cond n (cond s (2 ^ (bits t - 1)) 0) (cond s (2 ^ (bits t - 1) - 1) (2 ^ bits t - 1)) ≤ limit_of (cond s 7 3) n
unfolding depth height bits signed
widened t true true = half_le t
widened t true false = omega (arith, half_le t)
widened t false true = omega arith
widened t false false = omega (arith, span_le t)

widens : (t : ℕ) (n : Bool) → limit_of t n ≤ limit_of (wide_of t) n
unfolding wide_of depth height
widens t true = widened t (signed t) true
widens t false = widened t (signed t) false

fits_wide : (t : ℕ) (z : ℤ) → fits t z ≡ true → fits (wide_of t) z ≡ true
fits_wide t (pos m) e = le_fits (wide_of t) false m (le_trans (fits_le t false m e) (widens t false))
fits_wide t (negsuc m) e = le_fits (wide_of t) true (suc m) (le_trans (fits_le t true (suc m) e) (widens t true))

-- A number that fits its type is what its word holds.
pub fits_word : (t : ℕ) (z : ℤ) → fits t z ≡ true → value_at t (word_of z) ≡ z
unfolding value_at word_of
fits_word t z e =
    let p : residue (2 ^ 64) z % 2 ^ bits (wide_of t) ≡ residue (2 ^ bits (wide_of t)) z = rw (wide_bits t) (mod-eq_of_lt (word_lt z)) in
    ap (fold_down (2 ^ bits (wide_of t)) (highest (wide_of t))) p ∙ fits_wrap (wide_of t) z (fits_wide t z e)
