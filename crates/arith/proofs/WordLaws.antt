-- The word of a wrapped number, from the word of the number; and the number of a word of 64 bits.
use Rattle.std.proofs.Common.{◌≡◌, ℕ, suc, ◌+◌, ◌-◌, ◌%◌, ◌^◌, ◌<◌, ◌≤◌, Bool, true, false, leb, ℤ, pos, negsuc, neg_ℤ, sym, refl, ap, ◌∙◌, mod-eq_of_lt, arith, pow_pos, leb-false, leb-true}
use native.Mathlib.Nat.{mod-mod, mod-add-mod, zero-mod}
use Rattle.arith.specs.declared.whole.Whole.{Whole}
use Rattle.arith.specs.Types.{bits, signed, depth, height}
use Rattle.arith.specs.Whole.{of_sign, Holds}
use Rattle.arith.specs.Step.{residue, wrap}
use Rattle.arith.specs.Words.{word_of}
use Rattle.arith.proofs.Ranges.{down_in, down_out, wrap_out}
use Rattle.arith.proofs.Spans.{span, span_le, low_bits}
use Rattle.arith.proofs.WrapLaws.{residue_lt, stays}
use Rattle.arith.proofs.Residues.{past_mod, opposite_mod, residue_neg}

-- the lowest bits of a number's word are its remainder
pub residue-low : (t : ℕ) (z : ℤ) → residue (2 ^ 64) z % 2 ^ bits t ≡ residue (2 ^ bits t) z
residue-low t (pos n) = low_bits t n
residue-low t (negsuc n) =
    opposite_mod (2 ^ bits t) (pow_pos (bits t)) x (suc n)
    (sym (low_bits t (x + suc n)) ∙ ap (λ (k : ℕ). k % 2 ^ bits t) whole ∙ zero-mod (2 ^ bits t))
  where
    x : ℕ
    x = (2 ^ 64 - suc n % 2 ^ 64) % 2 ^ 64

    whole : (x + suc n) % 2 ^ 64 ≡ 0
    whole = omega arith

-- the word of a held number is that of its sign and its lowest 64 bits
pub word_held : (w : Whole) {z : ℤ} (h : Holds w z) → residue (2 ^ 64) (of_sign w.neg w.low) ≡ residue (2 ^ 64) z
word_held w {z} h = rw (h.is, h.low) (go w.neg h.mag)
  where
    go : (n : Bool) (m : ℕ) → residue (2 ^ 64) (of_sign n (m % 2 ^ 64)) ≡ residue (2 ^ 64) (of_sign n m)
    go false m = mod-mod m (2 ^ 64)
    go true m = rw (residue_neg, residue_neg) (ap (λ (x : ℕ). (2 ^ 64 - x) % 2 ^ 64) (mod-mod m (2 ^ 64)))

module _ (t : ℕ) (z : ℤ) (u r : ℕ) (u-is : u ≡ (residue (2 ^ 64) z + depth t) % 2 ^ 64 % 2 ^ bits t) (fit : r < 2 ^ 64)
    (r_is : (r + depth t) % 2 ^ 64 ≡ u) where
  R : ℕ
  R = residue (2 ^ bits t) z

  R_lt : R < 2 ^ bits t
  unfolding R
  R_lt = residue_lt (2 ^ bits t) (pow_pos (bits t)) z

  cut : u ≡ (R + depth t) % 2 ^ bits t
  unfolding R
  cut =
      u-is ∙ low_bits t (residue (2 ^ 64) z + depth t) ∙ sym (mod-add-mod (residue (2 ^ 64) z) (2 ^ bits t) (depth t))
      ∙ ap (λ (n : ℕ). (n + depth t) % 2 ^ bits t) (residue-low t z)

  pub word-wrap : r ≡ word_of (wrap t z)
  unfolding word_of R
  word-wrap = go (leb R (height t)) refl
    where
      go : (b : Bool) → leb R (height t) ≡ b → r ≡ residue (2 ^ 64) (wrap t z)
      go true e =
          let k = leb-true R (height t) e in
          let c = cut ∙ mod-eq_of_lt {n = R + depth t} {m = 2 ^ bits t} (omega (arith, span t)) in
          rw (down_in (2 ^ bits t) (height t) R k) (omega (arith, c, span t, span_le t))
      go false e =
          let k = leb-false R (height t) e in
          let c = cut ∙ past_mod (R + depth t) (2 ^ bits t) (omega (arith, span t)) (omega (arith, span t, R_lt)) in
          rw (down_out (2 ^ bits t) (height t) R k R_lt, residue_neg) (omega (arith, c, span t, span_le t, R_lt))

-- ---- the number that a word of a type of 64 bits holds

pub unsigned_word : (w : ℕ) → w < 2 ^ 64 → pos w ≡ wrap 3 (pos w)
unfolding bits signed height
unsigned_word w h = stays 3 false w (omega arith)

pub positive-word : (w : ℕ) → w < 2 ^ 63 → pos w ≡ wrap 7 (pos w)
unfolding bits signed height
positive-word w h = stays 7 false w (omega arith)

pub negative_word : (w : ℕ) → 2 ^ 63 ≤ w → w < 2 ^ 64 → neg_ℤ (pos (2 ^ 64 - w)) ≡ wrap 7 (pos w)
unfolding bits signed height
negative_word w h k = wrap_out 7 w w (sym (mod-eq_of_lt k)) false (omega arith)
