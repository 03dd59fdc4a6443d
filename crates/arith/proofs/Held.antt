-- What a held number is in a type: whether it fits, and what it wraps to.
use Rattle.std.proofs.Common.{◌≡◌, ℕ, ◌+◌, ◌-◌, ◌%◌, ◌^◌, ◌<◌, ◌≤◌, true, not, leb, ℤ, sym, ap, ◌∙◌, arith, leb-true}
use Rattle.arith.specs.declared.whole.Whole.{Whole}
use Rattle.arith.specs.Types.{bits, depth, height, limit_of}
use Rattle.arith.specs.Whole.{of_sign, Holds}
use Rattle.arith.specs.Step.{fits, wrap}
use Rattle.arith.proofs.Ranges.{fits-sign, limit_lt, rest_lt, wrap_in, wrap_out}
use Rattle.arith.proofs.Spans.{span, span_le, low_bits}

pub fits-held : (t : ℕ) (w : Whole) {z : ℤ} (h : Holds w z) → fits t z ≡ leb h.mag (limit_of t w.neg)
fits-held t w h = rw h.is (fits-sign t w.neg h.mag)

-- a held number that fits has no more than its lowest 64 bits
pub fits_low : (t : ℕ) (w : Whole) {z : ℤ} (h : Holds w z) → fits t z ≡ true → z ≡ of_sign w.neg w.low
fits_low t w h e =
    let k = leb-true h.mag (limit_of t w.neg) (sym (fits-held t w h) ∙ e) in
    let m : h.mag ≡ w.low = omega (arith, h.low, limit_lt t w.neg h.mag k, span_le t) in
    h.is ∙ ap (of_sign w.neg) m

-- ---- a held number wrapped to a type, by the remainder x of its lowest 64 bits

module _ (t : ℕ) (w : Whole) {z : ℤ} (h : Holds w z) (x : ℕ) (x-is : x ≡ w.low % 2 ^ bits t) where
  rest : x ≡ h.mag % 2 ^ bits t
  rest = x-is ∙ ap (λ (n : ℕ). n % 2 ^ bits t) h.low ∙ low_bits t h.mag

  pub fold_in : x ≤ limit_of t w.neg → of_sign w.neg x ≡ wrap t z
  fold_in k = rw h.is (wrap_in t h.mag x rest w.neg k)

  pub fold_out : limit_of t w.neg < x → of_sign (not w.neg) (depth t + height t - x + 1) ≡ wrap t z
  fold_out k =
      let e : depth t + height t - x + 1 ≡ 2 ^ bits t - x = omega (arith, span t, rest_lt t h.mag x rest) in
      rw (h.is, e) (wrap_out t h.mag x rest w.neg k)
