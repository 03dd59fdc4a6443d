-- Why a number does not fit its type: below 0 it is below the range, and else above it.
use Rattle.std.proofs.Common.{◌≡◌, ℕ, zero, suc, Bool, true, false, cond, not, ◌&&◌, ◌||◌, ◌↔◌, ℤ, pos, negsuc, neg_ℤ, sym, refl, ap, ◌∙◌, true≢false}
use mathlib.Core.Bool.{and-true}
use lib.Dec.{leb-zero}
use lib.Signed.{le_z}
use borrow.Author.Tests.{not-true}
use Rattle.arith.specs.declared.whole.Whole.{Whole}
use Rattle.arith.specs.declared.Op.{Op}
use Rattle.arith.specs.declared.Cause.TheVariants.{Above, Below, NoDivisor}
use Rattle.arith.specs.Types.{depth, height, lowest, highest}
use Rattle.arith.specs.Whole.{of_sign, Holds}
use Rattle.arith.specs.Step.{Outcome, value, overflow, passes, fits, exact_of_lem, lacks_divisor, step_of}

-- the range from -L to H
below_range : (L H m : ℕ) → (le_z (neg_ℤ (pos L)) (of_sign true m) && le_z (of_sign true m) (pos H)) ≡ false → le_z (neg_ℤ (pos L)) (of_sign true m) ≡ false
below_range L H zero e = sym (and-true (le_z (neg_ℤ (pos L)) (pos 0))) ∙ ap (le_z (neg_ℤ (pos L)) (pos 0) &&◌) (sym (leb-zero H)) ∙ e
below_range L H (suc m) e = sym (and-true (le_z (neg_ℤ (pos L)) (of_sign true (suc m)))) ∙ e

not-above : (L m : ℕ) → le_z (neg_ℤ (pos L)) (pos m) ≡ true
not-above zero m = leb-zero m
not-above (suc L) m = refl

pub is_below : (t : ℕ) (w : Whole) (z : ℤ) → Holds w z → w.neg ≡ true → fits t z ≡ false → le_z (lowest t) z ≡ false
is_below t w z h n e =
    let is : z ≡ of_sign true h.mag = h.is ∙ ap (λ b. of_sign b h.mag) n in
    ap (le_z (lowest t)) is ∙ below_range (depth t) (height t) h.mag (ap (fits t) (sym is) ∙ e)

pub is-above : (t : ℕ) (w : Whole) (z : ℤ) → Holds w z → w.neg ≡ false → le_z (lowest t) z ≡ true
is-above t w z h n = ap (le_z (lowest t)) (h.is ∙ ap (λ b. of_sign b h.mag) n) ∙ not-above (depth t) h.mag

-- with a divisor, what overflows does not fit
pub with_divisor : (l f : Bool) → l ≡ false → (l || not f) ≡ true → f ≡ false
with_divisor true f e h = absurd (true≢false e)
with_divisor false f e h = not-true f h

-- what an outcome says: without a divisor; below the range
abbrev lacking : Outcome → Bool
lacking (value z) = false
lacking (overflow Above) = false
lacking (overflow Below) = false
lacking (overflow NoDivisor) = true

abbrev falling : Outcome → Bool
falling (value z) = false
falling (overflow Above) = false
falling (overflow Below) = true
falling (overflow NoDivisor) = false

-- ---- the cause of a step, by its exact result z and whether the divisor lacks

-- above the range is not below it
above_low : (L H : ℕ) (z : ℤ) → le_z z (pos H) ≡ false → le_z (neg_ℤ (pos L)) z ≡ true
above_low L H (pos n) h = not-above L n
above_low L H (negsuc n) h = absurd (true≢false h)

abbrev answered : Bool → Bool → Bool → ℤ → Outcome
answered l low high z = cond (l || not (low && high)) (overflow (cond l NoDivisor (cond low Above Below))) (value z)

told_above : (l low high : Bool) (z : ℤ) → answered l low high z ≡ overflow Above → (l ≡ false) × (high ≡ false)
told_above true low high z e = absurd (true≢false (ap lacking e))
told_above false true true z e = absurd (true≢false (ap passes e))
told_above false true false z e = (refl, refl)
told_above false false high z e = absurd (true≢false (ap falling e))

told_below : (l low high : Bool) (z : ℤ) → answered l low high z ≡ overflow Below → (l ≡ false) × (low ≡ false)
told_below true low high z e = absurd (true≢false (ap lacking e))
told_below false true true z e = absurd (true≢false (ap passes e))
told_below false true false z e = absurd (true≢false (sym (ap falling e)))
told_below false false high z e = (refl, refl)

told_no_divisor : (l low high : Bool) (z : ℤ) → answered l low high z ≡ overflow NoDivisor → l ≡ true
told_no_divisor true low high z e = refl
told_no_divisor false true true z e = absurd (true≢false (ap passes e))
told_no_divisor false true false z e = absurd (true≢false (sym (ap lacking e)))
told_no_divisor false false high z e = absurd (true≢false (sym (ap lacking e)))

module _ (o : Op) (t : ℕ) (a b : ℤ) where
  abbrev result : ℤ
  result = exact_of_lem o a b

  pub cause-above : (step_of o t a b ≡ overflow Above) ↔ ((lacks_divisor o b ≡ false) × (le_z result (highest t) ≡ false))
  cause-above = (
    told_above (lacks_divisor o b) (le_z (lowest t) result) (le_z result (highest t)) result,
    λ h. rw (h.0, h.1, above_low (depth t) (height t) result h.1),
  )

  pub cause-below : (step_of o t a b ≡ overflow Below) ↔ ((lacks_divisor o b ≡ false) × (le_z (lowest t) result ≡ false))
  cause-below = (told_below (lacks_divisor o b) (le_z (lowest t) result) (le_z result (highest t)) result, λ h. rw (h.0, h.1))

  pub cause_no_divisor : (step_of o t a b ≡ overflow NoDivisor) ↔ (lacks_divisor o b ≡ true)
  cause_no_divisor = (told_no_divisor (lacks_divisor o b) (le_z (lowest t) result) (le_z result (highest t)) result, λ h. rw h)
