-- The step that has a value or overflows and the step that wraps agree: the one has a value exactly where the other
-- does not overflow, and then the same; and a division by zero gives zero.
use Rattle.std.proofs.Common.{◌≡◌, ℕ, Bool, true, false, cond, not, ◌||◌, ℤ, pos, negsuc, nat_abs, refl, true≢false, arith}
use native.Mathlib.Nat.{div-zero}
use borrow.Author.Tests.{not-false}
use Rattle.arith.specs.declared.Op.{Op}
use Rattle.arith.specs.declared.Op.TheVariants.{Div}
use Rattle.arith.specs.Step.{value, overflow, passes, fits, exact_of_lem, lacks_divisor, cause_of_lem, step_of, wrap, overflows}
use Rattle.arith.proofs.WrapLaws.{fits_wrap}

pub step-passes : (o : Op) (t : ℕ) (a b : ℤ) → passes (step_of o t a b) ≡ not (overflows o t a b)
step-passes o t a b = go (overflows o t a b)
  where
    go : (l : Bool) → passes (cond l (overflow (cause_of_lem o t a b)) (value (exact_of_lem o a b))) ≡ not l
    go true = refl
    go false = refl

pub step_fits : (o : Op) (t : ℕ) (a b : ℤ) → overflows o t a b ≡ false → fits t (exact_of_lem o a b) ≡ true
step_fits o t a b = go (lacks_divisor o b)
  where
    go : (l : Bool) → (l || not (fits t (exact_of_lem o a b))) ≡ false → fits t (exact_of_lem o a b) ≡ true
    go true e = absurd (true≢false e)
    go false e = not-false (fits t (exact_of_lem o a b)) e

pub step_wraps : (o : Op) (t : ℕ) (a b : ℤ) → overflows o t a b ≡ false → wrap t (exact_of_lem o a b) ≡ exact_of_lem o a b
step_wraps o t a b e = fits_wrap t (exact_of_lem o a b) (step_fits o t a b e)

pub step_value : (o : Op) (t : ℕ) (a b : ℤ) → overflows o t a b ≡ false → step_of o t a b ≡ value (wrap t (exact_of_lem o a b))
step_value o t a b e = rw (e, step_wraps o t a b e)

pub div-zero-exact : (a b : ℤ) → nat_abs b ≡ 0 → exact_of_lem Div a b ≡ pos 0
div-zero-exact (pos m) (pos n) e = simp (e, div-zero)
div-zero-exact (negsuc m) (pos n) e = simp (e, div-zero)
div-zero-exact a (negsuc n) e = absurd (omega arith)
