-- A number of a given sign and magnitude against the range of a type: one bound on the magnitude, the limit on the
-- side of the sign, decides whether the number fits and how it wraps.
use Rattle.std.proofs.Common.{◌≡◌, ℕ, zero, suc, ◌-◌, ◌%◌, ◌^◌, ◌<◌, ◌≤◌, Bool, true, false, cond, not, ◌&&◌, leb, pos, neg_ℤ, sym, refl, ◌∙◌, mod-lt, mod-eq_of_lt, arith, pow_pos, le-leb, leb-true}
use mathlib.Core.Bool.{and-true}
use native.Mathlib.Nat.{mod_self}
use lib.Dec.{leb-zero, leb-suc-zero, leb-suc-suc}
use lib.Signed.{le_z}
use borrow.Author.Tests.{lt-leb}
use Rattle.arith.specs.Types.{bits, depth, height, limit_of}
use Rattle.arith.specs.Whole.{of_sign}
use Rattle.arith.specs.Step.{fits, wrap, fold_down}
use Rattle.arith.proofs.Signs.{sub_lt}
use Rattle.arith.proofs.Spans.{span}
use Rattle.arith.proofs.Residues.{residue_neg}

-- ---- fitting

-- the range from -L to H
pub between : (L H : ℕ) (n : Bool) (m : ℕ) → (le_z (neg_ℤ (pos L)) (of_sign n m) && le_z (of_sign n m) (pos H)) ≡ leb m (cond n L H)
between zero H false m = simp leb-zero
between (suc L) H false m = refl
between zero H true zero = simp leb-zero
between (suc L) H true zero = simp leb-zero
between zero H true (suc m) = simp leb-suc-zero
between (suc L) H true (suc m) = and-true (leb m L) ∙ sym (leb-suc-suc m L)

pub fits-sign : (t : ℕ) (n : Bool) (m : ℕ) → fits t (of_sign n m) ≡ leb m (limit_of t n)
fits-sign t true m = between (depth t) (height t) true m
fits-sign t false m = between (depth t) (height t) false m

pub fits_le : (t : ℕ) (n : Bool) (m : ℕ) → fits t (of_sign n m) ≡ true → m ≤ limit_of t n
fits_le t n m e = leb-true m (limit_of t n) (sym (fits-sign t n m) ∙ e)

pub le_fits : (t : ℕ) (n : Bool) (m : ℕ) → m ≤ limit_of t n → fits t (of_sign n m) ≡ true
le_fits t n m h = fits-sign t n m ∙ le-leb m (limit_of t n) h

pub limit_lt : (t : ℕ) (n : Bool) (m : ℕ) → m ≤ limit_of t n → m < 2 ^ bits t
limit_lt t true m h = omega (arith, span t)
limit_lt t false m h = omega (arith, span t)

-- ---- wrapping

-- what is at most hi stays, and what is above goes down by M
pub down_in : (M H r : ℕ) → r ≤ H → fold_down M (pos H) r ≡ pos r
down_in M H r h = rw (le-leb r H h)

pub down_out : (M H r : ℕ) → H < r → r < M → fold_down M (pos H) r ≡ neg_ℤ (pos (M - r))
down_out M H r h k = rw (lt-leb r H h) (sub_lt r M k)

-- a magnitude of which x is the remainder: within the side's limit x stays, with the sign; past it the other sign has the rest
module _ (t m x : ℕ) (e : x ≡ m % 2 ^ bits t) where
  pub rest_lt : x < 2 ^ bits t
  rest_lt = rw e (mod-lt m (pow_pos (bits t)))

  pub wrap_in : (n : Bool) → x ≤ limit_of t n → of_sign n x ≡ wrap t (of_sign n m)
  wrap_in false h = rw (← e) (sym (down_in (2 ^ bits t) (height t) x h))
  wrap_in true h = rw (residue_neg, ← e) (go x refl h)
    where
      M : ℕ
      M = 2 ^ bits t

      go : (y : ℕ) → x ≡ y → y ≤ depth t → neg_ℤ (pos y) ≡ fold_down M (pos (height t)) ((M - y) % M)
      go zero p k = let q : M - 0 ≡ M = omega arith in rw (q, mod_self) (sym (down_in M (height t) 0 (omega arith)))
      go (suc y) p k =
          let q : M - (M - suc y) ≡ suc y = omega (arith, rest_lt) in
          rw (mod-eq_of_lt {n = M - suc y} {m = M} (omega (arith, rest_lt)))
          (sym (rw q at (down_out M (height t) (M - suc y) (omega (arith, span t)) (omega (arith, rest_lt)))))

  pub wrap_out : (n : Bool) → limit_of t n < x → of_sign (not n) (2 ^ bits t - x) ≡ wrap t (of_sign n m)
  wrap_out false h = rw (← e) (sym (down_out (2 ^ bits t) (height t) x h rest_lt))
  wrap_out true h =
      rw (residue_neg, ← e, mod-eq_of_lt {n = 2 ^ bits t - x} {m = 2 ^ bits t} (omega (arith, rest_lt)))
      (sym (down_in (2 ^ bits t) (height t) (2 ^ bits t - x) (omega (arith, span t))))
