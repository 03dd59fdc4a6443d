-- Whole numbers as the code holds them: by sign and magnitude.
use Rattle.std.specs.Prelude.{◌≡◌, ℕ, ◌%◌, ◌^◌, Bool, true, false, ℤ, pos, neg_ℤ, nat_le}
use Rattle.arith.specs.declared.Num.{Num}
use Rattle.arith.specs.declared.whole.Whole.{Whole}

-- the whole number with this sign (true: negative) and this magnitude
abbrev pub of_sign : Bool → ℕ → ℤ
of_sign false n = pos n
of_sign true n = neg_ℤ (pos n)

abbrev pub value_of : Num → ℤ
value_of a = of_sign a.neg a.mag

-- w holds z: of z's magnitude, however large, it has the lowest 64 bits, and whether there are more
pub record Holds (w : Whole) (z : ℤ) : Type 0 where
  pub mag : ℕ
  pub is : z ≡ of_sign w.neg mag
  pub low : w.low ≡ mag % 2 ^ 64
  pub over : w.over ≡ nat_le (2 ^ 64) mag
