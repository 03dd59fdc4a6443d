-- One step of arithmetic: its whole-number result, what comes of it in a type, and how it wraps.
use Rattle.std.specs.Prelude.{ℕ, suc, ◌-◌, ◌%◌, ◌^◌, Bool, true, false, cond, not, ◌&&◌, ◌||◌, ℤ, pos, negsuc, ◌+ℤ◌, ◌-ℤ◌, ◌*ℤ◌, ◌==◌, int_div, int_le, unsigned_abs, Result, Ok, Err}
use Rattle.arith.specs.declared.Op.{Op}
use Rattle.arith.specs.declared.Op.TheVariants.{Add, Sub, Mul, Div, Convert}
use Rattle.arith.specs.declared.Cause.{Cause}
use Rattle.arith.specs.declared.Cause.TheVariants.{Above, Below, NoDivisor}
use Rattle.arith.specs.declared.Num.{Num}
use Rattle.arith.specs.Types.{bits, lowest, highest}
use Rattle.arith.specs.Whole.{value_of}

-- the whole-number result; a zero divisor gives 0, since n / 0 is 0 here; a conversion has one operand
abbrev pub exact_of_lem : Op → ℤ → ℤ → ℤ
exact_of_lem Add a b = a +ℤ b
exact_of_lem Sub a b = a -ℤ b
exact_of_lem Mul a b = a *ℤ b
exact_of_lem Div a b = int_div a b
exact_of_lem Convert a b = a

-- the operation of a kind of statement or node: 2 add, 3 subtract, 4 multiply, 5 divide, 6 convert
abbrev pub op_of : ℕ → Op
op_of k = cond (k == 2) Add (cond (k == 3) Sub (cond (k == 4) Mul (cond (k == 5) Div Convert)))

-- a division by zero
abbrev pub lacks_divisor : Op → ℤ → Bool
lacks_divisor Add b = false
lacks_divisor Sub b = false
lacks_divisor Mul b = false
lacks_divisor Div b = unsigned_abs b == 0
lacks_divisor Convert b = false

-- the number is a value of the type
abbrev pub fits : ℕ → ℤ → Bool
fits t z = int_le (lowest t) z && int_le z (highest t)

-- the step overflows in the type: the result does not fit, or there is no divisor
abbrev pub overflows : Op → ℕ → ℤ → ℤ → Bool
overflows o t a b = lacks_divisor o b || not (fits t (exact_of_lem o a b))

-- why it does: there is no divisor, or the result is above the type's range, or below it
abbrev pub cause_of_lem : Op → ℕ → ℤ → ℤ → Cause
cause_of_lem o t a b = cond (lacks_divisor o b) NoDivisor (cond (int_le (lowest t) (exact_of_lem o a b)) Above Below)

-- the number of a cause: 1 too big, 2 too small, 3 no divisor
abbrev pub cause_number : Cause → ℕ
cause_number Above = 1
cause_number Below = 2
cause_number NoDivisor = 3

-- what comes of a step: its value, or why it overflows
pub data Outcome : Type 0 where
  value : ℤ → Outcome
  overflow : Cause → Outcome

-- it has a value
abbrev pub passes : Outcome → Bool
passes (value z) = true
passes (overflow c) = false

abbrev pub step_of : Op → ℕ → ℤ → ℤ → Outcome
step_of o t a b = cond (overflows o t a b) (overflow (cause_of_lem o t a b)) (value (exact_of_lem o a b))

-- the outcome that the code's answer stands for
abbrev pub outcome_of : Result Num Cause → Outcome
outcome_of (Ok n) = value (value_of n)
outcome_of (Err c) = overflow c

-- the remainder of z by m, from 0 to m - 1
abbrev pub residue : ℕ → ℤ → ℕ
residue m (pos n) = n % m
residue m (negsuc n) = (m - suc n % m) % m

-- the number r, from 0 to m - 1, or r - m where r is above hi
abbrev pub fold_down : ℕ → ℤ → ℕ → ℤ
fold_down m hi r = cond (int_le (pos r) hi) (pos r) (pos r -ℤ pos m)

-- two's complement of the type's width
abbrev pub wrap : ℕ → ℤ → ℤ
wrap t z = fold_down (2 ^ bits t) (highest t) (residue (2 ^ bits t) z)
