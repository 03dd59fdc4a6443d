-- A number as std writes it is the model's decimal text.
use mathlib.Core.Path.{◌≡◌, refl, sym}
use mathlib.Core.List.{List, [], ◌∷◌, ◌++◌}
use Prim.Native.Nat.{ℕ, zero, suc, ◌+◌, ◌/◌, ◌%◌, ◌^◌, ◌≤◌, ◌<◌}
use native.Mathlib.Omega.{arith}
use borrow.Author.Tests.{le-ltb}
use Rattle.std.specs.Fmt.{decimal as written}
use Rattle.std.proofs.lemmas.Fmt.{decimal_from_appends, length-decimal-le}
use Rattle.model.specs.Decimal.{digits, places, decimal}
use Rattle.listing.proofs.Texts.{places-one}

-- the text of a number with at most k digits
abbrev within : ℕ → ℕ → List ℕ
within zero n = []
within (suc k) n = digits (places k n) n

one_digit : (k n : ℕ) → n < 10 → digits (places k n) n ≡ (48 + n) ∷ []
unfolding digits
one_digit k n h = let same : n % 10 ≡ n = omega arith in rw (places-one k n h) (rw same)

more_digits : (k n : ℕ) → 10 ≤ n → digits (places k n) n ≡ within k (n / 10) ++ ((48 + n % 10) ∷ [])
unfolding digits places
more_digits zero n h = refl
more_digits (suc k) n h = rw (le-ltb n 10 h)

pub written-decimal : (n : ℕ) → n < 2 ^ 64 → written n ≡ decimal n
unfolding decimal
written-decimal n h =
    sym (decimal_from_appends within (record { one = one_digit; more = more_digits }) 20 n h (length-decimal-le 20 n (omega arith) (omega arith) h))
