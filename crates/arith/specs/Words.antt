-- Values as words: two's complement of 64 bits, sign extended for a signed type and zero extended for the others;
-- and immediates of 32 bits.
use Rattle.std.specs.Prelude.{ℕ, ◌^◌, cond, ℤ, pos}
use Rattle.arith.specs.Types.{signed}
use Rattle.arith.specs.Step.{residue, wrap}

-- the type of 64 bits with the same sign: i64 or u64
unfoldable pub wide_of : ℕ → ℕ
wide_of t = cond (signed t) 7 3

-- the word of a number
unfoldable pub word_of : ℤ → ℕ
word_of z = residue (2 ^ 64) z

-- the number that a word stands for in a type
unfoldable pub value_at : ℕ → ℕ → ℤ
value_at t w = wrap (wide_of t) (pos w)

-- the number that four bytes stand for as an immediate of a type: an i32 for a signed type, a u32 for the others
unfoldable pub immediate : ℕ → ℕ → ℤ
immediate t i = wrap (cond (signed t) 6 2) (pos i)
