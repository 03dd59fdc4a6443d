-- By computation: the first wrong pair, of three fields of one byte a reading, and of no field; and what the bits of a field hold.
use Rattle.std.specs.Prelude.{Ok, Err}
use mathlib.Core.Path.{◌≡◌, refl}
use mathlib.Core.Bool.{true, false}
use mathlib.Core.List.{List, [], ◌∷◌, ◌++◌, map}
use Prim.Native.Nat.{ℕ, zero, suc}
use native.Mathlib.Omega.{arith}
use lib.IntN.{pos, negsuc}
use Rattle.arith.specs.Types.{bits, signed, depth, height}
use Rattle.model.specs.Refusals.{refused, wrong_input}
use Rattle.model.specs.Bytes.{entries, chained}
use Rattle.model.specs.Lists.{every}
use Rattle.model.specs.Fields.{entry_of}
use Rattle.model.specs.Input.{width, bits_at, reading_at_lem, readings_of, lengths_right, in_bits_lem, bits_right_lem, read_input}
use Rattle.input.specs.Answers.{InputIsRead}
use Rattle.input.specs.FirstWrong.{RightBefore, PairsAre}
use Rattle.input.proofs.Search.{short-first}

abbrev three : List ℕ
three = 0 ∷ 0 ∷ 0 ∷ []

-- the bytes of a pair of numbers below 256
abbrev pair : ℕ → ℕ → List ℕ
pair offset len = offset ∷ 0 ∷ 0 ∷ 0 ∷ len ∷ 0 ∷ 0 ∷ 0 ∷ []

-- a file of 26 bytes, whose first pair is right
abbrev file : ℕ → ℕ → ℕ → ℕ → List ℕ
file o l p m = pair 24 1 ++ pair o l ++ pair p m ++ (7 ∷ 7 ∷ [])

module _ (o l p m : ℕ) where
  first-right : RightBefore three (file o l p m) 1
  unfolding width bits
  first-right zero h = record { begins = refl; whole = refl; few = omega arith; inside = omega arith }
  first-right (suc f) h = absurd (omega arith)

-- too long, and past the file: the pair behind it, which is wrong too, is not looked at
too_long : PairsAre three (file 25 200 9 0) (Err 1)
unfolding width bits
too_long = (omega arith, λ r. absurd (omega (arith, r.few)), first-right 25 200 9 0)

-- past the file alone
past_the_file : PairsAre three (file 25 100 9 0) (Err 1)
past_the_file = (omega arith, λ r. absurd (omega (arith, r.inside)), first-right 25 100 9 0)

-- elsewhere than where the one before ends
elsewhere : PairsAre three (file 26 0 25 1) (Err 1)
elsewhere = (omega arith, λ r. absurd (omega (arith, r.begins)), first-right 26 0 25 1)

-- a file that is shorter than its table, whatever its bytes
no_table : PairsAre three (24 ∷ 0 ∷ []) (Err 0)
no_table = short-first three (24 ∷ 0 ∷ []) (omega arith)

-- no fields and a stray byte: no pair is wrong, and the reader refuses by the end
stray_byte : PairsAre [] (7 ∷ []) (Ok 0) × (read_input [] (7 ∷ []) ≡ refused wrong_input)
unfolding read_input chained entries
stray_byte = ((λ f h. absurd (omega arith), refl), refl)

-- ---- bits

-- u8 of 4 bits: 0 to 15
four_unsigned : map (in_bits_lem (entry_of 0 132)) (pos 0 ∷ pos 15 ∷ pos 16 ∷ []) ≡ (true ∷ true ∷ false ∷ [])
unfolding in_bits_lem signed
four_unsigned = refl

-- i16 of 4 bits: -8 to 7
four_signed : map (in_bits_lem (entry_of 5 132)) (negsuc 8 ∷ negsuc 7 ∷ pos 7 ∷ pos 8 ∷ []) ≡ (false ∷ true ∷ true ∷ false ∷ [])
unfolding in_bits_lem signed
four_signed = refl

-- i8 of 1 bit: -1 and 0
one-signed : map (in_bits_lem (entry_of 4 129)) (negsuc 1 ∷ negsuc 0 ∷ pos 0 ∷ pos 1 ∷ []) ≡ (false ∷ true ∷ true ∷ false ∷ [])
unfolding in_bits_lem signed
one-signed = refl

-- one field i16 of 4 bits, with the reading 7, and with the reading 8
seven_read : InputIsRead (5 ∷ 132 ∷ []) (pair 8 2 ++ (7 ∷ 0 ∷ []))
unfolding read_input chained entries lengths_right bits_right_lem every in_bits_lem readings_of reading_at_lem bits_at width bits signed height depth
seven_read = refl

eight_refused : read_input (entry_of 5 132 ∷ []) (pair 8 2 ++ (8 ∷ 0 ∷ [])) ≡ refused wrong_input
unfolding read_input chained entries lengths_right bits_right_lem every in_bits_lem readings_of reading_at_lem bits_at width bits signed height depth
eight_refused = refl
