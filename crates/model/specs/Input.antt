-- The input file (document 01: sheet).
use Rattle.std.specs.Prelude.{Bool, true, ◌&&◌, cond, List, [], ◌∷◌, ℕ, zero, suc, ◌-◌, ◌*◌, ◌/◌, ◌%◌, ◌^◌, leb, ltb, eqb, ℤ, pos, neg_ℤ, length, get_or}
use Rattle.std.specs.Int.Signed.{le_z}
use Rattle.arith.specs.Types.{bits, signed}
use Rattle.arith.specs.Step.{wrap}
use Rattle.model.specs.Sizes.{most_readings, pair_size_lem}
use Rattle.model.specs.Lists.{every}
use Rattle.model.specs.Fields.{Field, bits_of_lem, types_in}
use Rattle.model.specs.Refusals.{Out, ok, check, wrong_input}
use Rattle.model.specs.Bytes.{byte_at, u16_at, u32_at, u64_at, Pair, pair_at, entries, pairs_at, chained}

-- the readings of each field
abbrev pub Input : Type 0
Input = ℕ → List ℤ

-- how many bytes a reading of a type has
unfoldable pub width : ℕ → ℕ
width ty = bits ty / 8

-- the number in the bytes of a reading
unfoldable pub bits_at : ℕ → List ℕ → ℕ → ℕ
bits_at ty s a = get_or (byte_at s a ∷ u16_at s a ∷ u32_at s a ∷ u64_at s a ∷ []) (ty % 4) 0

-- the reading of a type at a place
unfoldable pub reading_at_lem : ℕ → List ℕ → ℕ → ℤ
reading_at_lem ty s a = wrap ty (pos (bits_at ty s a))

-- the readings of a pair
unfoldable pub readings_of : ℕ → List ℕ → Pair → List ℤ
readings_of ty s p = entries (reading_at_lem ty) (width ty) s p.offset (p.len / width ty)

-- each length is whole readings, at most 128
unfoldable pub lengths_right : List ℕ → List Pair → Bool
lengths_right [] ps = true
lengths_right (ty ∷ types) [] = true
lengths_right (ty ∷ types) (p ∷ ps) = eqb (p.len % width ty) 0 && leb p.len (most_readings * width ty) && lengths_right types ps

-- a value that a field's bits hold, as two's complement for a signed type
unfoldable pub in_bits_lem : Field → ℤ → Bool
in_bits_lem F z =
    cond (signed F.ty) (le_z (neg_ℤ (pos (2 ^ (bits_of_lem F - 1)))) z && le_z z (pos (2 ^ (bits_of_lem F - 1) - 1)))
    (le_z (pos 0) z && le_z z (pos (2 ^ bits_of_lem F - 1)))

-- the bits of each field hold its readings
unfoldable pub bits_right_lem : List Field → List ℕ → List Pair → Bool
bits_right_lem [] s ps = true
bits_right_lem (F ∷ fields) s [] = true
bits_right_lem (F ∷ fields) s (p ∷ ps) = every (in_bits_lem F) (readings_of F.ty s p) && bits_right_lem fields s ps

-- the input of a byte string for these fields, or 13
unfoldable pub read_input : List Field → List ℕ → Out Input
read_input fields s =
    let types = types_in fields in
    let pairs = pairs_at s 0 (length fields) in
    check (chained (pair_size_lem * length fields) pairs (length s) && lengths_right types pairs && bits_right_lem fields s pairs) wrong_input
    (ok (λ f. cond (ltb f (length fields)) (readings_of (get_or types f 0) s (pair_at s (pair_size_lem * f))) []))
