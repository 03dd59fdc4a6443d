-- The readings of an input that is read, and what it means that numbers are put to a run of places.
use Rattle.std.specs.Prelude.{◌≡◌, Bool, true, cond, List, [], ℕ, ◌+◌, ◌*◌, ◌/◌, ◌<◌, ◌≤◌, ltb, ℤ, pos, length, get_or}
use Rattle.arith.specs.declared.Range.{Range}
use Rattle.arith.specs.Types.{IsRow}
use Rattle.model.specs.Sizes.{field_size, most_readings}
use Rattle.model.specs.Lists.{every}
use Rattle.model.specs.Program.{type_right}
use Rattle.model.specs.Bytes.{pair_at}
use Rattle.model.specs.Fields.{Field, types_in, fields_in}
use Rattle.model.specs.Input.{Input, width, readings_of}

-- the readings that a byte string holds for these fields; a field that is not listed has none
unfoldable pub input_in : List Field → List ℕ → Input
input_in fields s f = cond (ltb f (length fields)) (readings_of (get_or (types_in fields) f 0) s (pair_at s (8 * f))) []

-- the first n of these numbers stand in the places from one on, and what stands before is as it was
pub record Filled (z : ℕ → ℤ) (from n : ℕ) (at at' : ℕ → ℤ) : Type 0 where
  pub put : (k : ℕ) → k < n → at' (from + k) ≡ z k
  pub kept : (j : ℕ) → j < from → at' j ≡ at j

-- the reading with number k of a part, by the row of its type, and a place for it
pub record ReadingFits (range : Range) (part : List ℕ) (k at : ℕ) (mags : List ℕ) (negs : List Bool) : Type 0 where
  pub row : IsRow range
  pub inside : (k + 1) * (range.bits / 8) ≤ length part
  pub magnitude : at < length mags
  pub sign : at < length negs

-- the first n readings of a part, and places for them
pub record ReadingsFit (ty : ℕ) (part : List ℕ) (n from : ℕ) (mags : List ℕ) (negs : List Bool) : Type 0 where
  pub type : ty < 8
  pub inside : n * width ty ≤ length part
  pub magnitudes : from + n ≤ length mags
  pub signs : from + n ≤ length negs

-- the types of the fields of a table, and places for their readings
pub record Decodable (fields mags : List ℕ) (negs : List Bool) : Type 0 where
  pub typed : every type_right (types_in (fields_in fields)) ≡ true
  pub magnitudes : most_readings * (length fields / field_size) ≤ length mags
  pub signs : most_readings * (length fields / field_size) ≤ length negs

-- the readings of a field stand in its places, r of them
pub record FieldPut (r : ℕ) (readings : List ℤ) (f : ℕ) (at at' : ℕ → ℤ) : Type 0 where
  pub count : r ≡ length readings
  pub few : r ≤ most_readings
  pub filled : Filled (λ k. get_or readings k (pos 0)) (most_readings * f) r at at'
