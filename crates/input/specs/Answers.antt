-- What the answers of the input's reader stand for, and the places of a field in an input that is read.
use Rattle.std.specs.Prelude.{◌≡◌, List, ℕ, ◌+◌, ◌*◌, ◌≤◌, ℤ, length, get_or, Result}
use Rattle.model.specs.Refusals.{Out, ok, mapped}
use Rattle.model.specs.Bytes.{part, pair_at}
use Rattle.model.specs.Fields.{types_in, fields_in}
use Rattle.model.specs.Input.{width, readings_of, read_input}
use Rattle.refusals.specs.declared.Refusal.{Refusal}
use Rattle.refusals.specs.Answers.{out_of}

-- the table of an input's fields, and its bytes
pub record InputFile : Type 0 where
  pub fields : List ℕ
  pub bytes : List ℕ

abbrev pub file_of : (fields s : List ℕ) → InputFile
file_of fields s = record { fields = fields; bytes = s }

-- read, or the number of the refusal
abbrev pub input_answer : Result InputFile Refusal → Out (Unit {0})
input_answer = out_of (λ i. tt {0})

-- what is read, or the number of the refusal
abbrev pub file_answer : Result InputFile Refusal → Out InputFile
file_answer = out_of (λ i. i)

-- the input is in its form, for the fields of a table
abbrev pub InputIsRead : (fields s : List ℕ) → Type 0
InputIsRead fields s = mapped (λ I. tt {0}) (read_input (fields_in fields) s) ≡ ok tt

-- how many bytes a reading of a type has: 1 to 8
pub record WidthIs (ty w : ℕ) : Type 0 where
  pub is : w ≡ width ty
  pub some : 1 ≤ w
  pub few : w ≤ 8

-- the bytes of a field's readings
abbrev pub field_part : List ℕ → ℕ → List ℕ
field_part s f = part s (pair_at s (8 * f)).offset (pair_at s (8 * f)).len

-- a field's pair and its part lie in the file
pub record PartInside (s : List ℕ) (f : ℕ) : Type 0 where
  pub pair : 8 * f + 8 ≤ length s
  pub inside : (pair_at s (8 * f)).offset + (pair_at s (8 * f)).len ≤ length s

-- the type of a field of a table
abbrev pub field_type_lem : (fields : List ℕ) → ℕ → ℕ
field_type_lem fields f = get_or (types_in (fields_in fields)) f 0

-- the readings of a field
abbrev pub field_readings : (fields s : List ℕ) → ℕ → List ℤ
field_readings fields s f = readings_of (field_type_lem fields f) s (pair_at s (8 * f))
