-- The fields of a program or a condition: each has a type, and a number of bits that hold its readings (document 02, card 5).
use Rattle.std.specs.Prelude.{Bool, ◌&&◌, List, [], ◌∷◌, map, ℕ, ◌+◌, ◌-◌, ◌/◌, leb, ltb, length}
use Rattle.arith.specs.Types.{bits}
use Rattle.model.specs.Sizes.{field_size, over_bits}
use Rattle.model.specs.Bytes.{byte_at, entries}

-- a field's entry: its type, and 128 plus the number of its bits
pub record Field : Type 0 where
  pub ty : ℕ
  pub size : ℕ

-- the entry with these two bytes
abbrev pub entry_of : (ty size : ℕ) → Field
entry_of ty size = record { ty = ty; size = size }

-- the entry of a field: 2 bytes
abbrev pub field_at : List ℕ → ℕ → Field
field_at s a = entry_of (byte_at s a) (byte_at s (a + 1))

-- the bytes of an entry
abbrev pub field_bytes : Field → List ℕ
field_bytes F = F.ty ∷ F.size ∷ []

-- the number of a field's bits
abbrev pub bits_of_lem : Field → ℕ
bits_of_lem F = F.size - over_bits

-- a field whose readings have all bits of its type
abbrev pub whole_field : ℕ → Field
whole_field ty = entry_of ty (over_bits + bits ty)

-- a type code, and 1 to its width in bits
unfoldable pub field_right : Field → Bool
field_right F = ltb F.ty 8 && ltb over_bits F.size && leb F.size (over_bits + bits F.ty)

-- the types of fields
abbrev pub types_in : List Field → List ℕ
types_in fields = map (λ F. F.ty) fields

-- the fields of a table by itself
abbrev pub fields_in : List ℕ → List Field
fields_in table = entries field_at field_size table 0 (length table / field_size)
