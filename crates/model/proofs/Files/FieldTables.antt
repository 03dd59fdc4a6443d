-- The fields of a table of bytes: how many, which type each has, and the table of a part of a file.
use mathlib.Core.Path.{◌≡◌, refl, sym, ◌∙◌, ap, ap₂}
use mathlib.Core.Bool.{true, ◌&&◌}
use mathlib.Core.List.{List, [], ◌∷◌, ◌++◌, flat_map}
use Prim.Native.Nat.{ℕ, zero, suc, ◌+◌, ◌*◌, ◌/◌, ◌≤◌, ◌<◌}
use native.Mathlib.Nat.{zero-add}
use native.Mathlib.Omega.{arith}
use lib.Dec.{leb, ltb}
use lib.ListN.{length, get_or, length-map}
use Rattle.arith.specs.Types.{bits}
use Rattle.model.specs.Sizes.{over_bits}
use Rattle.model.specs.Lists.{every}
use Rattle.model.specs.Bytes.{byte_at, part, entries}
use Rattle.model.specs.Fields.{Field, field_at, field_bytes, field_right, types_in, fields_in}
use Rattle.model.specs.Program.{type_right}
use Rattle.model.proofs.Basics.Tests.{and_left, and_right}
use Rattle.model.proofs.Files.Parts.{length-entries, entries-get_or, length_part, get_d_part, get_or-behind, Narrow, entries-part}

pub length_types : (fields : List Field) → length (types_in fields) ≡ length fields
length_types fields = length-map fields (λ F. F.ty)

-- a field's type is that of its entry
pub type_of_lem : (fields : List Field) (f : ℕ) (d : Field) → f < length fields → get_or (types_in fields) f 0 ≡ (get_or fields f d).ty
type_of_lem [] f d h = absurd (omega arith)
type_of_lem (F ∷ fields) zero d h = refl
type_of_lem (F ∷ fields) (suc f) d h = type_of_lem fields f d (omega arith)

pub fields-length : (table : List ℕ) → length (fields_in table) ≡ length table / 2
fields-length table = length-entries field_at 2 table (length table / 2) 0

pub types-length : (table : List ℕ) → length (types_in (fields_in table)) ≡ length table / 2
types-length table = length_types (fields_in table) ∙ fields-length table

-- the field with a number, of those that there are
pub field_in : (table : List ℕ) (f : ℕ) (d : Field) → f < length table / 2 → get_or (fields_in table) f d ≡ field_at table (2 * f)
field_in table f d h = entries-get_or field_at 2 table (length table / 2) 0 f d h ∙ ap (field_at table) (zero-add (2 * f))

-- its type is a byte of the table
pub type_in : (table : List ℕ) (f : ℕ) → f < length table / 2 → get_or (types_in (fields_in table)) f 0 ≡ byte_at table (2 * f)
type_in table f h =
    let none : Field = record { ty = 0; size = 0 } in
    type_of_lem (fields_in table) f none (rw (fields-length table) h) ∙ ap (λ (F : Field). F.ty) (field_in table f none h)

-- fields that are right have types
pub types-right : (fields : List Field) → every field_right fields ≡ true → every type_right (types_in fields) ≡ true
unfolding every field_right
types-right [] h = refl
types-right (F ∷ fields) h =
    let typed = ltb F.ty 8 in
    let some = typed && ltb over_bits F.size in
    let right = and_left (some && leb F.size (over_bits + bits F.ty)) (every field_right fields) h in
    let first = and_left typed (ltb over_bits F.size) (and_left some (leb F.size (over_bits + bits F.ty)) right) in
    rw (first, types-right fields (and_right (some && leb F.size (over_bits + bits F.ty)) (every field_right fields) h))

-- ---- the table of a file

field-narrow : Narrow field_at 2
field-narrow s o n a h =
    let first : byte_at (part s o n) a ≡ byte_at s (o + a) = get_d_part s o n a (omega arith) in
    let second : byte_at (part s o n) (a + 1) ≡ byte_at s (o + a + 1) = get_or-behind s o n a 1 (omega arith) in
    λ i. record { ty = first i; size = second i }

-- the n fields from a place on, as a part of the file
pub fields-part : (s : List ℕ) (o n : ℕ) → o + 2 * n ≤ length s → fields_in (part s o (2 * n)) ≡ entries field_at 2 s o n
fields-part s o n h =
    let half : length (part s o (2 * n)) / 2 ≡ n = omega (arith, length_part s o (2 * n) h) in
    let here : o + 0 ≡ o = omega arith in
    ap (entries field_at 2 (part s o (2 * n)) 0) half ∙ entries-part field_at 2 field-narrow s o (2 * n) n 0 (omega arith)
    ∙ ap (λ (a : ℕ). entries field_at 2 s a n) here

-- ---- the bytes of a table

-- entries behind the first bytes of a string are those of what stands behind them
entries-behind : (b c : ℕ) (s : List ℕ) (n a : ℕ) → entries field_at 2 (b ∷ c ∷ s) (suc (suc a)) n ≡ entries field_at 2 s a n
unfolding entries
entries-behind b c s zero a = refl
entries-behind b c s (suc n) a =
    let next : suc (suc a) + 2 ≡ suc (suc (a + 2)) = omega arith in
    let second : suc (suc a) + 1 ≡ suc (suc (a + 1)) = omega arith in
    let entry : field_at (b ∷ c ∷ s) (suc (suc a)) ≡ field_at s a = ap (λ (k : ℕ). record { ty = byte_at s a; size = byte_at (b ∷ c ∷ s) k }) second in
    ap₂ ◌∷◌ entry (ap (λ (k : ℕ). entries field_at 2 (b ∷ c ∷ s) k n) next ∙ entries-behind b c s n (a + 2))

from_first : (n : ℕ) (table : List ℕ) → length table ≡ 2 * n → flat_map field_bytes (entries field_at 2 table 0 n) ≡ table
unfolding flat_map entries
from_first zero [] h = refl
from_first zero (b ∷ table) h = absurd (omega arith)
from_first (suc n) [] h = absurd (omega arith)
from_first (suc n) (b ∷ []) h = absurd (omega arith)
from_first (suc n) (b ∷ c ∷ table) h =
    ap (λ (fields : List Field). b ∷ c ∷ flat_map field_bytes fields) (entries-behind b c table n 0) ∙ ap (λ t. b ∷ c ∷ t) (from_first n table (omega arith))

-- a table is the bytes of its fields
pub table-bytes : (n : ℕ) (table : List ℕ) → length table ≡ 2 * n → flat_map field_bytes (fields_in table) ≡ table
table-bytes n table h =
    let half : length table / 2 ≡ n = omega arith in
    ap (λ (k : ℕ). flat_map field_bytes (entries field_at 2 table 0 k)) half ∙ from_first n table h
