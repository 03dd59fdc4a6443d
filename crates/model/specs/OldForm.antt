-- The form of program files before a field's entry had a second byte, and their conversion (document 02, card 5).
use Rattle.std.specs.Prelude.{Bool, ℕ, ◌+◌, ◌*◌, drop}
use mathlib.Core.List.{List, [], ◌∷◌, ◌++◌, map, flat_map}
use Rattle.model.specs.Sizes.{section_table, field_size}
use Rattle.model.specs.Refusals.{Out, ok, ◌>>=◌, check, wrong_sections}
use Rattle.model.specs.Bytes.{u32_at, bytes4, part}
use Rattle.model.specs.Fields.{Field, field_bytes, whole_field}
use Rattle.model.specs.Program.{Tables, layout_of, tables_with, sections_in, outline_of, Program, inlined_program}

-- the bytes of the longest file of the old form
abbrev pub most_old : ℕ
most_old = 8384

-- the bytes of a field's entry: its type alone
abbrev pub old_field_size : ℕ
old_field_size = 1

-- how many fields a file has
abbrev pub old_count : List ℕ → ℕ
old_count s = u32_at s 4

-- its fields: their readings have all bits of their types
abbrev pub old_fields : List ℕ → List Field
old_fields s = map whole_field (part s (u32_at s 0) (old_count s))

-- its tables
unfoldable pub old_tables : List ℕ → Tables
old_tables s = tables_with (old_fields s) s (layout_of s)

-- the program of a file of the old form, or the first of checks 2 to 8 and 16 that it fails
unfoldable pub read_old : List ℕ → Out Program
read_old s = check (sections_in most_old old_field_size s) wrong_sections (outline_of (old_tables s)) >>= inlined_program

-- the pair of a section behind the fields: it begins as many bytes later as there are fields
abbrev pub later_pair : List ℕ → ℕ → List ℕ
later_pair s a = bytes4 (u32_at s a + old_count s) ++ bytes4 (u32_at s (a + 4))

-- the section table in the new form
unfoldable pub new_table : List ℕ → List ℕ
new_table s = bytes4 section_table ++ bytes4 (field_size * old_count s) ++ later_pair s 8 ++ later_pair s 16 ++ later_pair s 24

-- the file in the new form: the section table, the fields, and the rest as it was
unfoldable pub new_form : List ℕ → List ℕ
new_form s = new_table s ++ flat_map field_bytes (old_fields s) ++ drop (section_table + old_count s) s

-- the new file of a file of the old form, or the refusal of the old form
unfoldable pub convert : List ℕ → Out (List ℕ)
convert s = read_old s >>= λ P. ok (new_form s)
