-- What the converter's answer stands for, and what it leaves in the output and in scratch.
use Rattle.std.specs.Prelude.{◌&&◌, true, List, ◌≡◌, ℕ, ◌+◌, ◌≤◌, ◌<◌, ◌^◌, Result, leb, length}
use Rattle.model.specs.Sizes.{most_program, most_fields, section_table, pair_size_lem}
use Rattle.model.specs.Refusals.{Out, mapped, check, lent_too_short, wrong_blocks}
use Rattle.model.specs.Demands.{ResultOrRefusal, OrLent, OldRefusal}
use Rattle.model.specs.Bytes.{u32_at}
use Rattle.model.specs.Lent.{left_by, ScratchLeft}
use Rattle.model.specs.Program.{sections_in, read_program}
use Rattle.model.specs.OldForm.{most_old, old_field_size, old_count, new_form, convert}
use Rattle.bytes_le.specs.Overlay.{overlay}
use Rattle.code_table.specs.Table.{table_words}
use Rattle.refusals.specs.Answers.{out_of}
use Rattle.refusals.specs.declared.Refusal.{Refusal}

-- the new file, where the output has room for the longest one and scratch has so many words
unfoldable pub conversion : (words output scratch : ℕ) → List ℕ → Out (List ℕ)
conversion words output scratch old = check (leb most_program output && leb words scratch) lent_too_short (convert old)

-- demand 1 of it: there is always an answer, and these are the numbers
abbrev pub ConversionAnswers : Type 0
ConversionAnswers = (words output scratch : ℕ) (old : List ℕ) → ResultOrRefusal (OrLent OldRefusal) (conversion words output scratch old)

-- the length of the file, or the number of the refusal
abbrev pub length_of : Result ℕ Refusal → Out ℕ
length_of r = out_of (λ n. n) r

-- the whole contract: the file stands over the output's first bytes, and every other byte is as it was; the refusals 1 to 8 are found
-- before any word of scratch is changed
pub record Converts (file : Out (List ℕ)) (r : Result ℕ Refusal) (before after words words' : List ℕ) : Type 0 where
  pub answer : length_of r ≡ mapped length file
  pub output : after ≡ left_by (λ f. overlay before 0 f) file before
  pub scratch : ScratchLeft table_words wrong_blocks file words words'

-- ---- what the functions ask for

-- an old file whose section table is right, with few fields
pub record OldTable (old : List ℕ) (count : ℕ) : Type 0 where
  pub sections : sections_in most_old old_field_size old ≡ true
  pub few : count ≤ most_fields
  pub is : count ≡ old_count old

-- and room for a new one
pub record Widenable (old : List ℕ) (count : ℕ) (file : List ℕ) : Type 0 where
  pub table : OldTable old count
  pub room : length file ≡ most_program

-- the pair of a section behind the fields, and room for it
pub record LaterPair (old : List ℕ) (at count : ℕ) (file : List ℕ) : Type 0 where
  pub is : count ≡ old_count old
  pub few : count ≤ most_fields
  pub inside : at + pair_size_lem ≤ section_table
  pub table : section_table ≤ length old
  pub small : u32_at old at + count < 2 ^ 32
  pub room : length file ≡ most_program

-- the new file stands in the first n bytes
pub record Widened (old : List ℕ) (n : ℕ) (before after : List ℕ) : Type 0 where
  pub all : n ≡ length (new_form old)
  pub most : n ≤ most_program
  pub bytes : after ≡ overlay before 0 (new_form old)

-- room for a file, and for the code table
pub record Room (new output scratch : List ℕ) : Type 0 where
  pub bytes : length new ≤ length output
  pub words : table_words ≤ length scratch

-- room for the longest file, and for the code table
pub record Lent (output scratch : List ℕ) : Type 0 where
  pub bytes : most_program ≤ length output
  pub words : table_words ≤ length scratch

-- a new file that is read stands over the output's first bytes
pub record Copied (new : List ℕ) (r : Result ℕ Refusal) (before after : List ℕ) : Type 0 where
  pub answer : length_of r ≡ mapped (λ P. length new) (read_program new)
  pub output : after ≡ left_by (λ P. overlay before 0 new) (read_program new) before
