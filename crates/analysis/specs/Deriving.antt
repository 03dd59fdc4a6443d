-- What the answer of a derivation stands for, and what it leaves in the output and in scratch.
use Rattle.std.specs.Prelude.{◌&&◌, List, ◌≡◌, ℕ, ◌+◌, ◌*◌, ◌≤◌, leb, length, take, Result, Ok, Err}
use Rattle.model.specs.Condition.{condition_bytes, analysis}
use Rattle.model.specs.Refusals.{Out, check, lent_too_short, wrong_blocks}
use Rattle.model.specs.Demands.{ResultOrRefusal, OrLent, AnalysisRefusal}
use Rattle.model.specs.Lent.{ScratchLeft}
use Rattle.bytes_le.specs.Overlay.{overlay}
use Rattle.program.specs.Reading.{ProgramIsRead}
use Rattle.code_table.specs.Table.{table_words}
use Rattle.sets.specs.Region.{region_words}
use Rattle.refusals.specs.Answers.{out_of}
use Rattle.refusals.specs.declared.Refusal.{Refusal}

-- where the union so far stands: the first region, behind the code table
abbrev pub union_at : ℕ
union_at = table_words

-- where a site's set stands: the region after it
abbrev pub site_at : ℕ
site_at = union_at + region_words

-- the words of scratch: the code table, the union so far, and ten regions for the walk
abbrev pub analysis_words : ℕ
analysis_words = site_at + 10 * region_words

-- the condition file of a program's bytes, where the output has room for the longest one and scratch has its words
unfoldable pub derivation : (output scratch : ℕ) → List ℕ → Out (List ℕ)
derivation output scratch program = check (leb condition_bytes output && leb analysis_words scratch) lent_too_short (analysis program)

-- demand 1 of it: there is always an answer, and these are the numbers
abbrev pub DerivationAnswers : Type 0
DerivationAnswers = (output scratch : ℕ) (program : List ℕ) → ResultOrRefusal (OrLent AnalysisRefusal) (derivation output scratch program)

-- a program that is read, an output with room for the longest file, and scratch with its words
pub record Derivable (program output scratch : List ℕ) : Type 0 where
  pub read : ProgramIsRead program
  pub room : condition_bytes ≤ length output
  pub words : analysis_words ≤ length scratch

-- an answer, with the output afterwards: the file, which is its first n bytes, or the number of the refusal
abbrev pub file_of : Result ℕ Refusal → List ℕ → Out (List ℕ)
file_of r after = out_of (λ n. take n after) r

-- n bytes stand at the start of the output, and every byte past them is as it was
pub record AtStart (n : ℕ) (before after : List ℕ) : Type 0 where
  pub most : n ≤ condition_bytes
  pub whole : length (take n after) ≡ n
  pub rest : after ≡ overlay before 0 (take n after)

-- the output: the file at its start; after a refusal all as it was
abbrev pub OutputLeft : Result ℕ Refusal → List ℕ → List ℕ → Type 0
OutputLeft (Ok n) before after = AtStart n before after
OutputLeft (Err r) before after = after ≡ before

-- the answer is that of the definition, and the output is left so
abbrev pub FileGiven : Out (List ℕ) → Result ℕ Refusal → List ℕ → List ℕ → Type 0
FileGiven file r before after = (file ≡ file_of r after) × OutputLeft r before after

-- the whole contract: also what is left in scratch; the refusals 1 to 8 are found before any work
pub record Derives (file : Out (List ℕ)) (r : Result ℕ Refusal) (before after words words' : List ℕ) : Type 0 where
  pub answer : file ≡ file_of r after
  pub output : OutputLeft r before after
  pub scratch : ScratchLeft analysis_words wrong_blocks file words words'
