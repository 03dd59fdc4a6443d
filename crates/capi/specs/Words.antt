-- What the answers of the exported functions stand for, and what they leave in what was lent.
use Rattle.std.specs.Prelude.{List, ◌≡◌, ℕ, ◌*◌, ◌<◌, length, take}
use Rattle.bytes_le.specs.Overlay.{overlay}
use Rattle.model.specs.Refusals.{Out, ok, refused, mapped, wrong_blocks}
use Rattle.model.specs.Run.{Ran}
use Rattle.model.specs.Guarded.{Guarded, held, passed}
use Rattle.model.specs.Demands.{Exact}
use Rattle.model.specs.Lent.{left_by, left_by_run, ScratchLeft}
use Rattle.analysis.specs.Deriving.{analysis_words}
use Rattle.code_table.specs.Table.{table_words}
use Rattle.interpreter.specs.Progress.{scratch_words}

-- a refusal's number stands in the upper 32 bits
abbrev pub refusal_unit : ℕ
refusal_unit = 4294967296

-- the word of an answer: its value, or the refusal's number there
abbrev pub answer_word : Out ℕ → ℕ
answer_word (ok v) = v
answer_word (refused n) = n * refusal_unit

-- the word of an input that is held by the run behind the filter: a run's end is at most 4
abbrev pub held_word : ℕ
held_word = 5

abbrev pub end_number : Guarded → ℕ
end_number held = held_word
end_number (passed C R) = R.end

-- ---- the contracts; o is what the definition gives, r the word, and then each thing lent before and after

-- gate_derive: the file's length, and the file at the start of the condition's output
pub record GateDerive (o : Out (List ℕ)) (r : ℕ) (c c' s s' : List ℕ) : Type 0 where
  pub word : r ≡ answer_word (mapped length o)
  pub condition : c' ≡ left_by (λ C. overlay c 0 C) o c
  pub file : (C : List ℕ) → o ≡ ok C → take r c' ≡ C
  pub scratch : ScratchLeft analysis_words wrong_blocks o s s'

-- gate_convert: the file's length, and the file at the start of the recipe's output
pub record GateConvert (o : Out (List ℕ)) (r : ℕ) (p p' s s' : List ℕ) : Type 0 where
  pub word : r ≡ answer_word (mapped length o)
  pub recipe : p' ≡ left_by (λ R. overlay p 0 R) o p
  pub scratch : ScratchLeft table_words wrong_blocks o s s'

-- gate_run: the run's end, its log, and the numbers n of steps and k of records
pub record GateRun (o : Out Ran) (r : ℕ) (l l' s s' : List ℕ) (n n' k k' : ℕ) : Type 0 where
  pub word : r ≡ answer_word (mapped (λ R. R.end) o)
  pub log : l' ≡ left_by (λ R. R.log) o l
  pub steps : n' ≡ left_by (λ R. R.steps) o n
  pub records : k' ≡ left_by (λ R. R.records) o k
  pub scratch : ScratchLeft scratch_words wrong_blocks o s s'

-- gate_guarded: the same behind the filter, and demand 3: where the word is a run's end, the log's records match the exact run
pub record GateGuarded (program input : List ℕ) (limit : ℕ) (choices : List ℕ) (o : Out Guarded)
    (r : ℕ) (c c' l l' s s' : List ℕ) (n n' k k' : ℕ) : Type 0 where
  pub word : r ≡ answer_word (mapped end_number o)
  pub condition : c' ≡ left_by_run (λ C R. overlay c 0 C) o c
  pub log : l' ≡ left_by_run (λ C R. R.log) o l
  pub steps : n' ≡ left_by_run (λ C R. R.steps) o n
  pub records : k' ≡ left_by_run (λ C R. R.records) o k
  pub exact : r < held_word → Exact program input limit choices (length l) k' l'
  pub scratch : ScratchLeft analysis_words wrong_blocks o s s'
