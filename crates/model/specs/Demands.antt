-- The demands of the mission as types over byte strings. What proves them is in proofs/.
use Rattle.std.specs.Prelude.{◌≡◌, ◌⊎◌, ◌↔◌, Bool, true, false, cond, ℕ, zero, suc, ◌/◌, ◌%◌, ◌≤◌, ◌<◌, ℤ, length, drop}
use mathlib.Core.List.{List, [], ◌∷◌, ◌++◌, Memᴰ, Forall₂}
use Rattle.std.specs.Int.Signed.{le_z}
use Rattle.arith.specs.declared.Op.{Op}
use Rattle.arith.specs.declared.Cause.TheVariants.{Above, Below, NoDivisor}
use Rattle.arith.specs.Types.{lowest, highest}
use Rattle.arith.specs.Step.{overflow, passes, exact_of_lem, lacks_divisor, step_of}
use Rattle.arith.specs.Words.{value_at}
use Rattle.model.specs.Sizes.{most_program, record_size, choice_size}
use Rattle.model.specs.Lists.{All, every}
use Rattle.model.specs.Refusals.{Out, ok, refused, ◌>>=◌, mapped, check, lent_too_short, wrong_sections, wrong_blocks}
use Rattle.model.specs.Refusals.{never_settles, wrong_condition, wrong_input, too_many_combinations, blank_field, wrong_procedures}
use Rattle.model.specs.Bytes.{byte_at, u16_at, u64_at}
use Rattle.model.specs.Program.{read_program}
use Rattle.model.specs.OldForm.{read_old, convert}
use Rattle.model.specs.Conjunct.{Source, field, cell, Atom, Conj, Conjuncts, atoms}
use Rattle.model.specs.Condition.{Condition, read_condition, analysis}
use Rattle.model.specs.Input.{Input, read_input}
use Rattle.model.specs.Filter.{evaluate, holds, few_combinations, has_readings, pass_number, held_number, filter_input}
use Rattle.model.specs.Failure.{answer_number, verdict}
use Rattle.model.specs.Run.{choices_used_up, log_full, choices_of, Ran, run}
use Rattle.model.specs.Guarded.{Guarded, held, passed, guarded}
use Rattle.model.specs.Exact.{Note, exact_run}

-- ---- demand 1: the full result or one numbered refusal

-- a number from one to another
abbrev pub FromTo : ℕ → ℕ → ℕ → Type 0
FromTo a b n = (a ≤ n) × (n ≤ b)

-- a result, or a refusal whose number has the property
abbrev pub ResultOrRefusal : {A : Type 0} → (ℕ → Type 0) → Out A → Type 0
ResultOrRefusal {A} P o = ((a : A) × (o ≡ ok a)) ⊎ ((n : ℕ) × (o ≡ refused n) × P n)

-- the same of an operation that is lent something, which may be too short
abbrev pub OrLent : (ℕ → Type 0) → ℕ → Type 0
OrLent P n = (n ≡ lent_too_short) ⊎ P n

-- the numbers of the four operations on byte strings
abbrev pub AnalysisRefusal : ℕ → Type 0
AnalysisRefusal n = FromTo wrong_sections never_settles n ⊎ (n ≡ wrong_procedures)

abbrev pub FilterRefusal : ℕ → Type 0
FilterRefusal n = FromTo wrong_condition blank_field n

abbrev pub RunRefusal : ℕ → Type 0
RunRefusal n = (FromTo wrong_sections wrong_blocks n ⊎ (n ≡ wrong_input)) ⊎ (n ≡ wrong_procedures)

-- a condition that the analysis wrote is in its form
abbrev pub GuardedRefusal : ℕ → Type 0
GuardedRefusal n = AnalysisRefusal n ⊎ FromTo wrong_input blank_field n

-- whatever bytes are handed in, there is an answer; the filter's is one of two numbers, and a run's end one of five
pub record Demand1 : Type 0 where
  pub analysed : (program : List ℕ) → ResultOrRefusal AnalysisRefusal (analysis program)
  pub filtered : (condition input : List ℕ) → ResultOrRefusal FilterRefusal (filter_input condition input)
  pub verdicts : (condition input : List ℕ) (v : ℕ) → filter_input condition input ≡ ok v → (v ≡ pass_number) ⊎ (v ≡ held_number)
  pub ran : (program input : List ℕ) (limit : ℕ) (choices log : List ℕ) → ResultOrRefusal RunRefusal (run program input limit choices log)
  pub ends : (program input : List ℕ) (limit : ℕ) (choices log : List ℕ) (R : Ran) → run program input limit choices log ≡ ok R → R.end ≤ 4
  pub behind : (program input : List ℕ) (limit : ℕ) (choices log : List ℕ) → ResultOrRefusal GuardedRefusal (guarded program input limit choices log)

-- ---- demand 2: the filter

-- the value is a reading of the atom's field; a condition that is read has no loads
abbrev pub IsReading : Input → Source → ℤ → Type 0
IsReading I (field f ty) z = Memᴰ z (I f)
IsReading I (cell l r k ty) z = ⊥

-- a choice: each atom of the conjunct has a reading of its field, whatever the others have
abbrev pub Chooses : Input → (Atom → ℤ) → Conj → Type 0
Chooses I at e = All (λ a. IsReading I a.src (at a)) (atoms e)

-- whatever readings are chosen, no step of the conjunct overflows
abbrev pub Safe : Input → Conj → Type 0
Safe I e = (at : Atom → ℤ) → Chooses I at e → passes (evaluate at e []) ≡ true

-- with some choice of readings a step of the conjunct overflows
abbrev pub Overflows : Input → Conj → Type 0
Overflows I e = (at : Atom → ℤ) × Chooses I at e × (passes (evaluate at e []) ≡ false)

-- P of some element
abbrev pub Some : {A : Type 0} → (A → Type 0) → List A → Type 0
Some P [] = ⊥
Some P (x ∷ xs) = P x ⊎ Some P xs

-- a condition and an input that are read, with a reading in every field that a conjunct reads and products within the limit: the
-- input passes if and only if no choice of readings overflows at any step of any conjunct, and is held if and only if one does
abbrev pub Demand2 : Type 0
Demand2 =
    (condition input : List ℕ) (C : Condition) (I : Input)
    → read_condition condition ≡ ok C → read_input C.fields input ≡ ok I
    → every (has_readings I) C.conjuncts ≡ true → every (few_combinations I) C.conjuncts ≡ true
    → ((filter_input condition input ≡ ok pass_number) ↔ All (Safe I) C.conjuncts)
    × ((filter_input condition input ≡ ok held_number) ↔ Some (Overflows I) C.conjuncts)

-- ---- a field left blank: document 02, card 1

-- the atom's field has no readings; a condition that is read has no loads
abbrev pub IsBlank : Input → Source → Type 0
IsBlank I (field f ty) = I f ≡ []
IsBlank I (cell l r k ty) = ⊥

-- document 01's own filter, in which a conjunct that reads a blank field holds
unfoldable pub filter_allowing_blanks : List ℕ → List ℕ → Out ℕ
filter_allowing_blanks condition input =
    read_condition condition >>= λ C. read_input C.fields input >>= λ I.
    check (every (few_combinations I) C.conjuncts) too_many_combinations
    (ok (cond (every (holds I) C.conjuncts) pass_number held_number))

-- of a condition and an input that are read, 15 is given if and only if a field that some conjunct reads has no readings; and where
-- it is not given, any bytes are answered as before
pub record BlankFields : Type 0 where
  pub blank : (condition input : List ℕ) (C : Condition) (I : Input) → read_condition condition ≡ ok C → read_input C.fields input ≡ ok I
      → (filter_input condition input ≡ refused blank_field) ↔ Some (λ e. Some (λ a. IsBlank I a.src) (atoms e)) C.conjuncts
  pub others : (condition input : List ℕ)
      → (filter_input condition input ≡ refused blank_field) ⊎ (filter_input condition input ≡ filter_allowing_blanks condition input)

-- ---- document 02, card 2: why an input is held

-- a step's cause is that its result is above the type's range, or below it, or that there is no divisor; and beside the cause nothing has
-- moved: the verdict is given or refused as the filter's answer is
pub record Causes : Type 0 where
  pub above : (o : Op) (t : ℕ) (a b : ℤ) → (step_of o t a b ≡ overflow Above) ↔ ((lacks_divisor o b ≡ false) × (le_z (exact_of_lem o a b) (highest t) ≡ false))
  pub below : (o : Op) (t : ℕ) (a b : ℤ) → (step_of o t a b ≡ overflow Below) ↔ ((lacks_divisor o b ≡ false) × (le_z (lowest t) (exact_of_lem o a b) ≡ false))
  pub no_divisor : (o : Op) (t : ℕ) (a b : ℤ) → (step_of o t a b ≡ overflow NoDivisor) ↔ (lacks_divisor o b ≡ true)
  pub answered : (condition input : List ℕ) → ResultOrRefusal FilterRefusal (verdict condition input)
  pub unmoved : (condition input : List ℕ) → mapped answer_number (verdict condition input) ≡ filter_input condition input

-- ---- what the converter gives (document 02, card 5)

-- the numbers of a file of the old form
abbrev pub OldRefusal : ℕ → Type 0
OldRefusal n = FromTo wrong_sections wrong_blocks n ⊎ (n ≡ wrong_procedures)

-- whatever bytes are handed in, there is an answer; a new file is read as the program that the old one was
pub record Conversion : Type 0 where
  pub answered : (old : List ℕ) → ResultOrRefusal OldRefusal (convert old)
  pub same : (old new : List ℕ) → convert old ≡ ok new → read_program new ≡ read_old old
  pub short : (old new : List ℕ) → convert old ≡ ok new → length new ≤ most_program

-- ---- longer runs: document 02, card 6

-- what a run gave, in a log with more bytes behind
abbrev pub in_longer : List ℕ → Ran → Ran
in_longer rest R = record { end = R.end; steps = R.steps; records = R.records; log = R.log ++ rest }

-- the same of what a run behind the filter gave
abbrev pub guarded_in : (Ran → Ran) → Guarded → Guarded
guarded_in f held = held
guarded_in f (passed C R) = passed C (f R)

-- more choices and a longer log take it no further: where it ended for want of one of the two, there is no more of it
pub record NoFurther (more rest : List ℕ) (R : Ran) : Type 0 where
  pub choices : R.end ≡ choices_used_up → choices_of more ≡ []
  pub room : R.end ≡ log_full → rest ≡ []

-- a run with whole choices, and one behind the filter, is the same with more choices and in a longer log, unless it ended for want of
-- them; and then it had fewer choices, or less room in its log, than its limit has steps
pub record LongerRuns : Type 0 where
  pub ran : (program input : List ℕ) (limit : ℕ) (choices more log rest : List ℕ) → length choices % choice_size ≡ 0
      → ((R : Ran) → run program input limit choices log ≡ ok R → NoFurther more rest R)
      → run program input limit (choices ++ more) (log ++ rest) ≡ mapped (in_longer rest) (run program input limit choices log)
  pub behind : (program input : List ℕ) (limit : ℕ) (choices more log rest : List ℕ) → length choices % choice_size ≡ 0
      → ((C : List ℕ) (R : Ran) → guarded program input limit choices log ≡ ok (passed C R) → NoFurther more rest R)
      → guarded program input limit (choices ++ more) (log ++ rest) ≡ mapped (guarded_in (in_longer rest)) (guarded program input limit choices log)
  pub used_up : (program input : List ℕ) (limit : ℕ) (choices log : List ℕ) (R : Ran) → run program input limit choices log ≡ ok R
      → R.end ≡ choices_used_up → length (choices_of choices) < limit
  pub full : (program input : List ℕ) (limit : ℕ) (choices log : List ℕ) (R : Ran) → run program input limit choices log ≡ ok R
      → R.end ≡ log_full → length log / record_size < limit

-- ---- demand 3

-- a record of the log, read from its 12 bytes: label, mark, zero byte, and the word of the value
pub record Record : Type 0 where
  pub label : ℕ
  pub mark : ℕ
  pub pad : ℕ
  pub word : ℕ

abbrev pub record_at : List ℕ → Record
record_at s = record { label = u16_at s 0; mark = byte_at s 2; pad = byte_at s 3; word = u64_at s 4 }

-- the first n records of a log
unfoldable pub records_of_lem : ℕ → List ℕ → List Record
records_of_lem zero log = []
records_of_lem (suc n) log = record_at log ∷ records_of_lem n (drop record_size log)

-- the exact run, with room for so many bytes, is not refused; and the first records of the log are P of its notes, one for one and
-- in order
pub record ExactBy (P : Record → Note → Type 0) (program input : List ℕ) (limit : ℕ) (choices : List ℕ) (room records : ℕ) (log : List ℕ) : Type 0 where
  pub notes : List Note
  pub is-run : exact_run program input limit choices room ≡ ok notes
  pub each : Forall₂ P (records_of_lem records log) notes

-- a record is what was noted: the same label, mark 0, the value read in the site's type is the whole number, and no step of its
-- making overflowed
pub record Matches (r : Record) (w : Note) : Type 0 where
  pub label : r.label ≡ w.label
  pub mark : r.mark ≡ 0
  pub pad : r.pad ≡ 0
  pub number : value_at w.type r.word ≡ w.total
  pub overflows : w.overflowed ≡ 0

-- the records match
abbrev pub Exact : (program input : List ℕ) (limit : ℕ) (choices : List ℕ) (room records : ℕ) (log : List ℕ) → Type 0
Exact = ExactBy Matches

-- an accepted program, an input that passes under its condition, and any run of the two that is not refused:
-- the exact run is not refused either, and the log's records match its notes
abbrev pub Demand3 : Type 0
Demand3 =
    (program condition input : List ℕ) (limit : ℕ) (choices log : List ℕ) (ran : Ran)
    → analysis program ≡ ok condition → filter_input condition input ≡ ok pass_number → run program input limit choices log ≡ ok ran
    → Exact program input limit choices (length log) ran.records ran.log

-- in any run a record is marked if and only if a step of the value's making overflowed; if not, the value is the whole number
pub record Marks (r : Record) (w : Note) : Type 0 where
  pub label : r.label ≡ w.label
  pub mark : (r.mark ≡ 0) ↔ (w.overflowed ≡ 0)
  pub pad : r.pad ≡ 0
  pub number : r.mark ≡ 0 → value_at w.type r.word ≡ w.total

abbrev pub MarkExact : Type 0
MarkExact =
    (program input : List ℕ) (limit : ℕ) (choices log : List ℕ) (ran : Ran) → run program input limit choices log ≡ ok ran
    → ExactBy Marks program input limit choices (length log) ran.records ran.log
