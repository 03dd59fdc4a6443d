-- What the guard's answer stands for, and what it leaves in the condition's output, in the log and in scratch.
use Rattle.std.specs.Prelude.{◌≡◌, ◌&&◌, List, ℕ, ◌≤◌, leb, length, Option, Some, None, Result}
use Rattle.bytes_le.specs.Overlay.{overlay}
use Rattle.model.specs.Refusals.{Out, ok, refused, mapped, check, lent_too_short, wrong_blocks}
use Rattle.model.specs.Condition.{condition_bytes, analysis}
use Rattle.model.specs.Guarded.{Guarded as ModelGuarded, held, passed, guarded}
use Rattle.model.specs.Demands.{ResultOrRefusal, OrLent, GuardedRefusal, Exact}
use Rattle.model.specs.Lent.{left_by_run, ScratchLeft}
use Rattle.analysis.specs.Deriving.{analysis_words}
use Rattle.guard.specs.declared.Guarded.{Guarded}
use Rattle.guard.specs.declared.Guarded.TheVariants.{Ended, Held}
use Rattle.interpreter.specs.Ends.{number_of_end}
use Rattle.refusals.specs.Answers.{out_of}
use Rattle.refusals.specs.declared.Refusal.{Refusal}

-- the program's condition is the file, and what is lent is long enough
pub record Ready (program file condition scratch : List ℕ) : Type 0 where
  pub most : length file ≤ condition_bytes
  pub derived : analysis program ≡ ok file
  pub output : condition_bytes ≤ length condition
  pub words : analysis_words ≤ length scratch

-- the run behind the filter, where the condition's output has room for the longest file and scratch has the analysis's words
unfoldable pub guarding : (output scratch : ℕ) → List ℕ → List ℕ → ℕ → List ℕ → List ℕ → Out ModelGuarded
guarding output scratch program input limit choices log =
    check (leb condition_bytes output && leb analysis_words scratch) lent_too_short (guarded program input limit choices log)

-- demand 1 of it: there is always an answer, and these are the numbers
abbrev pub GuardingAnswers : Type 0
GuardingAnswers =
    (output scratch : ℕ) (program input : List ℕ) (limit : ℕ) (choices log : List ℕ)
    → ResultOrRefusal (OrLent GuardedRefusal) (guarding output scratch program input limit choices log)

-- a run's end, the steps taken and the number of records
pub record Figures : Type 0 where
  pub end : ℕ
  pub steps : ℕ
  pub records : ℕ

-- the figures of a program that was run; none where the input is held
abbrev pub figures_of : ModelGuarded → Option Figures
figures_of held = None
figures_of (passed C R) = Some (record { end = R.end; steps = R.steps; records = R.records })

-- the same of an answer
abbrev pub figures_in : Guarded → Option Figures
figures_in Held = None
figures_in (Ended ran) = Some (record { end = number_of_end ran.end; steps = ran.steps; records = ran.records })

-- an answer's, or the number of the refusal
abbrev pub guarded_answer : Result Guarded Refusal → Out (Option Figures)
guarded_answer = out_of figures_in

-- demand 3 of the log's bytes, where the program was run
module _ (program input : List ℕ) (limit : ℕ) (choices : List ℕ) where
  abbrev pub ExactLog : Out ModelGuarded → List ℕ → List ℕ → Type 0
  ExactLog (ok held) before after = Unit {0}
  ExactLog (ok (passed C R)) before after = Exact program input limit choices (length before) R.records after
  ExactLog (refused n) before after = Unit {0}

  -- the whole contract, where the definition gives o: a run leaves the condition file at the start of its output and its records at
  -- the start of the log; the refusals 1 to 8 are found before any work
  pub record Guards (o : Out ModelGuarded) (r : Result Guarded Refusal) (c l s c' l' s' : List ℕ) : Type 0 where
    pub answer : guarded_answer r ≡ mapped figures_of o
    pub condition : c' ≡ left_by_run (λ C R. overlay c 0 C) o c
    pub log : l' ≡ left_by_run (λ C R. R.log) o l
    pub exact : ExactLog o l l'
    pub scratch : ScratchLeft analysis_words wrong_blocks o s s'
