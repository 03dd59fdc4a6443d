-- Demand 3 of the three operations called one after the other, by their contracts alone.
use mathlib.Core.Path.{◌≡◌, sym}
use mathlib.Core.Bool.{◌&&◌}
use mathlib.Core.List.{List}
use Prim.Native.Nat.{ℕ}
use lib.Dec.{leb}
use lib.ListN.{length, take}
use Rattle.model.specs.Refusals.{ok, lent_too_short}
use Rattle.model.specs.Condition.{condition_bytes, analysis}
use Rattle.model.specs.Failure.{verdict}
use Rattle.model.specs.Run.{Ran, run}
use Rattle.model.specs.Demands.{Exact}
use Rattle.model.proofs.Demand3.{demand3}
use Rattle.model.proofs.Filters.Verdicts.{verdict-answer}
use Rattle.model.proofs.Basics.Results.{check-ok}
use Rattle.filter.specs.Verdict.{verdict_of}
use Rattle.filter.specs.declared.Verdict.TheVariants.{Pass}
use Rattle.interpreter.specs.Answers.{run_lent, Interprets}
use Rattle.interpreter.specs.declared.Ran.{Ran as Answer}
use Rattle.interpreter.specs.Ends.{number_of_end}
use Rattle.interpreter.specs.Progress.{scratch_words}
use Rattle.analysis.specs.Deriving.{analysis_words, derivation, Derives}
use Rattle.std.specs.Prelude.{Ok}

-- where enough is lent, a derivation is the analysis
pub derivation-analysis : (output words : ℕ) (program C : List ℕ) → derivation output words program ≡ ok C → analysis program ≡ ok C
unfolding derivation
derivation-analysis output words program C e = (check-ok (leb condition_bytes output && leb analysis_words words) lent_too_short (analysis program) C e).1

-- and a run is the run
pub lent-run : (words scratch : ℕ) (program input : List ℕ) (limit : ℕ) (choices log : List ℕ) (R : Ran)
    → run_lent words scratch program input limit choices log ≡ ok R → run program input limit choices log ≡ ok R
lent-run words scratch program input limit choices log R e = (check-ok (leb words scratch) lent_too_short (run program input limit choices log) R e).1

-- whoever derives a condition, finds that the input passes under its bytes, and runs the program on the input has the records of the
-- exact run, whatever was lent to each
pub apart : (program input : List ℕ) (limit : ℕ) (choices log : List ℕ) (n : ℕ) (before condition s s' : List ℕ)
    (r : Answer) (log' t t' : List ℕ)
    → Derives (derivation (length before) (length s) program) (Ok n) before condition s s'
    → verdict_of (Ok Pass) ≡ verdict (take n condition) input
    → Interprets (run_lent scratch_words (length t) program input limit choices log) (Ok r) log log' t t'
    → Exact program input limit choices (length log) r.records log'
apart program input limit choices log n before condition s s' r log' t t' d v q =
    let ran : Ran = record { end = number_of_end r.end; steps = r.steps; records = r.records; log = log' } in
    demand3 program (take n condition) input limit choices log ran
    (derivation-analysis (length before) (length s) program (take n condition) d.answer) (verdict-answer (take n condition) input (verdict_of (Ok Pass)) v)
    (lent-run scratch_words (length t) program input limit choices log ran (sym q.answer))
