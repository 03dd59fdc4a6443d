-- The run behind the filter: analysis, filter and run, one after the other on the same bytes.
use Rattle.std.specs.Prelude.{cond, List, ℕ, eqb}
use Rattle.model.specs.Refusals.{Out, ok, ◌>>=◌}
use Rattle.model.specs.Condition.{analysis}
use Rattle.model.specs.Filter.{pass_number, filter_input}
use Rattle.model.specs.Run.{Ran, run}

-- the input is held, or it passed and the program was run: the condition file, and what the run gives
pub data Guarded : Type 0 where
  held : Guarded
  passed : (condition : List ℕ) → Ran → Guarded

-- with the filter's answer: only an input that passes is run
abbrev pub admitted : List ℕ → Out Ran → ℕ → Out Guarded
admitted C o verdict = cond (eqb verdict pass_number) (o >>= λ R. ok (passed C R)) (ok held)

-- the first refusal counts
unfoldable pub guarded : List ℕ → List ℕ → ℕ → List ℕ → List ℕ → Out Guarded
guarded program input limit choices log =
    analysis program >>= λ C. filter_input C input >>= admitted C (run program input limit choices log)
