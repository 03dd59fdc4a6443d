-- What the filter's verdicts stand for, and what the numbers of combinations tell of conjuncts.
use Rattle.std.specs.Prelude.{◌≡◌, Result, Bool, true, List, ℕ, ◌*◌, ◌/◌, ◌≤◌, length}
use Rattle.arith.specs.declared.Cause.{Cause}
use Rattle.model.specs.Sizes.{field_size, most_fields, most_readings}
use Rattle.model.specs.Lists.{All, every}
use Rattle.model.specs.Refusals.{Out, ok, check, too_many_combinations, blank_field}
use Rattle.model.specs.Program.{type_right}
use Rattle.model.specs.Fields.{types_in, fields_in}
use Rattle.model.specs.Conjunct.{Conjuncts}
use Rattle.model.specs.Input.{Input}
use Rattle.model.specs.Filter.{few_combinations, has_readings}
use Rattle.model.specs.Failure.{Found, nothing, found, first, failure_in}
use Rattle.condition.specs.Answers.{fields_of, conjuncts_of}
use Rattle.input.specs.Answers.{InputFile}
use Rattle.plan.specs.Readings.{Lent, NoneBlank, Decoded}
use Rattle.evaluator.specs.Answer.{answer_of}
use Rattle.filter.specs.Decoding.{input_in}
use Rattle.filter.specs.declared.Verdict.{Verdict}
use Rattle.filter.specs.declared.Verdict.TheVariants.{Pass, Held}
use Rattle.refusals.specs.declared.Refusal.{Refusal}
use Rattle.refusals.specs.Answers.{out_of}

-- nothing where the input passes, or the cause where it is held
abbrev pub hold_of : Verdict → Found Cause
hold_of Pass = nothing
hold_of (Held c) = found c

-- the same, or the number of the refusal
abbrev pub verdict_of : Result Verdict Refusal → Out (Found Cause)
verdict_of = out_of hold_of

-- the refusal of conjuncts by their numbers of combinations: some field that is read is blank; none is, but some conjunct has too many
unfoldable pub combined : Input → Conjuncts → Out (Unit {0})
combined I S =
    check (every (has_readings I) S) blank_field
    (check (every (few_combinations I) S) too_many_combinations
    (ok tt))

-- an answer says it
abbrev pub Told : Result Unit Refusal → Input → Conjuncts → Type 0
Told r I S = out_of (λ u. tt {0}) r ≡ combined I S

-- the verdict on conjuncts, with the readings of an input
unfoldable pub judged : Input → Conjuncts → Out (Found Cause)
judged I S =
    check (every (has_readings I) S) blank_field
    (check (every (few_combinations I) S) too_many_combinations
    (ok (first (failure_in I) S)))

-- ---- what the functions ask for and come to

-- readings of which each conjunct of a condition has one of each of its fields
pub record Triable (condition counts mags : List ℕ) (negs : List Bool) : Type 0 where
  pub lent : Lent counts mags negs
  pub none-blank : All (NoneBlank counts) (conjuncts_of condition)

-- why the first conjunct that does not hold does not
abbrev pub FirstFails : Result (Unit {0}) Cause → List ℕ → List ℕ → List ℕ → List Bool → Type 0
FirstFails r condition counts mags negs = (I : Input) → Decoded I counts mags negs → answer_of r ≡ first (failure_in I) (conjuncts_of condition)

-- the table of an input is that of a condition that is read
pub record InputOf (condition fields : List ℕ) : Type 0 where
  pub same : fields_in fields ≡ fields_of condition
  pub few : length fields / field_size ≤ most_fields
  pub typed : every type_right (types_in (fields_in fields)) ≡ true

-- with places for the readings
pub record Judgeable (condition : List ℕ) (input : InputFile) (counts mags : List ℕ) (negs : List Bool) : Type 0 where
  pub of : InputOf condition input.fields
  pub counts-long : length counts ≡ most_fields
  pub magnitudes : most_readings * (length input.fields / field_size) ≤ length mags
  pub signs : most_readings * (length input.fields / field_size) ≤ length negs

-- the verdict on them
abbrev pub Judges : Result Verdict Refusal → List ℕ → List ℕ → Type 0
Judges r condition input = verdict_of r ≡ judged (input_in (fields_of condition) input) (conjuncts_of condition)
