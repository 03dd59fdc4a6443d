-- The filter step by step: where it refuses, and what it answers of a condition and an input that are read.
use mathlib.Core.Path.{◌≡◌, refl, sym, ap, ap₂, ◌∙◌}
use mathlib.Core.Bool.{Bool, true, false, ◌&&◌, cond}
use mathlib.Core.List.{List, [], ◌∷◌}
use Prim.Native.Nat.{ℕ, ◌*◌}
use lib.Dec.{ltb}
use lib.ListN.{length, get_or}
use Rattle.arith.specs.declared.Cause.{Cause}
use Rattle.model.specs.Lists.{All, every}
use Rattle.model.specs.Refusals.{Out, ok, refused, ◌>>=◌, check, mapped, wrong_input, blank_field, too_many_combinations}
use Rattle.model.specs.Bytes.{pair_at, pairs_at, chained}
use Rattle.model.specs.Fields.{Field, types_in}
use Rattle.model.specs.Conjunct.{Conjuncts}
use Rattle.model.specs.Condition.{Condition, read_condition}
use Rattle.model.specs.Input.{Input, readings_of, lengths_right, bits_right_lem, read_input}
use Rattle.model.specs.Filter.{few_combinations, has_readings}
use Rattle.model.specs.Failure.{Found, first, failure_in, verdict}
use Rattle.model.proofs.Basics.Results.{ok_eq, refused-ok, check-ok, mapped-ok}
use Rattle.model.proofs.Basics.Tests.{and_left, and_right}
use Rattle.condition.specs.Answers.{sizes, sizes_of, ConditionIsRead, counts_of, fields_of, conjuncts_of}
use Rattle.input.specs.Answers.{InputFile}
use Rattle.condition.proofs.Table.{condition-read}
use Rattle.plan.specs.Readings.{Counted, NoneBlank}
use Rattle.evaluator.proofs.Calls.{readings-none-blank}
use Rattle.filter.specs.Verdict.{combined, judged}
use Rattle.filter.specs.Decoding.{input_in}

-- ---- the verdict on conjuncts

module _ (I : Input) (S : Conjuncts) where
  judged-combined : judged I S ≡ (combined I S >>= λ u. ok (first (failure_in I) S))
  unfolding judged combined
  judged-combined = go (every (has_readings I) S) (every (few_combinations I) S)
    where
      go : (a b : Bool)
          → check a blank_field (check b too_many_combinations (ok (first (failure_in I) S)))
          ≡ (check a blank_field (check b too_many_combinations (ok (tt {0}))) >>= λ u. ok (first (failure_in I) S))
      go false b = refl
      go true false = refl
      go true true = refl

  -- a refusal by the numbers of combinations
  pub judged-refused : (n : ℕ) → refused n ≡ combined I S → refused n ≡ judged I S
  judged-refused n h = sym (judged-combined ∙ rw (sym h))

  -- where they are within the limit, the evaluations decide
  pub judged-within : ok tt ≡ combined I S → (a : Found Cause) → a ≡ first (failure_in I) S → ok a ≡ judged I S
  judged-within h a k = sym (judged-combined ∙ rw (sym h, k))

  -- and no field that is read is blank
  pub within-full : ok tt ≡ combined I S → every (has_readings I) S ≡ true
  unfolding combined
  within-full h = (check-ok (every (has_readings I) S) blank_field (check (every (few_combinations I) S) too_many_combinations (ok tt)) tt (sym h)).0

-- where no field that is read is blank, every conjunct can be evaluated
pub none-blank : (counts : List ℕ) (S : Conjuncts) → ((I : Input) → Counted I counts → every (has_readings I) S ≡ true) → All (NoneBlank counts) S
unfolding every
none-blank counts [] h = tt
none-blank counts (e ∷ S) h = (
  readings-none-blank counts e (λ I c. and_left (has_readings I e) (every (has_readings I) S) (h I c)),
  none-blank counts S (λ I c. and_right (has_readings I e) (every (has_readings I) S) (h I c)),
)

-- ---- the condition and the input

-- a refusal goes through
through : {A B C : Type 0} (f : A → B) (n : ℕ) (o : Out A) (g : A → Out C) → refused n ≡ mapped f o → refused n ≡ (o >>= g)
through f n (ok a) g e = absurd (refused-ok n (f a) e)
through f n (refused m) g e = cc

-- an input that is read
input-is : (fields : List Field) (s : List ℕ) (I : Input) → read_input fields s ≡ ok I → I ≡ input_in fields s
unfolding read_input input_in
input-is fields s I e =
    let types = types_in fields in
    let ps = pairs_at s 0 (length fields) in
    let J : Input = λ f. cond (ltb f (length fields)) (readings_of (get_or types f 0) s (pair_at s (8 * f))) [] in
    let right = chained (8 * length fields) ps (length s) && lengths_right types ps && bits_right_lem fields s ps in
    sym (ok_eq J I (check-ok right wrong_input (ok J) I e).1)

module _ (s t : List ℕ) where
  abbrev pub on_input_lem : List Field → Conjuncts → Out (Found Cause)
  on_input_lem fields S = read_input fields t >>= λ I. judged I S

  pub verdict-steps : verdict s t ≡ (read_condition s >>= λ C. on_input_lem C.fields C.conjuncts)
  unfolding verdict judged
  verdict-steps = refl

  pub condition-refused : (n : ℕ) → refused n ≡ mapped (λ C. s) (read_condition s) → refused n ≡ verdict s t
  condition-refused n e = through (λ C. s) n (read_condition s) (λ C. on_input_lem C.fields C.conjuncts) e ∙ sym verdict-steps

  module _ (read : ConditionIsRead s (counts_of s)) where
    verdict-read : verdict s t ≡ on_input_lem (fields_of s) (conjuncts_of s)
    verdict-read =
        let r = mapped-ok sizes (read_condition s) (sizes_of (counts_of s)) read in
        let C : Condition = r.0 in
        let q = condition-read s C r.1 in
        verdict-steps ∙ ap (λ (o : Out Condition). o >>= λ D. on_input_lem D.fields D.conjuncts) r.1 ∙ ap₂ on_input_lem q.0 q.1

    pub input-refused : (i : InputFile) (n : ℕ) → refused n ≡ mapped (λ I. i) (read_input (fields_of s) t) → refused n ≡ verdict s t
    input-refused i n e = through (λ I. i) n (read_input (fields_of s) t) (λ I. judged I (conjuncts_of s)) e ∙ sym verdict-read

    pub both_read : (i j : InputFile) → ok j ≡ mapped (λ I. i) (read_input (fields_of s) t) → verdict s t ≡ judged (input_in (fields_of s) t) (conjuncts_of s)
    both_read i j h =
        let r = mapped-ok (λ I. i) (read_input (fields_of s) t) j (sym h) in
        verdict-read ∙ ap (λ (o : Out Input). o >>= λ I. judged I (conjuncts_of s)) r.1
        ∙ ap (λ (I : Input). judged I (conjuncts_of s)) (input-is (fields_of s) t r.0 r.1)
