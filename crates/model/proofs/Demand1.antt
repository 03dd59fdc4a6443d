-- Demand 1: every byte string gets a result or one refusal, and these are the numbers.
use mathlib.Core.Path.{◌≡◌, refl, sym, ap, ◌∙◌}
use mathlib.Core.Logic.{◌⊎◌, inl, inr}
use mathlib.Core.Bool.{Bool, true, false, cond}
use mathlib.Core.List.{List}
use Prim.Native.Nat.{ℕ}
use native.Mathlib.Omega.{arith}
use lib.Dec.{eqb}
use Rattle.model.specs.Lists.{every}
use Rattle.model.specs.Refusals.{Out, ok, refused, ◌>>=◌, check, lent_too_short, too_many_combinations, blank_field}
use Rattle.model.specs.Condition.{Condition, read_condition, analysis}
use Rattle.model.specs.Input.{Input, read_input}
use Rattle.model.specs.Filter.{holds, few_combinations, has_readings, pass_number, held_number, filter_input}
use Rattle.model.specs.Run.{Ran, run}
use Rattle.model.specs.Guarded.{held, passed, admitted, guarded}
use Rattle.model.specs.Demands.{FromTo, ResultOrRefusal, OrLent, AnalysisRefusal, FilterRefusal, RunRefusal, GuardedRefusal, Demand1}
use Rattle.model.proofs.Demand3.{analysis_accepts, derived-reads-back}
use Rattle.model.proofs.Runs.Ends.{run_ends}
use Rattle.model.proofs.RefusalNumbers.{refusals_analysis, refusals_filter, refusals_run, read_refusals_run, read_refusals_filter}
use Rattle.model.proofs.Basics.Results.{Refuses, Gives, refuses_by, refuses_bind, refuses_imp, gives_ok, gives_bind, gives_any, gives_check}
use Rattle.model.proofs.Basics.Tests.{case}

-- ---- the verdicts

-- pass or held
abbrev IsVerdict : ℕ → Type 0
IsVerdict v = (v ≡ pass_number) ⊎ (v ≡ held_number)

one_of_two : (b : Bool) → IsVerdict (cond b pass_number held_number)
one_of_two true = inl refl
one_of_two false = inr refl

filter_gives : (c i : List ℕ) → Gives IsVerdict (filter_input c i)
unfolding filter_input
filter_gives c i =
    let answer : Condition → Input → ℕ = λ C I. cond (every (holds I) C.conjuncts) pass_number held_number in
    let counted : Condition → Input → Out ℕ = λ C I. check (every (few_combinations I) C.conjuncts) too_many_combinations (ok (answer C I)) in
    let judged : Condition → Input → Out ℕ = λ C I. check (every (has_readings I) C.conjuncts) blank_field (counted C I) in
    gives_bind (λ C. Unit {0}) IsVerdict (read_condition c) (λ C. read_input C.fields i >>= judged C) (gives_any (read_condition c))
    (
    λ C u.
    gives_bind (λ I. Unit {0}) IsVerdict (read_input C.fields i) (judged C) (gives_any (read_input C.fields i))
    (
    λ I u.
    gives_check IsVerdict (every (has_readings I) C.conjuncts) blank_field (counted C I)
    (gives_check IsVerdict (every (few_combinations I) C.conjuncts) too_many_combinations (ok (answer C I)) (one_of_two (every (holds I) C.conjuncts)))
    )
    )

-- ---- the run behind the filter

module _ (program input : List ℕ) (limit : ℕ) (choices log : List ℕ) where
  abbrev ran : Out Ran
  ran = run program input limit choices log

  -- with the condition derived: the input is not in its form, a field that is read is blank, or there are too many combinations
  pub accepted_refusals : (C : List ℕ) → analysis program ≡ ok C → (n : ℕ) → guarded program input limit choices log ≡ refused n → FromTo 13 15 n
  unfolding guarded
  accepted_refusals C a n e =
      let k = analysis_accepts program C a in
      let whole = filter_input C input >>= admitted C ran in
      let filtered = refusals (FromTo 13 15) (filter_input C input) (read_refusals_filter C input _ (derived-reads-back program C k)) in
      let ran-refuses = refusals (FromTo 13 15) ran (λ m r. let q = read_refusals_run program input limit choices log k.P k.reads m r in omega arith) in
      refuses_by (FromTo 13 15) whole n (rw a at e)
      (refuses_bind (FromTo 13 15) (filter_input C input) (admitted C ran) filtered (admitted_refuses ran-refuses))
    where
      refusals : {A : Type 0} (P : ℕ → Type 0) (o : Out A) → ((n : ℕ) → o ≡ refused n → P n) → Refuses P o
      refusals P (ok a) h = tt
      refusals P (refused n) h = h n refl

      admitted_refuses : Refuses (FromTo 13 15) ran → (v : ℕ) → Refuses (FromTo 13 15) (admitted C ran v)
      admitted_refuses h v =
          case (eqb v pass_number) (λ b. Refuses (FromTo 13 15) (cond b (ran >>= λ R. ok (passed C R)) (ok held)))
          (λ q. refuses_bind (FromTo 13 15) ran (λ R. ok (passed C R)) h (λ R. tt)) (λ q. tt)

  pub refusals_guarded : (n : ℕ) → guarded program input limit choices log ≡ refused n → GuardedRefusal n
  unfolding guarded
  refusals_guarded n e = by (analysis program) refl
    where
      by : (o : Out (List ℕ)) → analysis program ≡ o → GuardedRefusal n
      by (ok C) a = inr (accepted_refusals C a n e)
      by (refused m) a =
          let same : refused m ≡ refused n = sym (ap (◌>>= λ C. filter_input C input >>= admitted C ran) a) ∙ e in
          let is : m ≡ n = cc in
          inl (refusals_analysis program n (a ∙ ap refused is))

-- ---- the theorem

pub answer_of_lem : {A : Type 0} (P : ℕ → Type 0) (o : Out A) → ((n : ℕ) → o ≡ refused n → P n) → ResultOrRefusal P o
answer_of_lem P (ok a) h = inl (a, refl)
answer_of_lem P (refused n) h = inr (n, refl, h n refl)

-- where what is lent may be too short
pub lent-answer : {A : Type 0} (P : ℕ → Type 0) (b : Bool) (o : Out A) → ResultOrRefusal P o → ResultOrRefusal (OrLent P) (check b lent_too_short o)
lent-answer P true o (inl r) = inl r
lent-answer P true o (inr r) = inr (r.0, r.1, inr r.2)
lent-answer P false o r = inr (lent_too_short, refl, inl refl)

pub demand1 : Demand1
demand1 = record {
  analysed = λ p. answer_of_lem AnalysisRefusal (analysis p) (refusals_analysis p);
  filtered = λ c i. answer_of_lem FilterRefusal (filter_input c i) (refusals_filter c i);
  verdicts = λ c i v e. gives_ok IsVerdict (filter_input c i) v e (filter_gives c i);
  ran = λ p i limit ch log. answer_of_lem RunRefusal (run p i limit ch log) (refusals_run p i limit ch log);
  ends = run_ends;
  behind = λ p i limit ch log. answer_of_lem GuardedRefusal (guarded p i limit ch log) (refusals_guarded p i limit ch log);
}
