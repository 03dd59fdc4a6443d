-- Demand 3 of the exported functions called one after the other, by the contracts of their words alone.
use mathlib.Core.Path.{◌≡◌, refl, sym, ap, subst, ◌∙◌}
use mathlib.Core.Logic.{inl, inr}
use mathlib.Core.List.{List}
use Prim.Native.Nat.{ℕ, ◌≤◌, ◌<◌}
use native.Mathlib.Omega.{arith}
use lib.ListN.{length, take}
use Rattle.model.specs.Refusals.{Out, ok, refused, mapped}
use Rattle.arith.specs.declared.Cause.{Cause}
use Rattle.arith.specs.declared.Cause.TheVariants.{Above, Below, NoDivisor}
use Rattle.model.specs.Filter.{pass_number}
use Rattle.model.specs.Failure.{Found, nothing, found, verdict_number, verdict}
use Rattle.model.specs.Run.{Ran}
use Rattle.model.specs.Demands.{ResultOrRefusal, OrLent, AnalysisRefusal, FilterRefusal, RunRefusal, Exact}
use Rattle.model.specs.Lent.{left_by}
use Rattle.model.proofs.Demand3.{demand3}
use Rattle.model.proofs.Basics.Results.{refused-ok}
use Rattle.model.proofs.Filters.Verdicts.{verdict-answer}
use Rattle.model.proofs.Filters.Causes.{causes}
use Rattle.analysis.specs.Deriving.{analysis_words, derivation}
use Rattle.analysis.proofs.Files.{derivation_answers}
use Rattle.interpreter.specs.Answers.{run_lent}
use Rattle.interpreter.proofs.Endings.{run_answers}
use Rattle.guard.proofs.Apart.{derivation-analysis, lent-run}
use Rattle.capi.specs.Words.{refusal_unit, answer_word, GateDerive, GateRun}
use Rattle.capi.proofs.Leaving.{word-result}

-- no number of a refusal is 0
some-analysis : (n : ℕ) → OrLent AnalysisRefusal n → 1 ≤ n
some-analysis n (inl h) = omega arith
some-analysis n (inr (inl h)) = omega arith
some-analysis n (inr (inr h)) = omega arith

some-run : (n : ℕ) → OrLent RunRefusal n → 1 ≤ n
some-run n (inl h) = omega arith
some-run n (inr (inl (inl h))) = omega arith
some-run n (inr (inl (inr h))) = omega arith
some-run n (inr (inr h)) = omega arith

-- the word 0 is a pass
pass_word : (o : Out (Found Cause)) → ResultOrRefusal FilterRefusal o → pass_number ≡ answer_word (mapped verdict_number o) → o ≡ ok nothing
pass_word (ok nothing) h v = refl
pass_word (ok (found Above)) h v = absurd (omega arith)
pass_word (ok (found Below)) h v = absurd (omega arith)
pass_word (ok (found NoDivisor)) h v = absurd (omega arith)
pass_word (refused n) (inl (a, e)) v = absurd (refused-ok n a e)
pass_word (refused n) (inr (m, e, l)) v = let same : n ≡ m = cc in absurd (omega arith)

-- gate_derive gives a length, gate_check 0 for the condition's first bytes of this number, and gate_run an end: then the log's bytes
-- match the exact run, whatever was lent to each
pub words-apart : (program input : List ℕ) (limit : ℕ) (choices log : List ℕ) (n : ℕ)
    (before condition s s' : List ℕ) (word : ℕ) (log' t t' : List ℕ) (steps steps' records records' : ℕ)
    → GateDerive (derivation (length before) (length s) program) n before condition s s' → n < refusal_unit
    → pass_number ≡ answer_word (mapped verdict_number (verdict (take n condition) input))
    → GateRun (run_lent analysis_words (length t) program input limit choices log) word log log' t t' steps steps' records records'
    → word < refusal_unit
    → Exact program input limit choices (length log) records' log'
words-apart program input limit choices log n before condition s s' word log' t t' steps steps' records records' d dn v r rn =
    let o = derivation (length before) (length s) program in
    let q = run_lent analysis_words (length t) program input limit choices log in
    let C = word-result (OrLent AnalysisRefusal) length o n (derivation_answers (length before) (length s) program) some-analysis d.word dn in
    let R = word-result (OrLent RunRefusal) (λ (x : Ran). x.end) q word (run_answers analysis_words (length t) program input limit choices log) some-run
    r.word rn in
    let file : take n condition ≡ C.0 = d.file C.0 C.1 in
    let p = verdict (take n condition) input in
    let pass = verdict-answer (take n condition) input (ok nothing) (sym (pass_word p (causes.answered (take n condition) input) v)) in
    let whole = demand3 program (take n condition) input limit choices log R.0
    (derivation-analysis (length before) (length s) program (take n condition) (C.1 ∙ ap ok (sym file))) pass
    (lent-run analysis_words (length t) program input limit choices log R.0 R.1) in
    let log_is : log' ≡ R.0.log = r.log ∙ ap (λ x. left_by (λ (y : Ran). y.log) x log) R.1 in
    let records-are : records' ≡ R.0.records = r.records ∙ ap (λ x. left_by (λ (y : Ran). y.records) x records) R.1 in
    subst (λ k. Exact program input limit choices (length log) k log') (sym records-are)
    (subst (λ b. Exact program input limit choices (length log) R.0.records b) (sym log_is) whole)
