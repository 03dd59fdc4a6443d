-- From the operations' contracts to those of the words.
use mathlib.Core.Path.{◌≡◌, refl, sym, ap, ◌∙◌}
use mathlib.Core.Logic.{inl, inr}
use mathlib.Core.Bool.{Bool, true, false, ◌&&◌}
use mathlib.Core.List.{List}
use Prim.Native.Nat.{ℕ, ◌*◌, ◌≤◌, ◌<◌}
use native.Mathlib.Omega.{arith}
use borrow.Author.Tests.{le-leb, lt-leb}
use lib.Dec.{leb}
use Rattle.std.specs.Prelude.{Result, Ok, Err}
use Rattle.refusals.specs.Answers.{out_of}
use Rattle.refusals.specs.declared.Refusal.{Refusal}
use Rattle.model.specs.Refusals.{Out, ok, refused, mapped, check, lent_too_short, wrong_blocks}
use Rattle.model.specs.Sizes.{most_program}
use Rattle.model.specs.Run.{Ran as ModelRan, run}
use Rattle.model.specs.Demands.{ResultOrRefusal}
use Rattle.model.specs.Lent.{left_by}
use Rattle.model.proofs.Files.Lent.{scratch_as_it_was}
use Rattle.analysis.specs.Deriving.{analysis_words}
use Rattle.code_table.specs.Table.{table_words}
use Rattle.widening.specs.Converting.{conversion, Converts}
use Rattle.interpreter.specs.Answers.{run_lent, Interprets}
use Rattle.interpreter.specs.Progress.{scratch_words}
use Rattle.interpreter.specs.declared.Ran.{Ran}
use Rattle.interpreter.specs.Ends.{number_of_end}
use Rattle.capi.specs.Words.{refusal_unit, answer_word, GateConvert, GateRun}

-- ---- a word below 2^32 is a result

pub word-result : {A : Type 0} (P : ℕ → Type 0) (f : A → ℕ) (o : Out A) (w : ℕ) → ResultOrRefusal P o → ((n : ℕ) → P n → 1 ≤ n)
    → w ≡ answer_word (mapped f o) → w < refusal_unit → (a : A) × (o ≡ ok a)
word-result P f o w (inl r) some e h = r
word-result P f o w (inr r) some e h =
    let is : w ≡ r.0 * refusal_unit = e ∙ ap (λ x. answer_word (mapped f x)) r.1 in
    let one = some r.0 r.2 in
    absurd (omega arith)

-- ---- the length of a file

abbrev pub length_word : Result ℕ Refusal → ℕ
length_word r = answer_word (out_of (λ n. n) r)

pub converted-left : (o : Out (List ℕ)) (r : Result ℕ Refusal) (p p' s s' : List ℕ) (w : ℕ) → Converts o r p p' s s' → w ≡ length_word r
    → GateConvert o w p p' s s'
converted-left o r p p' s s' w c e = record { word = e ∙ ap answer_word c.answer; recipe = c.output; scratch = c.scratch }

module _ (output words : ℕ) (old : List ℕ) where
  lacks : (b : Bool) → (b && false) ≡ false
  lacks true = refl
  lacks false = refl

  -- not as much scratch as every other call
  pub convert-short : (p s : List ℕ) (w : ℕ) → words < analysis_words → w ≡ 1 * refusal_unit → GateConvert (conversion analysis_words output words old) w p p s s
  unfolding conversion
  convert-short p s w h e =
      let few : (leb most_program output && leb analysis_words words) ≡ false = rw (lt-leb analysis_words words h) (lacks (leb most_program output)) in
      record { word = rw few e; recipe = rw few; scratch = scratch_as_it_was table_words wrong_blocks (conversion analysis_words output words old) s }

  pub convert_enough : analysis_words ≤ words → conversion table_words output words old ≡ conversion analysis_words output words old
  unfolding conversion
  convert_enough h = rw (le-leb table_words words (omega (arith, h)), le-leb analysis_words words h)

-- ---- a run

abbrev pub ran_word : Result Ran Refusal → ℕ
ran_word r = answer_word (out_of (λ ran. number_of_end ran.end) r)

abbrev pub ran_steps : Result Ran Refusal → ℕ → ℕ
ran_steps (Ok ran) before = ran.steps
ran_steps (Err k) before = before

abbrev pub ran_records : Result Ran Refusal → ℕ → ℕ
ran_records (Ok ran) before = ran.records
ran_records (Err k) before = before

pub ran-left : (o : Out ModelRan) (r : Result Ran Refusal) (l l' s s' : List ℕ) (w n n' k k' : ℕ) → Interprets o r l l' s s'
    → w ≡ ran_word r → n' ≡ ran_steps r n → k' ≡ ran_records r k → GateRun o w l l' s s' n n' k k'
ran-left o (Ok ran) l l' s s' w n n' k k' h q p₁ p₂ = record {
  word = q ∙ ap (λ x. answer_word (mapped (λ R. R.end) x)) h.answer;
  log = ap (λ x. left_by (λ R. R.log) x l) h.answer;
  steps = p₁ ∙ ap (λ x. left_by (λ R. R.steps) x n) h.answer;
  records = p₂ ∙ ap (λ x. left_by (λ R. R.records) x k) h.answer;
  scratch = h.scratch;
}
ran-left o (Err m) l l' s s' w n n' k k' h q p₁ p₂ = record {
  word = q ∙ ap (λ x. answer_word (mapped (λ R. R.end) x)) h.answer;
  log = h.log ∙ ap (λ x. left_by (λ R. R.log) x l) h.answer;
  steps = p₁ ∙ ap (λ x. left_by (λ R. R.steps) x n) h.answer;
  records = p₂ ∙ ap (λ x. left_by (λ R. R.records) x k) h.answer;
  scratch = h.scratch;
}

module _ (words : ℕ) (program input : List ℕ) (limit : ℕ) (choices log : List ℕ) where
  abbrev lent : ℕ → Out ModelRan
  lent asked = run_lent asked words program input limit choices log

  -- not as much scratch as every other call
  pub run_short : (s : List ℕ) (w n k : ℕ) → words < analysis_words → w ≡ 1 * refusal_unit → GateRun (lent analysis_words) w log log s s n n k k
  run_short s w n k h e =
      let o = lent analysis_words in
      let short : refused lent_too_short ≡ o = sym (ap (λ t. check t lent_too_short (run program input limit choices log)) (lt-leb analysis_words words h)) in
      record {
        word = e ∙ ap (λ x. answer_word (mapped (λ R. R.end) x)) short;
        log = ap (λ x. left_by (λ R. R.log) x log) short;
        steps = ap (λ x. left_by (λ R. R.steps) x n) short;
        records = ap (λ x. left_by (λ R. R.records) x k) short;
        scratch = scratch_as_it_was scratch_words wrong_blocks o s;
      }

  pub run_enough : analysis_words ≤ words → lent scratch_words ≡ lent analysis_words
  run_enough h =
      ap (λ t. check t lent_too_short (run program input limit choices log))
      (le-leb scratch_words words (omega (arith, h)) ∙ sym (le-leb analysis_words words h))
