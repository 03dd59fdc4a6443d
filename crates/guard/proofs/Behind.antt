-- The guard's answers, from those of the three operations.
use mathlib.Core.Path.{◌≡◌, refl, sym, ap, subst, ◌∙◌}
use mathlib.Core.Bool.{Bool, true, ◌&&◌}
use mathlib.Core.List.{List}
use Prim.Native.Nat.{ℕ, ◌≤◌, ◌<◌}
use lib.Dec.{leb}
use borrow.Author.Tests.{le-leb, lt-leb, leb-true}
use lib.ListN.{length}
use native.Mathlib.Omega.{arith}
use Rattle.bytes_le.specs.Overlay.{overlay}
use Rattle.model.specs.Refusals.{Out, ok, refused, ◌>>=◌, mapped, check, lent_too_short, wrong_blocks}
use Rattle.model.specs.Condition.{condition_bytes, analysis}
use Rattle.model.specs.Filter.{pass_number, held_number, filter_input}
use Rattle.model.specs.Run.{Ran, run}
use Rattle.model.specs.Guarded.{Guarded as ModelGuarded, held, passed, admitted, guarded}
use Rattle.model.specs.Demands.{GuardedRefusal, Exact}
use Rattle.model.specs.Lent.{ScratchLeft}
use Rattle.model.proofs.Demand1.{lent-answer, demand1, accepted_refusals}
use Rattle.model.proofs.Basics.Results.{check-ok}
use Rattle.model.proofs.Basics.Tests.{case, and_right}
use Rattle.analysis.specs.Deriving.{analysis_words, derivation}
use Rattle.interpreter.specs.Answers.{run_lent}
use Rattle.interpreter.specs.Progress.{scratch_words}
use Rattle.guard.specs.Answers.{guarding, GuardingAnswers, Guards}
use Rattle.guard.specs.declared.Guarded.{Guarded}
use Rattle.guard.specs.declared.Guarded.TheVariants.{Ended, Held}
use Rattle.std.specs.Prelude.{Result, Ok, Err}
use Rattle.refusals.specs.Answers.{number_of}
use Rattle.refusals.specs.declared.Refusal.{Refusal}
use Rattle.interpreter.specs.declared.Ran.{Ran as Run}
use Rattle.interpreter.specs.Ends.{number_of_end}

-- the model's run that an answer and a log are
abbrev pub ran_with : Run → List ℕ → Ran
ran_with run log = record { end = number_of_end run.end; steps = run.steps; records = run.records; log = log }

-- ---- the contract, by cases on what the definition gives

module _ (program input : List ℕ) (limit : ℕ) (choices : List ℕ) (o : Out ModelGuarded) (c l s : List ℕ) where
  abbrev Scratch : Out ModelGuarded → List ℕ → Type 0
  Scratch x s' = ScratchLeft analysis_words wrong_blocks x s s'

  abbrev Is : Out ModelGuarded → Result Guarded Refusal → (c' l' s' : List ℕ) → Type 0
  Is x r c' l' s' = Guards program input limit choices x r c l s c' l' s'

  pub guards_refused : (k : Refusal) (l' s' : List ℕ) → o ≡ refused (number_of k) → l' ≡ l → Scratch o s' → Is o (Err k) c l' s'
  guards_refused k l' s' e q w =
      subst (λ x. Scratch x s' → Is x (Err k) c l' s') (sym e)
      (λ v. record { answer = refl; condition = refl; log = q; exact = tt; scratch = v }) w

  pub guards_held : (s' : List ℕ) → o ≡ ok held → Scratch o s' → Is o (Ok Held) c l s'
  guards_held s' e w =
      subst (λ x. Scratch x s' → Is x (Ok Held) c l s') (sym e)
      (λ v. record { answer = refl; condition = refl; log = refl; exact = tt; scratch = v }) w

  pub guards_ended : (C : List ℕ) (run : Run) (c' l' s' : List ℕ) → o ≡ ok (passed C (ran_with run l')) → c' ≡ overlay c 0 C
      → Exact program input limit choices (length l) run.records l' → Scratch o s' → Is o (Ok (Ended run)) c' l' s'
  guards_ended C run c' l' s' e k x w =
      subst (λ y. Scratch y s' → Is y (Ok (Ended run)) c' l' s') (sym e)
      (λ v. record { answer = refl; condition = k; log = refl; exact = x; scratch = v }) w

  -- with what was left in scratch before
  pub guards_after : (r : Result Guarded Refusal) (t c' l' u : List ℕ) → Guards program input limit choices o r c l t c' l' u → Scratch o u
      → Is o r c' l' u
  guards_after r t c' l' u g w = record { answer = g.answer; condition = g.condition; log = g.log; exact = g.exact; scratch = w }

-- ---- what the definition gives

module _ (program input : List ℕ) (limit : ℕ) (choices log : List ℕ) where
  abbrev ran : Out Ran
  ran = run program input limit choices log

  abbrev behind : Out ModelGuarded
  behind = guarded program input limit choices log

  not-derived : (n : ℕ) → analysis program ≡ refused n → behind ≡ refused n
  unfolding guarded
  not-derived n a = ap (◌>>= λ C. filter_input C input >>= admitted C ran) a

  -- with the condition derived: what the filter's answer leads to
  module _ (C : List ℕ) (a : analysis program ≡ ok C) where
    filtered : behind ≡ (filter_input C input >>= admitted C ran)
    unfolding guarded
    filtered = ap (◌>>= λ D. filter_input D input >>= admitted D ran) a

    pub not-filtered : (n : ℕ) → filter_input C input ≡ refused n → behind ≡ refused n
    not-filtered n f = filtered ∙ ap (◌>>= admitted C ran) f

    pub is_held : filter_input C input ≡ ok held_number → behind ≡ ok held
    is_held f = filtered ∙ ap (◌>>= admitted C ran) f

    pub not-run : (n : ℕ) → filter_input C input ≡ ok pass_number → ran ≡ refused n → behind ≡ refused n
    not-run n f r = filtered ∙ ap (◌>>= admitted C ran) f ∙ ap (λ o. admitted C o pass_number) r

    pub is-run : (R : Ran) → filter_input C input ≡ ok pass_number → ran ≡ ok R → behind ≡ ok (passed C R)
    is-run R f r = filtered ∙ ap (◌>>= admitted C ran) f ∙ ap (λ o. admitted C o pass_number) r

    -- a refusal comes after the work
    pub late : (n : ℕ) → behind ≡ refused n → wrong_blocks < n
    late n e = let k = accepted_refusals program input limit choices log C a n e in omega arith

-- ---- what was lent

-- the test that what was lent is long enough passes
check-passes : {A : Type 0} (b : Bool) (o : Out A) → b ≡ true → check b lent_too_short o ≡ o
check-passes b o h = ap (λ t. check t lent_too_short o) h

module _ (program input : List ℕ) (limit : ℕ) (choices log : List ℕ) where
  pub output-short : (output words : ℕ) → output < condition_bytes → guarding output words program input limit choices log ≡ refused lent_too_short
  unfolding guarding
  output-short output words h =
      ap (λ t. check (t && leb analysis_words words) lent_too_short (guarded program input limit choices log)) (lt-leb condition_bytes output h)

  -- the analysis wrote to a file that is long enough, and so is the output
  module _ (file output words : ℕ) (f : condition_bytes ≤ file) (h : condition_bytes ≤ output) where
    pub derived-refused : (n : ℕ) → derivation file words program ≡ refused n → guarding output words program input limit choices log ≡ refused n
    unfolding guarding derivation
    derived-refused n d =
        ap (λ t. check (t && leb analysis_words words) lent_too_short (guarded program input limit choices log)) (le-leb condition_bytes output h)
        ∙ case (leb analysis_words words)
        (λ t. check t lent_too_short (analysis program) ≡ refused n → check t lent_too_short (guarded program input limit choices log) ≡ refused n)
        (λ p. not-derived program input limit choices log n) (λ p e. ap (mapped (λ C. held)) e)
        (sym (ap (λ t. check (t && leb analysis_words words) lent_too_short (analysis program)) (le-leb condition_bytes file f)) ∙ d)

    pub derived-lent : (C : List ℕ) → derivation file words program ≡ ok C → analysis_words ≤ words
    unfolding derivation
    derived-lent C d =
        let k = check-ok (leb condition_bytes file && leb analysis_words words) lent_too_short (analysis program) C d in
        leb-true analysis_words words (and_right (leb condition_bytes file) (leb analysis_words words) k.0)

    pub derived-guarding : analysis_words ≤ words → guarded program input limit choices log ≡ guarding output words program input limit choices log
    unfolding guarding
    derived-guarding w =
        let both : (leb condition_bytes output && leb analysis_words words) ≡ true = rw (le-leb condition_bytes output h, le-leb analysis_words words w) refl in
        sym (check-passes (leb condition_bytes output && leb analysis_words words) (guarded program input limit choices log) both)

-- the run's answer, where the analysis has enough scratch: then the run has too
pub ran-lent : (words : ℕ) (program input : List ℕ) (limit : ℕ) (choices log : List ℕ) (o : Out Ran) → analysis_words ≤ words
    → o ≡ run_lent scratch_words words program input limit choices log → run program input limit choices log ≡ o
ran-lent words program input limit choices log o h e =
    let ran = run program input limit choices log in
    sym (e ∙ check-passes (leb scratch_words words) ran (le-leb scratch_words words (omega (arith, h))))

-- ---- scratch

-- the same refusal, by way of another definition
pub scratch-refused : {A B : Type 0} (o : Out A) (p : Out B) (n : ℕ) (s t : List ℕ) → o ≡ refused n → p ≡ refused n
    → ScratchLeft analysis_words wrong_blocks p s t → ScratchLeft analysis_words wrong_blocks o s t
scratch-refused o p n s t e d w = record {
  size = w.size;
  beyond = w.beyond;
  idle = λ m r h. let same : m ≡ n = cc in w.idle n d (omega arith);
}

-- ---- demand 1

pub guarding_answers : GuardingAnswers
unfolding guarding
guarding_answers output scratch program input limit choices log =
    lent-answer GuardedRefusal (leb condition_bytes output && leb analysis_words scratch) (guarded program input limit choices log)
    (demand1.behind program input limit choices log)
