-- The answers of a derivation, from what the reader, the sites and the writer answer.
use mathlib.Core.Bool.{◌&&◌}
use mathlib.Core.List.{List, ◌++◌}
use mathlib.Core.Path.{◌≡◌, refl, sym, ap, subst, ◌∙◌}
use Prim.Native.Nat.{ℕ, ◌≤◌, ◌<◌}
use native.Mathlib.Omega.{arith}
use lib.Dec.{leb}
use lib.ListN.{length, take, drop}
use lib.Seq.{take-take}
use borrow.Author.Tests.{le-leb, lt-leb}
use Rattle.model.specs.Condition.{encode, condition_bytes, analysis}
use Rattle.model.specs.Fields.{types_in}
use Rattle.model.specs.Conjunct.{Conjuncts}
use Rattle.model.specs.Lists.{All}
use Rattle.model.specs.Program.{Program, Tables, Outline, layout_of, read_outline, read_program}
use Rattle.model.specs.Refusals.{ok, refused, ◌>>=◌, mapped, wrong_blocks}
use Rattle.model.proofs.Basics.Results.{mapped-refused}
use Rattle.model.specs.Demands.{AnalysisRefusal}
use Rattle.model.specs.Walk.{derived}
use Rattle.model.specs.Formed.{Formed}
use Rattle.model.proofs.Demand1.{lent-answer, demand1}
use Rattle.model.proofs.Walks.Derives.{derived-formed}
use Rattle.model.proofs.Files.Checked.{program_checked}
use Rattle.model.proofs.Files.Lent.{scratch_as_it_was, scratch-worked}
use Rattle.model.proofs.RefusalNumbers.{listed_refusals_analysis}
use Rattle.bytes_le.specs.Overlay.{overlay}
use Rattle.bytes_le.proofs.Overlays.{overlay_read}
use Rattle.program.specs.Reading.{program_answer, tables_of}
use Rattle.refusals.specs.Answers.{number_of}
use Rattle.refusals.specs.declared.Refusal.{Refusal}
use Rattle.refusals.specs.declared.Refusal.TheVariants.{LentTooShort}
use Rattle.std.specs.Prelude.{Result, Ok, Err}
use Rattle.writer.specs.Writing.{FileWritten}
use Rattle.analysis.specs.Deriving.{analysis_words, derivation, DerivationAnswers, FileGiven, Derives}

-- what stands at the start of the output is read back
read_back : (before after file : List ℕ) → length file ≤ length before → after ≡ overlay before 0 file → take (length file) after ≡ file
read_back before after file h e =
    let n = length file in
    ap (take n) e ∙ sym (take-take n n (overlay before 0 file) (omega arith)) ∙ overlay_read file before 0 n (omega arith) (omega arith)

-- ---- a program that is read

module _ (s : List ℕ) (P : Program) (e : read_program s ≡ ok P) where
  same_tables : P.tables ≡ tables_of s
  same_tables = (program_checked s P e).outlined.tables

  then_derived : analysis s ≡ (derived P.code >>= λ S. ok (encode P.tables.fields S))
  unfolding analysis
  then_derived = ap (λ o. o >>= λ Q. derived Q.code >>= λ S. ok (encode Q.tables.fields S)) e

  pub derives_refusal : (k : Refusal) (out : List ℕ) → derived P.code ≡ refused (number_of k) → FileGiven (analysis s) (Err k) out out
  derives_refusal k out d = (then_derived ∙ ap (◌>>= λ S. ok (encode P.tables.fields S)) d, refl)

  module _ (S : Conjuncts) (d : derived P.code ≡ ok S) where
    pub set-formed : All (Formed (types_in (tables_of s).fields)) S
    set-formed = subst (λ (T : Tables). All (Formed (types_in T.fields)) S) same_tables (derived-formed s P S e d)

    is-file : analysis s ≡ ok (encode (tables_of s).fields S)
    is-file =
        then_derived ∙ ap (◌>>= λ R. ok (encode P.tables.fields R)) d ∙ ap (λ (T : Tables). ok (encode T.fields S)) same_tables

    pub derives_file : (n : ℕ) (before after : List ℕ) → condition_bytes ≤ length before → FileWritten (tables_of s).fields S before after n
        → FileGiven (analysis s) (Ok n) before after
    derives_file n before after room w =
        (is-file ∙ ap (λ f. ok f) (sym first), record { most = w.most; whole = ap length first ∙ sym w.end; rest = w.bytes ∙ ap (overlay before 0) (sym first) })
      where
        file : List ℕ
        file = encode (tables_of s).fields S

        first : take n after ≡ file
        first = ap (λ m. take m after) w.end ∙ read_back before after file (omega (arith, w.most, w.end)) w.bytes

-- ---- a program that is not read

-- its rows are refused
pub rows_refusal : (s : List ℕ) (k : Refusal) (out : List ℕ) → read_program s ≡ refused (number_of k) → FileGiven (analysis s) (Err k) out out
unfolding analysis
rows_refusal s k out e = (rw e, refl)

unread_refusal : (s : List ℕ) (k : Refusal) → program_answer (Err k) ≡ mapped (λ O. layout_of s) (read_outline s) → analysis s ≡ refused (number_of k)
unfolding analysis read_program
unread_refusal s k h =
    let n = mapped-refused (λ (O : Outline). layout_of s) (read_outline s) (number_of k) h in
    rw n

-- ---- what is lent

module _ (output scratch : ℕ) (s : List ℕ) where
  pub enough : condition_bytes ≤ output → analysis_words ≤ scratch → analysis s ≡ derivation output scratch s
  unfolding derivation
  enough k h = rw (le-leb condition_bytes output k, le-leb analysis_words scratch h)

  -- a refusal before any work: everything lent is as it was
  pub refused-idle : (k : Refusal) (out words : List ℕ) → derivation output scratch s ≡ refused (number_of k) → Derives (derivation output scratch s) (Err k) out out words words
  refused-idle k out words e =
      record { answer = e; output = refl; scratch = scratch_as_it_was analysis_words wrong_blocks (derivation output scratch s) words }

  pub unread_refused : condition_bytes ≤ output → analysis_words ≤ scratch → (k : Refusal)
      → program_answer (Err k) ≡ mapped (λ O. layout_of s) (read_outline s) → derivation output scratch s ≡ refused (number_of k)
  unread_refused m h k e = sym (enough m h) ∙ unread_refusal s k e

  module _ (out words : List ℕ) where
    pub output-short : output < condition_bytes → Derives (derivation output scratch s) (Err LentTooShort) out out words words
    unfolding derivation
    output-short h = refused-idle LentTooShort out words (rw (lt-leb condition_bytes output h))

    pub scratch-short : condition_bytes ≤ output → scratch < analysis_words → Derives (derivation output scratch s) (Err LentTooShort) out out words words
    unfolding derivation
    scratch-short k h = refused-idle LentTooShort out words (rw (le-leb condition_bytes output k, lt-leb analysis_words scratch h))

    -- the work was done on the documented words
    pub derived-read : condition_bytes ≤ output → analysis_words ≤ scratch → scratch ≡ length words → (O : Outline) → read_outline s ≡ ok O
        → (r : Result ℕ Refusal) (after ys : List ℕ) → FileGiven (analysis s) r out after → length ys ≡ length (take analysis_words words)
        → Derives (derivation output scratch s) r out after words (ys ++ drop analysis_words words)
    derived-read m h l O e r after ys g w =
        let same = enough m h in
        record {
          answer = sym same ∙ g.0;
          output = g.1;
          scratch = scratch-worked analysis_words wrong_blocks (derivation output scratch s)
              (λ n d. listed_refusals_analysis s O e n (same ∙ d)) ys words w (omega arith);
        }

-- ---- demand 1

pub derivation_answers : DerivationAnswers
unfolding derivation
derivation_answers output scratch program =
    lent-answer AnalysisRefusal (leb condition_bytes output && leb analysis_words scratch) (analysis program) (demand1.analysed program)
