-- The converter's answers, from those of the reader and the inliner.
use mathlib.Core.Path.{◌≡◌, refl, sym, ap, subst, ◌∙◌}
use mathlib.Core.Bool.{true, false, ◌&&◌}
use mathlib.Core.List.{List, ◌++◌}
use Prim.Native.Nat.{ℕ, ◌≤◌, ◌<◌}
use native.Mathlib.Omega.{arith}
use lib.Dec.{leb}
use lib.ListN.{length, take, drop, length-map}
use borrow.Author.Tests.{le-leb, lt-leb}
use Rattle.model.specs.Sizes.{most_program, most_fields}
use Rattle.model.specs.Refusals.{Out, ok, refused, ◌>>=◌, mapped, lent_too_short, wrong_sections, too_many_entries, wrong_blocks}
use Rattle.model.specs.Fields.{whole_field}
use Rattle.model.specs.Program.{Outline, tables_with, sections_in, counts_right_lem, read_outline, read_program, layout_of}
use Rattle.model.specs.OldForm.{most_old, old_field_size, old_count, old_tables, old_fields, read_old, new_form, convert}
use Rattle.model.specs.Condition.{analysis}
use Rattle.model.specs.Demands.{OldRefusal}
use Rattle.model.specs.Lent.{left_by}
use Rattle.model.proofs.RefusalNumbers.{listed_refusals_analysis}
use Rattle.model.proofs.Basics.Results.{mapped-refused, refused-ok}
use Rattle.model.proofs.Conversions.{conversion as law}
use Rattle.model.proofs.Demand1.{lent-answer}
use Rattle.model.proofs.Files.Lent.{scratch_as_it_was, scratch-worked}
use Rattle.model.proofs.Files.OldForms.{old_sections, new-program}
use Rattle.bytes_le.specs.Overlay.{overlay}
use Rattle.code_table.specs.Table.{table_words}
use Rattle.std.specs.Prelude.{Result, Err}
use Rattle.refusals.specs.Answers.{number_of}
use Rattle.refusals.specs.declared.Refusal.{Refusal}
use Rattle.widening.specs.Converting.{conversion, ConversionAnswers, Converts, Copied, OldTable}
use Rattle.widening.proofs.NewFiles.{old_types, count-types}

-- demand 1
pub conversion_answers : ConversionAnswers
unfolding conversion
conversion_answers words output scratch old =
    lent-answer OldRefusal (leb most_program output && leb words scratch) (convert old) (law.answered old)

-- ---- check 2, and 3 of the fields

pub sections_wrong : (old : List ℕ) → sections_in most_old old_field_size old ≡ false → convert old ≡ refused wrong_sections
unfolding convert read_old
sections_wrong old e = rw e

pub fields-many : (old : List ℕ) → sections_in most_old old_field_size old ≡ true → most_fields < old_count old → convert old ≡ refused too_many_entries
unfolding convert read_old old_tables tables_with counts_right_lem
fields-many old e h =
    let o = old_sections old e in
    let many : length (old_fields old) ≡ old_count old = length-map (old_types old) whole_field ∙ count-types old o in
    rw (e, many, lt-leb (old_count old) most_fields h)

-- ---- the other checks, of the new file

module _ (old : List ℕ) (count : ℕ) (t : OldTable old count) where
  same : read_program (new_form old) ≡ read_old old
  same = new-program old t.sections (omega (arith, t.few, t.is))

  pub program-refused : (k : ℕ) → read_program (new_form old) ≡ refused k → convert old ≡ refused k
  unfolding convert
  program-refused k e = ap (◌>>= λ P. ok (new_form old)) (sym same ∙ e)

  pub listing-refused : (k : ℕ) → refused k ≡ mapped (λ O. layout_of (new_form old)) (read_outline (new_form old)) → convert old ≡ refused k
  unfolding read_program
  listing-refused k h =
      let z = mapped-refused (λ (O : Outline). layout_of (new_form old)) (read_outline (new_form old)) k h in
      program-refused k (rw z)

-- ---- the whole

-- what a result is followed by, where that is always the same
mapped-same : {A : Type 0} (o : Out A) (w : List ℕ) → mapped length (o >>= λ a. ok w) ≡ mapped (λ a. length w) o
mapped-same (ok a) w = refl
mapped-same (refused n) w = refl

left-same : {A : Type 0} (o : Out A) (w before : List ℕ) → left_by (λ f. overlay before 0 f) (o >>= λ a. ok w) before ≡ left_by (λ a. overlay before 0 w) o before
left-same (ok a) w before = refl
left-same (refused n) w before = refl

refused-same : {A : Type 0} (o : Out A) (w : List ℕ) (n : ℕ) → (o >>= λ a. ok w) ≡ refused n → o ≡ refused n
refused-same (ok a) w n e = absurd (refused-ok n w (sym e))
refused-same (refused m) w n e = cc

-- a refusal leaves everything as it was
pub unchanged : (file : Out (List ℕ)) (k : Refusal) (output scratch : List ℕ) → file ≡ refused (number_of k)
    → Converts file (Err k) output output scratch scratch
unchanged file k output scratch e = record { answer = rw e; output = rw e; scratch = scratch_as_it_was table_words wrong_blocks file scratch }

module _ (old : List ℕ) (count : ℕ) (t : OldTable old count) (new : List ℕ) (is : new ≡ new_form old) where
  by_new : convert old ≡ (read_program new >>= λ P. ok new)
  unfolding convert
  by_new = ap (◌>>= λ P. ok (new_form old)) (sym (same old count t)) ∙ ap (λ w. read_program w >>= λ P. ok w) (sym is)

  pub new-refused : (k : Refusal) (output scratch : List ℕ) → refused (number_of k) ≡ mapped (λ O. layout_of new) (read_outline new)
      → Converts (convert old) (Err k) output output scratch scratch
  new-refused k output scratch h =
      unchanged (convert old) k output scratch
      (listing-refused old count t (number_of k) (subst (λ w. refused (number_of k) ≡ mapped (λ O. layout_of w) (read_outline w)) is h))

  -- a listed file is refused late
  late : (O : Outline) → read_outline new ≡ ok O → (n : ℕ) → convert old ≡ refused n → wrong_blocks < n
  unfolding analysis
  late O listed n e =
      let program = refused-same (read_program new) new n (sym by_new ∙ e) in
      listed_refusals_analysis new O listed n (rw program)

  pub new_copied : (O : Outline) → read_outline new ≡ ok O → (r : Result ℕ Refusal) (output output' ys scratch : List ℕ) → Copied new r output output'
      → length ys ≡ length (take table_words scratch) → table_words ≤ length scratch
      → Converts (convert old) r output output' scratch (ys ++ drop table_words scratch)
  new_copied O listed r output output' ys scratch c l w = record {
    answer = c.answer ∙ sym (ap (mapped length) by_new ∙ mapped-same (read_program new) new);
    output = c.output ∙ sym (ap (λ o. left_by (λ f. overlay output 0 f) o output) by_new ∙ left-same (read_program new) new output);
    scratch = scratch-worked table_words wrong_blocks (convert old) (late O listed) ys scratch l w;
  }

-- ---- what is lent

module _ (output scratch : ℕ) (old : List ℕ) where
  pub output-short : output < most_program → conversion table_words output scratch old ≡ refused lent_too_short
  unfolding conversion
  output-short h = rw (lt-leb most_program output h)

  module _ (o : most_program ≤ output) where
    pub scratch-short : scratch < table_words → conversion table_words output scratch old ≡ refused lent_too_short
    unfolding conversion
    scratch-short h = rw (le-leb most_program output o, lt-leb table_words scratch h)

    pub lent_enough : table_words ≤ scratch → conversion table_words output scratch old ≡ convert old
    unfolding conversion
    lent_enough h = rw (le-leb most_program output o, le-leb table_words scratch h)
