-- `widening::convert` meets its contract.
use mathlib.Core.Path.{◌≡◌, sym, subst, ◌∙◌}
use mathlib.Core.Bool.{true, false}
use native.Mathlib.Omega.{arith}
use lib.ListN.{length}
use Rattle.model.specs.OldForm.{most_old, old_field_size, convert as renewed}
use Rattle.model.specs.Program.{sections_in}
use Rattle.model.proofs.Files.OldForms.{old_sections}
use Rattle.code_table.specs.Table.{table_words}
use Rattle.widening.specs.Converting.{conversion, Converts}
use Rattle.widening.proofs.Answers.{unchanged, output-short, scratch-short, lent_enough, sections_wrong, fields-many}
use Rattle.widening.proofs.convert.Goals as goal
use Rattle.widening.proofs.convert.Goals.{Else-not-old_sections_right, Else-scratch-lt-SCRATCH}
use Rattle.widening.proofs.convert.Goals.{then-output-lt-PROGRAM-via-then-output-lt-PROGRAM, then-output-lt-PROGRAM-via-else-output-lt-PROGRAM+then-scratch-lt-SCRATCH}

-- the section table is right
right : (c : Else-not-old_sections_right) → sections_in most_old old_field_size c.args.old.now ≡ true
right c = sym c.old_sections_right.ensures ∙ c.if-not-old_sections_right.false

-- what is lent is enough
enough : (c : Else-scratch-lt-SCRATCH) → let a = c.args in
    conversion table_words (length a.output.now) (length a.scratch.now) a.old.now ≡ renewed a.old.now
enough c = let a = c.args in lent_enough (length a.output.now) (length a.scratch.now) a.old.now c.if-output-lt-PROGRAM.false c.if-scratch-lt-SCRATCH.false

-- ---- the answers
pub returns-then-output-lt-PROGRAM : goal.returns-then-output-lt-PROGRAM
returns-then-output-lt-PROGRAM c =
    let a = c.args in
    let n = length a.output.now in
    let m = length a.scratch.now in
    unchanged _ _ a.output.now a.scratch.now
    (elim c.then-output-lt-PROGRAM.branch [
      | then-output-lt-PROGRAM-via-then-output-lt-PROGRAM w ↦ output-short n m a.old.now w.if-output-lt-PROGRAM.true
      | then-output-lt-PROGRAM-via-else-output-lt-PROGRAM+then-scratch-lt-SCRATCH w ↦
          scratch-short n m a.old.now w.if-output-lt-PROGRAM.false w.if-scratch-lt-SCRATCH.true
    ])

pub returns-then-not-old_sections_right : goal.returns-then-not-old_sections_right
returns-then-not-old_sections_right c =
    let a = c.args in
    let wrong : sections_in most_old old_field_size a.old.now ≡ false = sym c.old_sections_right.ensures ∙ c.if-not-old_sections_right.true in
    unchanged _ _ a.output.now a.scratch.now (enough (goal.at.returns-then-not-old_sections_right c).Else-scratch-lt-SCRATCH ∙ sections_wrong a.old.now wrong)

pub u32_at-count-requires : goal.u32_at-count-requires
u32_at-count-requires c = let a = c.args in omega (arith, (old_sections a.old.now (right c)).table)

pub returns-then-count-gt-MOST_FIELDS : goal.returns-then-count-gt-MOST_FIELDS
returns-then-count-gt-MOST_FIELDS c =
    let a = c.args in
    unchanged _ _ a.output.now a.scratch.now
    (enough (goal.at.returns-then-count-gt-MOST_FIELDS c).Else-scratch-lt-SCRATCH ∙ fields-many a.old.now (right (goal.at.returns-then-count-gt-MOST_FIELDS c).Else-not-old_sections_right) (omega (arith, c.if-count-gt-MOST_FIELDS.true, c.u32_at-count.ensures.0)))

pub returns : goal.returns
returns c =
    let a = c.args in
    subst (λ file. Converts file c.convert_few.result a.output.now c.convert_few.new.output a.scratch.now c.convert_few.new.scratch)
    (sym (enough (goal.at.returns c).Else-scratch-lt-SCRATCH)) c.convert_few.ensures
