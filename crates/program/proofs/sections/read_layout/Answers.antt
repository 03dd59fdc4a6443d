-- `program::sections::read_layout` meets its contract.
use borrow.Author.Tests.{eq-eqb}
use Rattle.model.specs.Program.{layout_of}
use Rattle.program.proofs.sections.read_layout.Goals as goal

pub returns : goal.returns
unfolding layout_of
returns c =
    let statements = c.pair_at-statements.ensures in
    let arrays = c.pair_at-arrays.ensures in
    let variables = c.pair_at-variables.ensures in
    let fields = c.pair_at-fields.ensures in
    rw (
      ← fields.offset,
      ← fields.length,
      ← variables.offset,
      ← variables.length,
      ← arrays.offset,
      ← arrays.length,
      ← statements.offset,
      ← statements.length,
      eq-eqb _ _ c.if-fields-entry-ne0.false,
      eq-eqb _ _ c.if-arrays-ne0.false,
      eq-eqb _ _ c.if-statements-ne0.false,
    )
