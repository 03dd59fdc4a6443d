-- `input::reading_by_row` meets its contract.
use mathlib.Core.Path.{◌∙◌}
use Rattle.input.proofs.Fields.{row-width, read_at}
use Rattle.input.proofs.reading_by_row.Goals as goal

pub returns : goal.returns
returns c = λ ty row.
    let a = c.args in
    c.of_bits.ensures ty row ∙ read_at ty a.part.now a.k _ _ (row-width ty _ row) (c.bits_at.ensures ty row)
