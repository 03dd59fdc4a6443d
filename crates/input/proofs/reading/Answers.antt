-- `input::reading` meets its contract.
use Rattle.input.proofs.Fields.{row-width}
use Rattle.input.proofs.reading.Goals as goal

pub reading_by_row-requires : goal.reading_by_row-requires
reading_by_row-requires c = ((_, c.step_range.ensures), rw (row-width _ _ c.step_range.ensures) c.requires.1)
