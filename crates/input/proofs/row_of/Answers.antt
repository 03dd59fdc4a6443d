-- `input::row_of` meets its contract.
use Rattle.input.proofs.Narrow.{signed-row}
use Rattle.input.proofs.row_of.Goals as goal

pub returns : goal.returns
returns c = signed-row c.args.ty _ c.if-ty-lt-SIGNED.false c.step_range-2.ensures
