-- `input::width_of` meets its contract.
use native.Mathlib.Omega.{arith}
use Rattle.input.proofs.Fields.{row-width, some-width, width_le}
use Rattle.input.proofs.width_of.Goals as goal

pub returns : goal.returns
returns c =
    let t = c.args.ty in
    let w = row-width t _ c.row_of.ensures in
    record { is = w; some = omega (arith, w, some-width t); few = omega (arith, w, width_le t) }
