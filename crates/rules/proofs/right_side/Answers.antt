-- `rules::right_side` meets its contract.
use mathlib.Core.Path.{◌∙◌}
use native.Mathlib.Omega.{arith}
use Rattle.rules.proofs.ByKind.{side_number, side_copy, side_calc, side_change, side_read, side_load}
use Rattle.rules.proofs.right_side.Goals as goal

pub returns-in-0 : goal.returns-in-0
returns-in-0 c =
    (c.right.ensures.0, c.right.ensures.1 ∙ rw c.constant.ensures (side_number c.args.d c.args.label c.in-0.is))

pub returns-in-1 : goal.returns-in-1
returns-in-1 c =
    (c.right-in-1.ensures.0, c.right-in-1.ensures.1 ∙ rw c.variable.ensures (side_copy c.args.d c.args.label c.in-1.is))

pub returns-in-2-to-5 : goal.returns-in-2-to-5
returns-in-2-to-5 c =
    let w = c.operation.result in (
      c.right-in-2-to-5.ensures.0,
      c.right-in-2-to-5.ensures.1
          ∙ rw (c.variable-in-2-to-5.ensures, c.variable-in-2-to-5-2.ensures)
          (side_calc c.args.d c.args.label (omega arith) (omega arith) w c.operation.ensures),
    )

pub returns-in-6 : goal.returns-in-6
returns-in-6 c =
    (c.right-in-6.ensures.0, c.right-in-6.ensures.1 ∙ rw (c.variable-in-6.ensures, c.conversion.ensures) (side_change c.args.d c.args.label c.in-6.is))

pub returns-in-7 : goal.returns-in-7
returns-in-7 c =
    (c.right-in-7.ensures.0, c.right-in-7.ensures.1 ∙ rw c.reading.ensures (side_read c.args.d c.args.label c.in-7.is))

pub returns-in_default : goal.returns-in_default
returns-in_default c =
    (c.right-in_default.ensures.0, c.right-in_default.ensures.1 ∙ rw c.load.ensures (side_load c.args.d c.args.label (omega arith)))
