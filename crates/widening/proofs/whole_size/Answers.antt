-- `widening::whole_size` meets its contract.
use mathlib.Core.Path.{◌≡◌, ◌∙◌}
use native.Mathlib.Omega.{arith}
use Rattle.arith.specs.Types.{bits}
use Rattle.arith.proofs.Spans.{bits_le}
use Rattle.widening.proofs.NewFiles.{bits_modulo}
use Rattle.widening.proofs.whole_size.Goals as goal
use Rattle.widening.proofs.whole_size.Goals.{After-range_of-range}

-- the bits of the type's row
row-bits : (c : After-range_of-range) → c.range_of-range.result.bits ≡ bits c.args.ty
row-bits c = c.range_of-range.ensures.width ∙ bits_modulo c.args.ty

pub overflow_cast-result : goal.overflow_cast-result
overflow_cast-result c = omega (arith, row-bits (goal.at.overflow_cast-result c).After-range_of-range, bits_le c.args.ty)

pub overflow_add-result : goal.overflow_add-result
overflow_add-result c = omega (arith, row-bits (goal.at.overflow_add-result c).After-range_of-range, bits_le c.args.ty)

pub returns : goal.returns
returns c = omega (arith, row-bits (goal.at.returns c).After-range_of-range)
