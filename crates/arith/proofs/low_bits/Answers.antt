-- `arith::low_bits` meets its contract.
use Rattle.std.proofs.Common.{◌≡◌, ◌+◌, ◌-◌, ◌^◌, arith}
use lib.Bits.{and_mask}
use Rattle.arith.specs.Types.{bits}
use Rattle.arith.proofs.Spans.{span, span_le}
use Rattle.arith.proofs.low_bits.Goals as goal

pub overflow_add-result : goal.overflow_add-result
overflow_add-result c = omega (arith, c.requires.1, span c.requires.0, span_le c.requires.0)

pub returns : goal.returns
returns c = λ ty row.
    let r = c.args.range in
    let e : r.lowest + r.highest ≡ 2 ^ bits ty - 1 = omega (arith, row, span ty) in
    rw e (and_mask c.args.x (bits ty))
