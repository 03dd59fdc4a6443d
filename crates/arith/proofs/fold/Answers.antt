-- `arith::fold` meets its contract.
use Rattle.std.proofs.Common.{mod-lt, arith, pow_pos}
use Rattle.arith.specs.Types.{bits}
use Rattle.arith.proofs.Spans.{span, span_le}
use Rattle.arith.proofs.Held.{fold_in, fold_out}
use Rattle.arith.proofs.fold.Goals as goal

pub returns-then-x-l : goal.returns-then-x-l
returns-then-x-l c = λ ty z row h.
    fold_in ty _ h c.low_bits-x.result (c.low_bits-x.ensures ty row) (omega (arith, c.limit-l.ensures ty row))

pub overflow_add-result : goal.overflow_add-result
overflow_add-result c = let p = c.requires in omega (arith, p.1, span p.0, span_le p.0)

pub overflow_sub-result : goal.overflow_sub-result
overflow_sub-result c =
    let p = c.requires in
    omega (arith, p.1, span p.0, rw (← c.low_bits-x.ensures p.0 p.1) at (mod-lt c.args.w.low (pow_pos (bits p.0))))

pub returns : goal.returns
returns c = λ ty z row h.
    rw (row.low, row.high)
    (fold_out ty _ h c.low_bits-x.result (c.low_bits-x.ensures ty row) (omega (arith, c.limit-l.ensures ty row)))
