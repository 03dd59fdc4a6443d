-- `input::is_between` meets its contract.
use mathlib.Core.Bool.{true, false}
use Rattle.input.proofs.Narrow.{in_bits}
use Rattle.input.proofs.is_between.Goals as goal

pub returns-then-n : goal.returns-then-n
returns-then-n c = λ F are.
    let n = c.args.n in
    rw (c.if-n.true, in_bits F true n.mag, are.depth)

pub returns : goal.returns
returns c = λ F are.
    let n = c.args.n in
    rw (c.if-n.false, in_bits F false n.mag, are.height)
