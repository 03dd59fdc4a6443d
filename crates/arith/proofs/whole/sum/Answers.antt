-- `arith::whole::sum` meets its contract: where the signs differ, by the larger magnitude.
use Rattle.std.proofs.Common.{◌-◌, arith}
use Rattle.arith.proofs.Signs.{opposite, add_lt, add_ge}
use Rattle.arith.proofs.whole.Results.{small}
use Rattle.arith.proofs.whole.sum.Goals as goal

pub returns-then-x-y : goal.returns-then-x-y
returns-then-x-y c =
    let a = c.args.a in
    let b = c.args.b in
    small b.neg (b.mag - a.mag) (omega arith) (rw (opposite a.neg b.neg c.if-s-b.false) (add_lt a.neg a.mag b.mag c.if-x-y.true))

pub returns : goal.returns
returns c =
    let a = c.args.a in
    let b = c.args.b in
    small a.neg (a.mag - b.mag) (omega arith) (rw (opposite a.neg b.neg c.if-s-b.false) (add_ge a.neg a.mag b.mag c.if-x-y.false))
