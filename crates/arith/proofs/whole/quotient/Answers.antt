-- `arith::whole::quotient` meets its contract.
use Rattle.std.proofs.Common.{◌/◌, lt_of_le_of_lt, div-le_self, arith, rules}
use Rattle.arith.proofs.Signs.{unlike, quot_sign}
use Rattle.arith.proofs.whole.Results.{small}
use Rattle.arith.proofs.whole.quotient.Goals as goal

pub returns : goal.returns
returns c =
    let a = c.args.a in
    let b = c.args.b in
    small (unlike a.neg b.neg) (a.mag / b.mag) (lt_of_le_of_lt (div-le_self a.mag b.mag) (search rules))
    (quot_sign a.neg b.neg a.mag b.mag (omega arith))
