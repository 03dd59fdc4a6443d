-- `arith::overflowed` meets its contract.
use Rattle.arith.proofs.Held.{fits-held}
use Rattle.arith.proofs.overflowed.Goals as goal

pub returns : goal.returns
returns c = λ ty z row h.
    rw (← c.lacks.ensures, c.if-lacks.false, fits-held ty _ h, ← c.limit-l.ensures ty row, c.within.ensures z h)
