-- `input::limits_of` meets its contract.
use native.Mathlib.Omega.{arith}
use Rattle.input.proofs.Narrow.{unsigned_limits, signed-limits, half_of_none}
use Rattle.input.proofs.limits_of.Goals as goal

pub returns-then-ty-lt-SIGNED : goal.returns-then-ty-lt-SIGNED
returns-then-ty-lt-SIGNED c =
    let g = c.args in
    let l = unsigned_limits g.ty g.bits c.if-ty-lt-SIGNED.true in
    record { depth = omega (arith, l.0); height = omega (arith, l.1, c.power-high.ensures.0) }

pub returns-then-bits-eq0 : goal.returns-then-bits-eq0
returns-then-bits-eq0 c =
    let g = c.args in
    let l = signed-limits g.ty g.bits c.if-ty-lt-SIGNED.false in
    let one = half_of_none g.bits c.if-bits-eq0.true in
    record { depth = omega (arith, l.0, one); height = omega (arith, l.1, one) }

pub returns : goal.returns
returns c =
    let g = c.args in
    let l = signed-limits g.ty g.bits c.if-ty-lt-SIGNED.false in
    record { depth = omega (arith, l.0, c.power-half.ensures.0); height = omega (arith, l.1, c.power-half.ensures.0) }
