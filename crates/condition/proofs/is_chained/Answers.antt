-- `condition::is_chained` meets its contract.
use mathlib.Core.Path.{sym, ◌∙◌}
use native.Mathlib.Omega.{arith}
use Rattle.condition.proofs.Passes.{chained_off, chained_on, chained-end}
use Rattle.condition.proofs.is_chained.Goals as goal

pub returns-then-offset-next : goal.returns-then-offset-next
returns-then-offset-next c =
    let g = c.args in
    sym (c.loop-i.invariant ∙ chained_off g.condition.now g.at g.count c.loop-i.i c.loop-i.next _ _ (omega arith)
    c.u32_at-offset.ensures.0 c.u32_at-len.ensures.0 _ c.if-offset-next.true)

pub loop-i-preserved : goal.loop-i-preserved
loop-i-preserved c =
    let g = c.args in
    c.loop-i.invariant
    ∙ chained_on g.condition.now g.at g.count c.loop-i.i c.loop-i.next _ _ (omega arith) c.u32_at-offset.ensures.0
    c.u32_at-len.ensures.0 _ c.if-offset-next.false

pub returns : goal.returns
returns c =
    let g = c.args in
    sym (c.loop-i.invariant ∙ chained-end g.condition.now g.at g.count c.loop-i.i c.loop-i.next _ (omega arith))
