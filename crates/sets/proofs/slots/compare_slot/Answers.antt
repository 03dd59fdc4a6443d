-- `sets::slots::compare_slot` meets its contract.
use mathlib.Core.Path.{◌∙◌}
use native.Mathlib.Omega.{arith}
use Rattle.sets.proofs.slots.Words.{slot-order}
use Rattle.sets.proofs.slots.compare_slot.Goals as goal

pub returns : goal.returns
returns c =
    let a = c.args in
    let cap = c.capped-n in
    c.order_at.ensures ∙ slot-order a.w.now a.s.now a.m a.a cap.result (omega arith) (omega arith) (omega arith) cap.ensures.1
