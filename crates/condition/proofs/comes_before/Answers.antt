-- `condition::comes_before` meets its contract.
use mathlib.Core.Path.{refl, sym, ◌∙◌, ap}
use native.Mathlib.Omega.{arith}
use lib.ListN.{length}
use Rattle.model.specs.Condition.{is_before}
use Rattle.model.proofs.Conjuncts.Order.{compare_same}
use Rattle.condition.proofs.Orders.{numbers_less, numbers_more, numbers_on, numbers_end}
use Rattle.condition.proofs.comes_before.Goals as goal

pub loop-i-init : goal.loop-i-init
loop-i-init c = (omega arith, refl)

pub returns-then-x-y : goal.returns-then-x-y
returns-then-x-y c =
    let g = c.args in
    let l = c.loop-i in
    rw (compare_same (length g.a.now) (length g.b.now) l.invariant.0)
    (sym (ap is_before (l.invariant.1 ∙ numbers_less g.a.now g.b.now l.i (omega arith) (omega arith) c.if-x-y.true)))

pub returns-then-y-x : goal.returns-then-y-x
returns-then-y-x c =
    let g = c.args in
    let l = c.loop-i in
    rw (compare_same (length g.a.now) (length g.b.now) l.invariant.0)
    (sym (ap is_before (l.invariant.1 ∙ numbers_more g.a.now g.b.now l.i (omega arith) (omega arith) c.if-y-x.true)))

pub loop-i-preserved : goal.loop-i-preserved
loop-i-preserved c =
    let g = c.args in
    let l = c.loop-i in (
      l.invariant.0,
      l.invariant.1 ∙ numbers_on g.a.now g.b.now l.i (omega arith) (omega arith) c.if-y-x.false c.if-x-y.false,
    )

pub returns : goal.returns
returns c =
    let g = c.args in
    let l = c.loop-i in
    rw (compare_same (length g.a.now) (length g.b.now) l.invariant.0)
    (sym (ap is_before (l.invariant.1 ∙ numbers_end g.a.now g.b.now l.i (omega arith) (omega arith))))
