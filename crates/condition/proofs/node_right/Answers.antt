-- `condition::node_right` meets its contract.
use mathlib.Core.Path.{sym, ◌∙◌}
use native.Mathlib.Omega.{arith}
use borrow.Author.Tests.{le-ltb}
use Rattle.condition.proofs.Nodes.{constant_form, reading-form, operation-form, no_form}
use Rattle.condition.proofs.node_right.Goals as goal

pub returns-in-0 : goal.returns-in-0
returns-in-0 c =
    let g = c.args in
    c.constant_right.ensures ∙ sym (constant_form _ g.v.ty g.v.field g.v.imm g.v.kind c.in-0.is)

pub returns-in-1 : goal.returns-in-1
returns-in-1 c =
    let g = c.args in
    c.reading_right.ensures ∙ sym (reading-form _ g.v.ty g.v.field g.v.imm g.v.kind c.in-1.is)

pub returns-then-kind-lt-FILE_KINDS : goal.returns-then-kind-lt-FILE_KINDS
returns-then-kind-lt-FILE_KINDS c =
    let g = c.args in
    c.operation_right.ensures
    ∙ sym (operation-form _ g.v.ty g.v.field g.v.imm g.v.kind (λ e. absurd (omega arith)) (λ e. absurd (omega arith)) c.if-kind-lt-FILE_KINDS.true)

pub returns-else-kind-lt-FILE_KINDS : goal.returns-else-kind-lt-FILE_KINDS
returns-else-kind-lt-FILE_KINDS c =
    let g = c.args in
    rw (le-ltb _ _ c.if-kind-lt-FILE_KINDS.false) (sym (no_form _ g.v.ty g.v.field g.v.imm g.v.kind c.if-kind-lt-FILE_KINDS.false))
