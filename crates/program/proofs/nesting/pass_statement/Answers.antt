-- `program::nesting::pass_statement` meets its contract.
use mathlib.Core.Path.{ap, ◌∙◌}
use Rattle.model.specs.Refusals.{ok}
use native.Mathlib.Omega.{arith}
use Rattle.model.specs.Procedures.{passing}
use Rattle.program.specs.OpenBlocks.{block_of}
use Rattle.program.proofs.Items.{item_plain, item_if, item_else, item_while, item_procedure, item_call, OtherKind, item_otherwise}
use Rattle.program.proofs.nesting.pass_statement.Goals as goal

pub returns-then-kind-lt-IF : goal.returns-then-kind-lt-IF
unfolding passing
returns-then-kind-lt-IF c = (λ T q e. rw (item_plain T q (omega (arith, e))).1, c.requires.0)

pub returns-in-11 : goal.returns-in-11
unfolding passing block_of
returns-in-11 c = (λ T q e. rw (item_if T q (e ∙ c.in-11.is)) c.open_block.ensures.0, c.open_block.ensures.1)

pub returns-in-12 : goal.returns-in-12
unfolding passing
returns-in-12 c = (λ T q e. rw (item_else T q (e ∙ c.in-12.is)) c.turn_block.ensures.0, c.turn_block.ensures.1)

pub returns-in-14 : goal.returns-in-14
unfolding passing block_of
returns-in-14 c = (λ T q e. rw (item_while T q (e ∙ c.in-14.is)) c.open_block-in-14.ensures.0, c.open_block-in-14.ensures.1)

pub returns-in-15 : goal.returns-in-15
unfolding passing
returns-in-15 c = (λ T q e. rw (item_procedure T q (e ∙ c.in-15.is)) (ap ok c.open_procedure.ensures.0), c.open_procedure.ensures.1)

pub returns-in-16 : goal.returns-in-16
unfolding passing
returns-in-16 c = (λ T q e. rw (item_call T q (e ∙ c.in-16.is)), c.requires.0)

pub returns-in_default : goal.returns-in_default
unfolding passing
returns-in_default c =
    let r : OtherKind c.args.kind = (λ k. omega arith, λ k. omega arith, λ k. omega arith, λ k. omega arith, λ k. omega arith) in
    let closed = c.close_block.ensures in (
      λ T q e.
          rw (item_otherwise T q e (omega arith) r)
          closed.0,
      closed.1,
    )
