-- `conjunct::node::is_variable` meets its contract.
use borrow.Author.Tests.{le-ltb}
use Rattle.conjunct.proofs.node.Looked.{low-variable, high-variable, at-variable}
use Rattle.conjunct.proofs.node.is_variable.Goals as goal

pub returns-then-w-lt-VARIABLE : goal.returns-then-w-lt-VARIABLE
returns-then-w-lt-VARIABLE c = low-variable c.args.w c.args.x c.if-w-lt-VARIABLE.true

pub returns-else-w-lt-LOAD : goal.returns-else-w-lt-LOAD
returns-else-w-lt-LOAD c = rw (le-ltb _ _ c.if-w-lt-LOAD.false) (high-variable c.args.w c.args.x c.if-w-lt-LOAD.false)

pub returns-then-w-lt-LOAD : goal.returns-then-w-lt-LOAD
returns-then-w-lt-LOAD c =
    rw c.turned.ensures.0
    (at-variable c.args.w c.args.x c.if-w-lt-VARIABLE.false c.if-w-lt-LOAD.true)
