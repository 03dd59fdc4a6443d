-- `conjunct::node::is_load` meets its contract.
use borrow.Author.Tests.{eq-eqb, ne_eqb}
use Rattle.conjunct.proofs.node.Looked.{low_load, at_load}
use Rattle.conjunct.proofs.node.is_load.Goals as goal

pub returns-then-w-lt-LOAD : goal.returns-then-w-lt-LOAD
returns-then-w-lt-LOAD c = low_load c.args.w c.args.array c.args.len c.if-w-lt-LOAD.true

pub returns-then-w-array : goal.returns-then-w-array
returns-then-w-array c =
    rw (
      ← at_load c.args.w c.args.array c.args.len c.if-w-lt-LOAD.false,
      eq-eqb _ _ c.if-w-array.true,
    )

pub returns-else-w-array : goal.returns-else-w-array
returns-else-w-array c =
    rw (
      ← at_load c.args.w c.args.array c.args.len c.if-w-lt-LOAD.false,
      ne_eqb _ _ c.if-w-array.false,
    )
