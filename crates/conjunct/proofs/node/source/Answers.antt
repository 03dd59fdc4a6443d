-- `conjunct::node::source` meets its contract.
use borrow.Author.Tests.{lt-ltb, le-ltb}
use Rattle.conjunct.specs.Word.{key_of}
use Rattle.conjunct.proofs.node.source.Goals as goal

pub returns-then-w-lt-SUM : goal.returns-then-w-lt-SUM
unfolding key_of
returns-then-w-lt-SUM c = rw (lt-ltb _ _ c.if-w-lt-SUM.true)

pub returns : goal.returns
unfolding key_of
returns c = rw (le-ltb _ _ c.if-w-lt-SUM.false)
