-- `conjunct::node::is_atom` meets its contract.
use borrow.Author.Tests.{lt-ltb, le-ltb}
use Rattle.conjunct.specs.Word.{is_atom_lem}
use Rattle.conjunct.proofs.node.is_atom.Goals as goal

pub returns-then-w-lt-SUM : goal.returns-then-w-lt-SUM
unfolding is_atom_lem
returns-then-w-lt-SUM c = rw (lt-ltb _ _ c.if-w-lt-SUM.true)

pub returns-else-w-lt-SUM : goal.returns-else-w-lt-SUM
unfolding is_atom_lem
returns-else-w-lt-SUM c = rw (le-ltb _ _ c.if-w-lt-SUM.false)
