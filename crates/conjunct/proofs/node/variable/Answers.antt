-- `conjunct::node::variable` meets its contract.
use Rattle.conjunct.proofs.node.Made.{made-variable}
use Rattle.conjunct.proofs.node.variable.Goals as goal

pub returns : goal.returns
returns c = rw c.turned.ensures.0 (made-variable c.args.x c.args.ty c.requires.0 c.requires.1)
