-- `conjunct::node::operation` meets its contract.
use Rattle.conjunct.proofs.node.Made.{made-operation}
use Rattle.conjunct.proofs.node.operation.Goals as goal

pub returns : goal.returns
returns c = made-operation c.args.kind c.args.ty c.requires.type
