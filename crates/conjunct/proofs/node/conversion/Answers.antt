-- `conjunct::node::conversion` meets its contract.
use Rattle.conjunct.proofs.node.Made.{made-conversion}
use Rattle.conjunct.proofs.node.conversion.Goals as goal

pub returns : goal.returns
returns c = made-conversion c.args.ty c.requires
