-- `conjunct::node::reading` meets its contract.
use Rattle.conjunct.proofs.node.Made.{made-reading}
use Rattle.conjunct.proofs.node.reading.Goals as goal

pub returns : goal.returns
returns c = made-reading c.args.f c.args.ty c.requires.0 c.requires.1
