-- `conjunct::node::load` meets its contract.
use Rattle.conjunct.proofs.node.Made.{made-load}
use Rattle.conjunct.proofs.node.load.Goals as goal

pub returns : goal.returns
returns c = made-load c.args.label c.args.array c.args.len c.args.ty c.requires.label c.requires.array c.requires.len c.requires.type
