-- `conjunct::node::constant` meets its contract.
use Rattle.conjunct.proofs.node.Made.{made_constant}
use Rattle.conjunct.proofs.node.constant.Goals as goal

pub returns : goal.returns
returns c = rw c.turned.ensures.0 (made_constant c.args.ty c.args.imm c.requires.0 c.requires.1)
