-- `condition::read_node` meets its contract.
use mathlib.Core.Path.{sym, ◌∙◌}
use Rattle.condition.proofs.Nodes.{node-passes, node-fails}
use Rattle.condition.proofs.read_node.Goals as goal

pub returns-then-not-node_right : goal.returns-then-not-node_right
returns-then-not-node_right c =
    let v = c.node_at-v in
    (node-fails _ v.result _ _ v.ensures (sym c.node_right.ensures ∙ c.if-not-node_right.true), tt)

pub returns : goal.returns
returns c =
    let v = c.node_at-v in
    (node-passes _ v.result _ _ v.ensures (sym c.node_right.ensures ∙ c.if-not-node_right.false), v.ensures)
