-- `conjunct::node::same_variable` meets its contract.
use Rattle.conjunct.proofs.node.SameVariable.{same-variable}
use Rattle.conjunct.proofs.node.same_variable.Goals as goal

pub returns : goal.returns
returns c = λ x ty is. rw (c.untyped.ensures, c.untyped-2.ensures) (same-variable c.args.w c.args.v x ty is)
