-- `conjunct::node::numbered` meets its contract.
use Rattle.conjunct.proofs.node.Made.{made-numbered, key_fits}
use Rattle.conjunct.proofs.node.numbered.Goals as goal

pub overflow_add-result : goal.overflow_add-result
overflow_add-result c =
    rw c.source.ensures (record { fits = key_fits c.args.w c.args.n c.requires.1 c.ranges.w.fits })

pub returns : goal.returns
returns c = rw c.source.ensures (made-numbered c.args.w c.args.n c.requires.0 c.requires.1)
