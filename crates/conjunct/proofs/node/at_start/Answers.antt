-- `conjunct::node::at_start` meets its contract.
use Rattle.conjunct.proofs.node.Looked.{start-low, start-variable, start-load}
use Rattle.conjunct.proofs.node.at_start.Goals as goal

pub returns-then-w-lt-VARIABLE : goal.returns-then-w-lt-VARIABLE
returns-then-w-lt-VARIABLE c = start-low c.args.w c.if-w-lt-VARIABLE.true

pub returns-then-w-lt-LOAD : goal.returns-then-w-lt-LOAD
returns-then-w-lt-LOAD c = start-variable c.args.w c.if-w-lt-VARIABLE.false c.if-w-lt-LOAD.true

pub returns : goal.returns
returns c = start-load c.args.w c.if-w-lt-LOAD.false c.ranges.w.fits
