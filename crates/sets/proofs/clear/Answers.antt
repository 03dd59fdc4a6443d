-- `sets::clear` meets its contract.
use native.Mathlib.Omega.{arith}
use Rattle.sets.proofs.Rows.{cleared}
use Rattle.sets.proofs.clear.Goals as goal

pub returns : goal.returns
returns c = cleared c.args.s.now c.args.base (omega arith)
