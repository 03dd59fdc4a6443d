-- `walk::switch_branch` meets its contract.
use Rattle.walk.proofs.Regions.{branch_switched}
use Rattle.walk.proofs.switch_branch.Goals as goal

pub returns : goal.returns
returns c =
    branch_switched c.args.s.now c.copy.new.s c.args.b c.requires c.copy.auto.s c.copy-2.new.s c.copy-2.auto.s c.copy.ensures.0 c.copy.ensures.1 c.copy-2.ensures.0
    c.copy-2.ensures.1
