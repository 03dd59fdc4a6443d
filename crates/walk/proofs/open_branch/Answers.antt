-- `walk::open_branch` meets its contract.
use Rattle.walk.proofs.Regions.{branch-opened}
use Rattle.walk.proofs.open_branch.Goals as goal

pub returns : goal.returns
returns c =
    branch-opened c.args.s.now c.copy.new.s c.args.b c.requires c.copy.auto.s c.copy.ensures.0 c.copy.ensures.1
