-- `sets::at_most` meets its contract.
use Rattle.std.proofs.Common.{◌∙◌, arith}
use Rattle.std.proofs.lemmas.Bool.Decides.{nat_tests}
use Rattle.sets.specs.Region.{few}
use Rattle.sets.proofs.at_most.Goals as goal

pub returns : goal.returns
unfolding few
returns c = (c.min.ensures ∙ grind (arith, nat_tests), omega arith)
