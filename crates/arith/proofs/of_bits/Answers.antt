-- `arith::of_bits` meets its contract.
use Rattle.arith.proofs.of_bits.Goals as goal

pub returns : goal.returns
returns c = λ ty row. c.fold.ensures ty _ row c.kept.ensures
