-- `arith::to_word` meets its contract.
use Rattle.std.proofs.Common.{arith}
use Rattle.arith.specs.Words.{word_of}
use Rattle.arith.proofs.Residues.{residue_neg}
use Rattle.arith.proofs.to_word.Goals as goal

pub returns-then-n : goal.returns-then-n
unfolding word_of
returns-then-n c = rw (c.if-n.true, residue_neg) (omega (arith, c.wrapping_neg.ensures))

pub returns : goal.returns
unfolding word_of
returns c = rw c.if-n.false (omega arith)
