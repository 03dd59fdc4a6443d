-- `arith::immediate` meets its contract.
use Rattle.std.proofs.Common.{le-leb}
use borrow.Author.Tests.{lt-leb}
use Rattle.arith.specs.Types.{signed}
use Rattle.arith.specs.Words.{immediate}
use Rattle.arith.proofs.immediate.Goals as goal

pub returns-then-ty-lt4 : goal.returns-then-ty-lt4
unfolding immediate signed
returns-then-ty-lt4 c = rw (lt-leb 4 c.args.ty c.if-ty-lt4.true) (c.of_bits.ensures 2 c.range_of.ensures)

pub returns : goal.returns
unfolding immediate signed
returns c = rw (le-leb 4 c.args.ty c.if-ty-lt4.false) (c.of_bits-2.ensures 6 c.range_of-2.ensures)
