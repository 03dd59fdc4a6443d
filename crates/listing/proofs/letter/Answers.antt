-- `listing::letter` meets its contract.
use native.Mathlib.Omega.{arith}
use borrow.Author.Tests.{lt-leb, le-leb}
use Rattle.arith.specs.Types.{signed}
use Rattle.listing.proofs.letter.Goals as goal

pub returns-then-ty-lt4 : goal.returns-then-ty-lt4
unfolding signed
returns-then-ty-lt4 c = rw (lt-leb 4 c.args.ty (omega arith))

pub returns-else-ty-lt4 : goal.returns-else-ty-lt4
unfolding signed
returns-else-ty-lt4 c = rw (le-leb 4 c.args.ty (omega arith))
