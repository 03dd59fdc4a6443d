-- `listing::put_count` meets its contract.
use Rattle.listing.proofs.Texts.{puts_first, puts_then, puts_byte}
use Rattle.listing.proofs.put_count.Goals as goal

pub returns : goal.returns
returns c = puts_first (puts_then c.put_decimal-next.ensures (puts_byte 62 _ _))
