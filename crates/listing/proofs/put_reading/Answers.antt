-- `listing::put_reading` meets its contract.
use Rattle.listing.proofs.Texts.{puts_first, puts_then}
use Rattle.listing.proofs.put_reading.Goals as goal

pub returns : goal.returns
returns c = puts_first (puts_then c.put_decimal-next.ensures c.put_count.ensures)
