-- `listing::put_decimal` meets its contract.
use mathlib.Core.Path.{◌≡◌, sym, ◌∙◌}
use native.Mathlib.Omega.{arith}
use Rattle.model.specs.Decimal.{decimal}
use Rattle.listing.proofs.Decimals.{written-decimal}
use Rattle.listing.proofs.Texts.{room_as, puts_as}
use Rattle.listing.proofs.put_decimal.Goals as goal
use Rattle.listing.proofs.put_decimal.Goals.{After-as_bytes}

digits_of : (c : After-as_bytes) → c.as_bytes.result.now ≡ decimal c.args.n
digits_of c = c.as_bytes.ensures.value ∙ c.format.ensures.text ∙ written-decimal c.args.n (omega arith)

pub put-requires : goal.put-requires
put-requires c = room_as (sym (digits_of (goal.at.put-requires c).After-as_bytes)) c.requires

pub returns : goal.returns
returns c = puts_as (digits_of (goal.at.returns c).After-as_bytes) c.put.ensures
