-- `listing::put_type` meets its contract. Two bytes stand before the number of bits.
use mathlib.Core.Path.{◌≡◌, sym}
use native.Mathlib.Omega.{arith}
use lib.ListN.{length-set}
use mathlib.Core.List.{◌∷◌}
use Rattle.model.specs.Decimal.{decimal}
use Rattle.model.specs.Listing.{type_text_lem}
use Rattle.listing.proofs.Texts.{room_as, room-first, puts_first, puts_as, type_text}
use borrow.Author.Rules.{rules}
use Rattle.listing.proofs.put_type.Goals as goal
use Rattle.listing.proofs.put_type.Goals.{After-range_of-range}

by_parts : (c : After-range_of-range) → (58 ∷ c.letter.result ∷ decimal c.range_of-range.result.bits) ≡ type_text_lem c.args.ty
by_parts c = type_text c.args.ty _ _ c.letter.ensures c.range_of-range.ensures.width

pub returns : goal.returns
returns c = puts_as (by_parts (goal.at.returns c).After-range_of-range) (puts_first (puts_first c.put_decimal.ensures))

pub bounds-out-at : goal.bounds-out-at
unfolding type_text_lem
bounds-out-at c = search rules

pub bounds-out-next : goal.bounds-out-next
unfolding type_text_lem
bounds-out-next c = simp length-set (omega arith)

pub put_decimal-requires : goal.put_decimal-requires
put_decimal-requires c = room-first (room-first (room_as (sym (by_parts (goal.at.put_decimal-requires c).After-range_of-range)) c.requires))
