-- `listing::put_refusal` meets its contract.
use native.Mathlib.Omega.{arith}
use mathlib.Core.List.{[], ◌∷◌}
use Rattle.model.specs.Listing.{refusal_text}
use Rattle.listing.specs.Text.{Room}
use Rattle.listing.proofs.Texts.{room-part, room_then, puts_then, puts_byte}
use Rattle.listing.proofs.Sizes.{room_refusal}
use Rattle.listing.proofs.put_refusal.Goals as goal
use Rattle.listing.proofs.put_refusal.Goals.{After-put_decimal-end}

after-number : (c : After-put_decimal-end) → Room (10 ∷ []) c.put_decimal-end.result c.put_decimal-end.new.out
unfolding refusal_text
after-number c =
    room_then (room_then (room_refusal _ c.args.out.now c.requires) c.put-first.ensures) c.put_decimal-end.ensures

pub returns : goal.returns
unfolding refusal_text
returns c =
    puts_then c.put-first.ensures (puts_then c.put_decimal-end.ensures (puts_byte 10 _ _))

pub put_decimal-end-requires : goal.put_decimal-end-requires
unfolding refusal_text
put_decimal-end-requires c =
    room-part _ (room_then (room_refusal _ c.args.out.now c.requires) c.put-first.ensures)

pub bounds-out-end : goal.bounds-out-end
bounds-out-end c = omega (arith, (after-number (goal.at.bounds-out-end c).After-put_decimal-end).fits)

pub overflow_add-result : goal.overflow_add-result
overflow_add-result c = omega (arith, (after-number (goal.at.overflow_add-result c).After-put_decimal-end).fits)
