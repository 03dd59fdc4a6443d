-- `listing::put_line` meets its contract.
use native.Mathlib.Omega.{arith}
use Rattle.model.specs.Listing.{line_text}
use Rattle.listing.proofs.Texts.{room-part, room_then, room-first, puts_first, puts_then, puts_byte}
use Rattle.listing.proofs.put_line.Goals as goal

pub put_decimal-colon-requires : goal.put_decimal-colon-requires
unfolding line_text
put_decimal-colon-requires c = room-part _ c.requires

pub returns : goal.returns
unfolding line_text
returns c =
    puts_then c.put_decimal-colon.ensures (puts_first (puts_then c.put_nodes-end.ensures (puts_byte 10 _ _)))

pub bounds-out-colon : goal.bounds-out-colon
unfolding line_text
bounds-out-colon c = omega (arith, (room_then c.requires c.put_decimal-colon.ensures).fits)

pub overflow_add-colon : goal.overflow_add-colon
unfolding line_text
overflow_add-colon c = omega (arith, (room_then c.requires c.put_decimal-colon.ensures).fits)

pub put_nodes-end-requires : goal.put_nodes-end-requires
unfolding line_text
put_nodes-end-requires c = room-part _ (room-first (room_then c.requires c.put_decimal-colon.ensures))

pub bounds-out-end : goal.bounds-out-end
unfolding line_text
bounds-out-end c =
    omega (arith, (room_then (room-first (room_then c.requires c.put_decimal-colon.ensures)) c.put_nodes-end.ensures).fits)

pub overflow_add-result : goal.overflow_add-result
overflow_add-result c = omega (arith, (returns c).end)
