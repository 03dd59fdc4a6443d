-- `listing::put_node` meets its contract.
use mathlib.Core.Path.{sym}
use Rattle.listing.proofs.Texts.{room_as, room-part, room_then, room-first, puts_as, puts_first, puts_then, node_text}
use Rattle.model.specs.Listing.{node_text_lem}
use borrow.Author.Rules.{rules}
use Rattle.listing.proofs.put_node.Goals as goal

pub returns : goal.returns
returns c = puts_as (node_text c.args.v) (puts_first (puts_then c.put_name-next.ensures c.put_type.ensures))

pub bounds-out-at : goal.bounds-out-at
unfolding node_text_lem
bounds-out-at c = search rules

pub put_name-next-requires : goal.put_name-next-requires
put_name-next-requires c = room-part _ (room-first (room_as (sym (node_text c.args.v)) c.requires))

pub put_type-requires : goal.put_type-requires
put_type-requires c =
    room_then (room-first (room_as (sym (node_text c.args.v)) c.requires)) c.put_name-next.ensures
