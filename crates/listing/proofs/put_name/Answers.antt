-- `listing::put_name` meets its contract. In each arm the name is that of the kind.
use mathlib.Core.Path.{◌≡◌, sym, ap, ◌∙◌}
use mathlib.Core.List.{[], ◌∷◌}
use native.Mathlib.Omega.{arith}
use Rattle.model.specs.Decimal.{number}
use Rattle.model.specs.Listing.{operation_text, atom_text, node_name}
use Rattle.condition.specs.Answers.{node_by, node_from}
use Rattle.listing.proofs.Texts.{room_as, puts_as, name_by, name_last}
use Rattle.listing.proofs.put_name.Goals as goal
use Rattle.listing.proofs.put_name.Goals.{In_default}

last : (c : In_default) → (116 ∷ 111 ∷ []) ≡ node_name (node_from c.args.v)
last c = name_last c.args.v (omega arith)

pub returns-in-0 : goal.returns-in-0
unfolding node_name node_by
returns-in-0 c =
    puts_as (ap number c.immediate.ensures ∙ name_by c.args.v 0 c.in-0.is)
    c.put_number.ensures

pub returns-in-1 : goal.returns-in-1
unfolding node_name node_by atom_text
returns-in-1 c = puts_as (name_by c.args.v 1 c.in-1.is) c.put_reading.ensures

pub returns-in-2 : goal.returns-in-2
unfolding node_name node_by operation_text
returns-in-2 c = puts_as (name_by c.args.v 2 c.in-2.is) c.put.ensures

pub returns-in-3 : goal.returns-in-3
unfolding node_name node_by operation_text
returns-in-3 c = puts_as (name_by c.args.v 3 c.in-3.is) c.put-in-3.ensures

pub returns-in-4 : goal.returns-in-4
unfolding node_name node_by operation_text
returns-in-4 c = puts_as (name_by c.args.v 4 c.in-4.is) c.put-in-4.ensures

pub returns-in-5 : goal.returns-in-5
unfolding node_name node_by operation_text
returns-in-5 c = puts_as (name_by c.args.v 5 c.in-5.is) c.put-in-5.ensures

pub returns-in_default : goal.returns-in_default
returns-in_default c = puts_as (last (goal.at.returns-in_default c).In_default) c.put-in_default.ensures

pub put_number-requires : goal.put_number-requires
unfolding node_name node_by
put_number-requires c =
    room_as (ap number (sym c.immediate.ensures)) (room_as (sym (name_by c.args.v 0 c.in-0.is)) c.requires)

pub put_reading-requires : goal.put_reading-requires
unfolding node_name node_by atom_text
put_reading-requires c = room_as (sym (name_by c.args.v 1 c.in-1.is)) c.requires

pub put-requires : goal.put-requires
unfolding node_name node_by operation_text
put-requires c = room_as (sym (name_by c.args.v 2 c.in-2.is)) c.requires

pub put-requires-in-3 : goal.put-requires-in-3
unfolding node_name node_by operation_text
put-requires-in-3 c = room_as (sym (name_by c.args.v 3 c.in-3.is)) c.requires

pub put-requires-in-4 : goal.put-requires-in-4
unfolding node_name node_by operation_text
put-requires-in-4 c = room_as (sym (name_by c.args.v 4 c.in-4.is)) c.requires

pub put-requires-in-5 : goal.put-requires-in-5
unfolding node_name node_by operation_text
put-requires-in-5 c = room_as (sym (name_by c.args.v 5 c.in-5.is)) c.requires

pub put-requires-in_default : goal.put-requires-in_default
put-requires-in_default c = room_as (sym (last (goal.at.put-requires-in_default c).In_default)) c.requires
