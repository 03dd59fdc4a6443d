-- `listing::put_conjuncts` meets its contract.
use mathlib.Core.Path.{◌≡◌, sym}
use mathlib.Core.List.{List, ◌∷◌, ◌++◌}
use native.Mathlib.Omega.{arith}
use Prim.Native.Nat.{ℕ}
use Rattle.model.specs.Decimal.{decimal}
use Rattle.model.specs.Listing.{lines_from, listing_text}
use Rattle.condition.specs.Answers.{conjuncts_of}
use Rattle.listing.specs.Text.{Room}
use Rattle.listing.proofs.Texts.{room_as, room-part, room_then, room-first, puts_as, puts_first, puts_then, name_text, listing_by}
use Rattle.listing.proofs.Sizes.{room-listing}
use Rattle.listing.proofs.put_conjuncts.Goals as goal
use Rattle.listing.proofs.put_conjuncts.Goals.{After-put_decimal-end, After-conjuncts-n}

-- the text by its parts, and the room for it
abbrev parts : After-conjuncts-n → List ℕ
parts c = name_text ++ (decimal c.conjuncts-n.result ++ (10 ∷ lines_from 0 (conjuncts_of c.args.condition.now)))

text : (c : After-conjuncts-n) → parts c ≡ listing_text (conjuncts_of c.args.condition.now)
text c = listing_by (conjuncts_of c.args.condition.now) _ c.conjuncts-n.ensures.many

room : (c : After-conjuncts-n) → Room (parts c) 0 c.args.out.now
room c = room_as (sym (text c)) (room-listing c.args.condition.now c.conjuncts-n.ensures.read c.args.out.now c.requires)

after-number : (c : After-put_decimal-end)
    → Room (10 ∷ lines_from 0 (conjuncts_of c.args.condition.now)) c.put_decimal-end.result c.put_decimal-end.new.out
after-number c = room_then (room_then (room (goal.at.After-put_decimal-end c).After-conjuncts-n) c.put-first.ensures) c.put_decimal-end.ensures

pub returns : goal.returns
returns c =
    puts_as (text (goal.at.returns c).After-conjuncts-n)
    (puts_then c.put-first.ensures (puts_then c.put_decimal-end.ensures (puts_first c.put_lines.ensures)))

pub put_decimal-end-requires : goal.put_decimal-end-requires
put_decimal-end-requires c = room-part _ (room_then (room (goal.at.put_decimal-end-requires c).After-conjuncts-n) c.put-first.ensures)

pub bounds-out-end : goal.bounds-out-end
bounds-out-end c = omega (arith, (after-number (goal.at.bounds-out-end c).After-put_decimal-end).fits)

pub overflow_add-end : goal.overflow_add-end
overflow_add-end c = omega (arith, (after-number (goal.at.overflow_add-end c).After-put_decimal-end).fits)

pub put_lines-requires : goal.put_lines-requires
put_lines-requires c = room-first (after-number (goal.at.put_lines-requires c).After-put_decimal-end)
