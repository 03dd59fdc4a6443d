-- `listing::text` meets its contract.
use mathlib.Core.Path.{◌≡◌, sym, ap, ◌∙◌}
use borrow.Author.Tests.{le-leb, lt-leb}
use Rattle.model.specs.Listing.{listing, listing_text, refusal_text}
use Rattle.condition.specs.Answers.{conjuncts_of}
use Rattle.condition.proofs.Table.{bytes-are}
use Rattle.refusals.specs.Answers.{number_of}
use Rattle.listing.specs.Text.{text_most, listed}
use Rattle.listing.proofs.Texts.{lists, lists_none, room_as, puts_as}
use Rattle.listing.proofs.Sizes.{room-listing, room_refusal, listing-read, listing-refused}
use Rattle.listing.proofs.text.Goals as goal
use Rattle.listing.proofs.text.Goals.{In-Ok}

-- the listing is that of the conjuncts of what is read
read-text : (c : In-Ok) → listing_text (conjuncts_of c.in-Ok.condition) ≡ listing c.args.condition.now
read-text c =
    let b = bytes-are c.args.condition.now c.in-Ok.condition c.in-Ok.ensures.bytes in
    ap (λ s. listing_text (conjuncts_of s)) b.0 ∙ sym (listing-read c.args.condition.now b.1)

pub returns-then-out-lt-TEXT : goal.returns-then-out-lt-TEXT
unfolding listed
returns-then-out-lt-TEXT c = rw (lt-leb text_most _ c.if-out-lt-TEXT.true) (lists_none _)

pub returns-in-Ok : goal.returns-in-Ok
unfolding listed
returns-in-Ok c =
    let s = c.args.condition.now in
    let is_read = (bytes-are s c.in-Ok.condition c.in-Ok.ensures.bytes).1 in
    rw (le-leb text_most _ c.if-out-lt-TEXT.false)
    (lists (room_as (sym (listing-read s is_read)) (room-listing s is_read c.args.out.now c.if-out-lt-TEXT.false))
    (puts_as (read-text (goal.at.returns-in-Ok c).In-Ok) c.put_conjuncts.ensures))

pub returns-in-Err : goal.returns-in-Err
unfolding listed
returns-in-Err c =
    let e = listing-refused c.args.condition.now (number_of c.in-Err.refusal) c.in-Err.ensures.bytes in
    rw (le-leb text_most _ c.if-out-lt-TEXT.false)
    (lists (room_as e (room_refusal _ c.args.out.now c.if-out-lt-TEXT.false)) (puts_as (ap refusal_text c.from.ensures ∙ e) c.put_refusal.ensures))
