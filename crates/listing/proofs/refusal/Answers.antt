-- `listing::refusal` meets its contract.
use borrow.Author.Tests.{le-leb, lt-leb}
use Rattle.listing.specs.Text.{text_most, refusing}
use Rattle.listing.proofs.Texts.{lists, lists_none}
use Rattle.listing.proofs.Sizes.{room_refusal}
use Rattle.listing.proofs.refusal.Goals as goal

pub returns-then-out-lt-TEXT : goal.returns-then-out-lt-TEXT
unfolding refusing
returns-then-out-lt-TEXT c = rw (lt-leb text_most _ c.if-out-lt-TEXT.true) (lists_none _)

pub returns : goal.returns
unfolding refusing
returns c =
    let a = c.args in
    rw (le-leb text_most _ c.if-out-lt-TEXT.false) (lists (room_refusal _ a.out.now c.if-out-lt-TEXT.false) c.put_refusal.ensures)
