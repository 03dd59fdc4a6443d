-- `listing::put_number` meets its contract.
use mathlib.Core.Path.{◌≡◌, sym}
use native.Mathlib.Omega.{arith}
use mathlib.Core.List.{◌∷◌}
use borrow.Author.Tests.{not-false}
use Rattle.arith.specs.Whole.{value_of}
use Rattle.model.specs.Decimal.{decimal, number}
use Rattle.listing.proofs.Texts.{room_as, room-first, puts_first, puts_as, number-plain, number-minus}
use Rattle.listing.proofs.put_number.Goals as goal
use Rattle.listing.proofs.put_number.Goals.{Else-z-eq0}

minus : (c : Else-z-eq0) → (45 ∷ decimal c.args.z.mag) ≡ number (value_of c.args.z)
minus c = number-minus _ _ (not-false _ c.if-not-z.false) c.if-z-eq0.false

pub put_decimal-requires : goal.put_decimal-requires
put_decimal-requires c = room_as (sym (number-plain _ _ c.then-not-z.either)) c.requires

pub returns-then-not-z : goal.returns-then-not-z
returns-then-not-z c = puts_as (number-plain _ _ c.then-not-z.either) c.put_decimal.ensures

pub bounds-out-at : goal.bounds-out-at
bounds-out-at c = omega (arith, (room_as (sym (minus c)) c.requires).fits)

pub put_decimal-requires-2 : goal.put_decimal-requires-2
put_decimal-requires-2 c = room-first (room_as (sym (minus (goal.at.put_decimal-requires-2 c).Else-z-eq0)) c.requires)

pub returns : goal.returns
returns c = puts_as (minus (goal.at.returns c).Else-z-eq0) (puts_first c.put_decimal-2.ensures)
