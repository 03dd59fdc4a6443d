-- `fields::entry_right` meets its contract.
use Rattle.std.proofs.Common.{◌≡◌, ℕ, ◌+◌, ◌-◌, ◌<◌, arith, get_or}
use lib.Dec.{leb}
use borrow.Author.Tests.{lt-ltb, le-ltb, le-leb, lt-leb, leb-true, leb-false}
use Rattle.model.specs.Fields.{field_right}
use Rattle.model.proofs.Basics.Tests.{case}
use Rattle.fields.proofs.entry_right.Goals as goal

-- a comparison of differences is one of sums
lowered : (a b c : ℕ) → b < a → leb (a - b) c ≡ leb a (b + c)
lowered a b c h =
    case (leb a (b + c)) (λ r. leb (a - b) c ≡ r)
    (λ e. le-leb (a - b) c (omega (arith, leb-true a (b + c) e))) (λ e. lt-leb (a - b) c (omega (arith, leb-false a (b + c) e)))

pub returns-then-ty-ge-TYPE_CODES : goal.returns-then-ty-ge-TYPE_CODES
unfolding field_right
returns-then-ty-ge-TYPE_CODES c = rw (le-ltb _ _ c.if-ty-ge-TYPE_CODES.true)

pub returns-then-size-le-OVER_BITS : goal.returns-then-size-le-OVER_BITS
unfolding field_right
returns-then-size-le-OVER_BITS c =
    rw (lt-ltb _ _ c.if-ty-ge-TYPE_CODES.false, le-ltb 128 (get_or c.args.table.now (c.args.at + 1) 0) (omega (arith, c.if-size-le-OVER_BITS.true)))

pub returns : goal.returns
unfolding field_right
returns c =
    let size = get_or c.args.table.now (c.args.at + 1) 0 in
    rw (lt-ltb _ _ c.if-ty-ge-TYPE_CODES.false, lt-ltb 128 size (omega (arith, c.if-size-le-OVER_BITS.false)), c.range_of-range.ensures.width)
    (lowered size 128 _ (omega (arith, c.if-size-le-OVER_BITS.false)))
