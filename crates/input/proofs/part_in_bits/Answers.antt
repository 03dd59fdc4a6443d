-- `input::part_in_bits` meets its contract: from turn to turn goes that the readings still to come decide.
use mathlib.Core.Path.{◌≡◌, sym, ◌∙◌, ap, subst}
use Prim.Native.Nat.{ℕ, ◌*◌, ◌/◌}
use native.Mathlib.Omega.{arith}
use lib.ListN.{length}
use Rattle.arith.proofs.Spans.{bits_le}
use Rattle.model.specs.Lists.{every}
use Rattle.model.specs.Bytes.{entries}
use Rattle.model.specs.Fields.{entry_of}
use Rattle.model.specs.Input.{width, reading_at_lem, in_bits_lem}
use Rattle.input.specs.Bits.{LimitsAre}
use Rattle.input.proofs.Fields.{row-width, some-width}
use Rattle.input.proofs.Narrow.{full-width, held_all, held_on, held_off, held-end}
use Rattle.input.proofs.part_in_bits.Goals as goal
use Rattle.input.proofs.part_in_bits.Goals.{After-is_between}

-- the test of the reading with this number
tested : (c : After-is_between)
    → c.is_between.result ≡ in_bits_lem (entry_of c.args.ty c.args.size)
    (reading_at_lem (entry_of c.args.ty c.args.size).ty c.args.part.now (c.loop-k.k * width (entry_of c.args.ty c.args.size).ty))
tested c =
    c.is_between.ensures (entry_of c.args.ty c.args.size) (subst (λ b. LimitsAre c.args.ty b c.limits_of-limits.result) c.saturating_sub-bits.ensures c.limits_of-limits.ensures)
    ∙ ap (in_bits_lem (entry_of c.args.ty c.args.size)) (c.reading_by_row-n.ensures c.args.ty c.row_of-range.ensures)

pub returns-then-range-bits : goal.returns-then-range-bits
returns-then-range-bits c =
    let s = c.args.part.now in
    let t = c.args.ty in
    sym (full-width (entry_of c.args.ty c.args.size) (omega (arith, c.if-range-bits.true, c.row_of-range.ensures.width, c.saturating_sub-bits.ensures)) s (length s / width t) 0)

pub limits_of-limits-requires : goal.limits_of-limits-requires
limits_of-limits-requires c =
    omega (arith, c.if-range-bits.false, c.row_of-range.ensures.width, bits_le c.args.ty)

pub nonzero_div-count : goal.nonzero_div-count
nonzero_div-count c = omega (arith, row-width c.args.ty _ c.row_of-range.ensures, some-width c.args.ty)

pub loop-k-init : goal.loop-k-init
loop-k-init c =
    let s = c.args.part.now in
    let t = c.args.ty in
    (ap (λ (w : ℕ). every (in_bits_lem (entry_of c.args.ty c.args.size)) (entries (reading_at_lem t) (width t) s 0 (length s / w))) (sym (row-width c.args.ty _ c.row_of-range.ensures)) ∙ sym (held_all (entry_of c.args.ty c.args.size) s _))

pub returns-then-not-is_between : goal.returns-then-not-is_between
returns-then-not-is_between c =
    sym (c.loop-k.invariant ∙ held_off (entry_of c.args.ty c.args.size) c.args.part.now _ c.loop-k.k c.loop-k-test.true
    (sym (tested (goal.at.returns-then-not-is_between c).After-is_between) ∙ c.if-not-is_between.true))

pub loop-k-preserved : goal.loop-k-preserved
loop-k-preserved c =
    c.loop-k.invariant ∙ held_on (entry_of c.args.ty c.args.size) c.args.part.now _ c.loop-k.k c.loop-k-test.true
    (sym (tested (goal.at.loop-k-preserved c).After-is_between) ∙ c.if-not-is_between.false)

pub returns : goal.returns
returns c =
    sym (c.loop-k.invariant ∙ held-end (entry_of c.args.ty c.args.size) c.args.part.now _ c.loop-k.k (omega arith))
