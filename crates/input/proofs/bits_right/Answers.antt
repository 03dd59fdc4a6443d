-- `input::bits_right` meets its contract: from turn to turn goes that the fields still to come decide.
use mathlib.Core.Path.{◌≡◌, sym, ◌∙◌, ap}
use Prim.Native.Nat.{◌*◌}
use native.Mathlib.Omega.{arith}
use Rattle.model.specs.Lists.{every}
use Rattle.model.specs.Bytes.{pair_at}
use Rattle.model.specs.Fields.{field_at, fields_in}
use Rattle.model.specs.Input.{in_bits_lem, readings_of}
use Rattle.input.specs.Bits.{part_readings}
use Rattle.input.proofs.Pass.{readings-are}
use Rattle.input.proofs.Fields.{right-inside, readings-part}
use Rattle.input.proofs.Narrow.{fields-all, fields_on, fields_off, fields-end}
use Rattle.input.proofs.bits_right.Goals as goal
use Rattle.input.proofs.bits_right.Goals.{After-part_in_bits}

-- the test of the field with this number
tested : (c : After-part_in_bits)
    → (let g = c.args in
    let F = field_at g.fields.now (2 * c.loop-f.f) in
    c.part_in_bits.result ≡ every (in_bits_lem F) (readings_of F.ty g.input.now (pair_at g.input.now (8 * c.loop-f.f))))
tested c =
    let g = c.args in
    let f = c.loop-f.f in
    let F = field_at g.fields.now (2 * f) in
    c.part_in_bits.ensures
    ∙ ap (λ part. every (in_bits_lem F) (part_readings F.ty part)) c.part_of.ensures
    ∙ ap (every (in_bits_lem F)) (sym (readings-part F.ty g.input.now (pair_at g.input.now (8 * f)) (right-inside g.fields.now g.input.now f c.requires (omega arith)).inside))

-- ---- the answers
pub loop-f-init : goal.loop-f-init
loop-f-init c =
    let g = c.args in
    (fields-all g.fields.now g.input.now, omega arith)

pub part_of-requires : goal.part_of-requires
part_of-requires c = right-inside c.args.fields.now c.args.input.now c.loop-f.f c.requires (omega arith)

pub returns-then-not-part_in_bits : goal.returns-then-not-part_in_bits
returns-then-not-part_in_bits c =
    let g = c.args in
    sym (sym (readings-are (fields_in g.fields.now) g.input.now) ∙ c.loop-f.invariant.0
    ∙ fields_off g.fields.now g.input.now _ c.loop-f.f (omega arith) (sym (tested (goal.at.returns-then-not-part_in_bits c).After-part_in_bits) ∙ c.if-not-part_in_bits.true))

pub loop-f-preserved : goal.loop-f-preserved
loop-f-preserved c =
    let g = c.args in (
      c.loop-f.invariant.0 ∙ fields_on g.fields.now g.input.now _ c.loop-f.f (omega arith) (sym (tested (goal.at.loop-f-preserved c).After-part_in_bits) ∙ c.if-not-part_in_bits.false),
      c.loop-f.invariant.1,
    )

pub returns : goal.returns
returns c =
    let g = c.args in
    sym (sym (readings-are (fields_in g.fields.now) g.input.now) ∙ c.loop-f.invariant.0
    ∙ fields-end g.fields.now g.input.now _ c.loop-f.f (omega arith))
