-- `filter::put_field` meets its contract.
use mathlib.Core.Path.{sym, refl, ap, subst, ◌∙◌}
use Prim.Native.Nat.{◌*◌, ◌/◌, ◌<◌}
use native.Mathlib.Omega.{arith}
use lib.IntN.{pos}
use lib.ListN.{length, get_or}
use Rattle.model.specs.Sizes.{field_size, most_readings}
use Rattle.model.specs.Input.{width, reading_at_lem}
use Rattle.model.specs.Fields.{fields_in}
use Rattle.model.proofs.Files.FieldTables.{fields-length}
use Rattle.plan.specs.Readings.{signed_at}
use Rattle.filter.specs.Decoding.{input_in, Filled}
use Rattle.filter.proofs.Readings.{filled_none, type-code, field-none, field-listed, readings-inside, field-filled}
use Rattle.filter.proofs.put_field.Goals as goal
use Rattle.filter.proofs.put_field.Goals.{Else-listed-f}

-- the field is listed in the input's table
listed : (c : Else-listed-f) → c.args.f < length c.args.input.now.fields / field_size
listed c = omega (arith, c.requires.2, c.if-listed-f.false)

pub returns-then-listed-f : goal.returns-then-listed-f
returns-then-listed-f c =
    let a = c.args in
    let table = a.input.now.fields in
    let I = input_in (fields_in table) a.input.now.bytes a.f in
    let e = field-none (fields_in table) a.input.now.bytes a.f (omega (arith, fields-length table, c.requires.2, c.if-listed-f.true)) in
    record {
      count = rw e refl;
      few = omega arith;
      filled = filled_none (λ k. get_or I k (pos 0)) (most_readings * a.f) (signed_at a.mags.now a.negs.now);
    }

pub readings-part-requires : goal.readings-part-requires
readings-part-requires c = listed (goal.at.readings-part-requires c).Else-listed-f

pub count-n-requires : goal.count-n-requires
count-n-requires c = listed (goal.at.count-n-requires c).Else-listed-f

pub put_readings-requires : goal.put_readings-requires
put_readings-requires c =
    let a = c.args in
    let l = listed (goal.at.put_readings-requires c).Else-listed-f in
    let i = a.input.now in
    rw c.fields-fields.ensures.table (record {
      type = type-code i.fields a.f c.requires.0.typed l;
      inside = readings-inside i.fields i.bytes a.f c.fields-fields.ensures.read l c.count-n.result c.count-n.ensures.0 c.readings-part.result.now c.readings-part.ensures;
      magnitudes = omega (arith, c.count-n.ensures.1, c.requires.0.magnitudes);
      signs = omega (arith, c.count-n.ensures.1, c.requires.0.signs);
    })

pub returns : goal.returns
returns c =
    let a = c.args in
    let l = listed (goal.at.returns c).Else-listed-f in
    let i = a.input.now in
    record {
      count = c.count-n.ensures.0 ∙ sym (ap length (field-listed i.fields i.bytes a.f l));
      few = c.count-n.ensures.1;
      filled = field-filled i.fields i.bytes a.f c.fields-fields.ensures.read l c.count-n.result c.count-n.ensures.0 c.readings-part.result.now c.readings-part.ensures
          (most_readings * a.f) (signed_at a.mags.now a.negs.now) (signed_at c.put_readings.new.mags c.put_readings.new.negs)
          (subst (λ t. Filled (λ k. reading_at_lem (get_or t (2 * a.f) 0) c.readings-part.result.now (k * width (get_or t (2 * a.f) 0)))
          (most_readings * a.f) c.count-n.result (signed_at a.mags.now a.negs.now) (signed_at c.put_readings.new.mags c.put_readings.new.negs))
          c.fields-fields.ensures.table c.put_readings.ensures);
    }
