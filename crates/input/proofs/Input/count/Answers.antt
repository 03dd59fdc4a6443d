-- `input::Input::count` meets its contract.
use mathlib.Core.Path.{◌≡◌, sym, subst}
use Rattle.std.proofs.Common.{ℕ, ◌≤◌, ◌<◌, ◌/◌, List, length, arith}
use Rattle.model.specs.Sizes.{most_readings, field_size}
use Rattle.input.proofs.Fields.{part-inside, counted}
use Rattle.input.specs.Answers.{InputFile, file_of, InputIsRead, PartInside, field_readings}
use Rattle.input.proofs.Input.count.Goals as goal

-- the field is listed, by the file seen
listed : (i j : InputFile) (field : ℕ) → i ≡ j → field < length j.fields / field_size → field < length i.fields / field_size
listed i j field e h = subst (λ (i : InputFile). field < length i.fields / field_size) (sym e) h

-- the pair and the part of the field
placed : (fields input : List ℕ) (j : InputFile) (field : ℕ) → InputIsRead fields input → file_of fields input ≡ j → field < length j.fields / field_size
    → PartInside input field
placed fields input j field read e h = part-inside fields input field read (listed (file_of fields input) j field e h)

pub overflow_mul-field : goal.overflow_mul-field
overflow_mul-field c = omega (arith, listed _ _ c.args.field c.self.view_is c.requires)

pub overflow_mul-field-2 : goal.overflow_mul-field-2
overflow_mul-field-2 c = omega (arith, (placed c.self.inside.fields.now c.self.inside.bytes.now _ c.args.field c.self.invariant c.self.view_is c.requires).pair)

pub overflow_add-field : goal.overflow_add-field
overflow_add-field c = omega (arith, (placed c.self.inside.fields.now c.self.inside.bytes.now _ c.args.field c.self.invariant c.self.view_is c.requires).pair)

pub bounds-fields-field : goal.bounds-fields-field
bounds-fields-field c = omega (arith, listed _ _ c.args.field c.self.view_is c.requires)

pub u32_at-len-requires : goal.u32_at-len-requires
u32_at-len-requires c = omega (arith, (placed c.self.inside.fields.now c.self.inside.bytes.now _ c.args.field c.self.invariant c.self.view_is c.requires).pair)

pub returns : goal.returns
returns c =
    let i = c.self.inside in
    subst (λ (j : InputFile). (c.u32_at-len.result / c.width_of-w.result ≡ length (field_readings j.fields j.bytes c.args.field))
    × (c.u32_at-len.result / c.width_of-w.result ≤ most_readings)) c.self.view_is
    (counted i.fields.now i.bytes.now c.args.field _ _ c.self.invariant (listed _ _ c.args.field c.self.view_is c.requires) c.u32_at-len.ensures.0
    c.width_of-w.ensures.is)
