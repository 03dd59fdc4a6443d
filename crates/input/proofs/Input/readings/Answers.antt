-- `input::Input::readings` meets its contract.
use mathlib.Core.Path.{sym, ◌∙◌, ap, subst}
use Prim.Native.Nat.{◌/◌, ◌<◌}
use lib.ListN.{length}
use Rattle.model.specs.Sizes.{field_size}
use Rattle.input.proofs.Fields.{part-inside}
use Rattle.input.specs.Answers.{InputFile, field_part}
use Rattle.input.proofs.Input.readings.Goals as goal

pub part_of-requires : goal.part_of-requires
part_of-requires c =
    let i = c.self.inside in
    part-inside i.fields.now i.bytes.now c.args.field c.self.invariant
    (subst (λ (i : InputFile). c.args.field < length i.fields / field_size) (sym c.self.view_is) c.requires)

pub returns : goal.returns
returns c = c.part_of.ensures ∙ ap (λ (i : InputFile). field_part i.bytes c.args.field) c.self.view_is
