-- `program::Program::fields` meets its contract.
use mathlib.Core.Path.{◌≡◌}
use Prim.Native.Nat.{◌+◌, ◌*◌, ◌-◌}
use native.Mathlib.Omega.{arith}
use Rattle.model.specs.Sizes.{field_size}
use Rattle.model.proofs.Files.FieldTables.{fields-part}
use Rattle.model.proofs.Files.Parts.{length_part}
use Rattle.program.proofs.Tables.{fields-are, sized}
use Rattle.program.proofs.Program.fields.Goals as goal

pub returns : goal.returns
returns c =
    let s = c.self.inside.bytes.now in
    let L = c.self.inside.layout in
    let placed = c.self.invariant in
    let at = L.fields_at in
    let n = L.fields in
    let e : at + field_size * n - at ≡ field_size * n = omega arith in
    rw (← c.self.view_is, e, (sized s L placed).fields, fields-are s L placed) (fields-part s at n placed.fields, length_part s at (field_size * n) placed.fields)
