-- `program::sections::types_right` meets its contract.
use Rattle.std.proofs.Common.{arith}
use Rattle.std.proofs.lemmas.Grind.{common_steps}
use Rattle.model.specs.Program.{type_right, types_right_lem}
use Rattle.program.proofs.Tables.{variables-are, arrays-are}
use Rattle.model.specs.Bytes.{part}
use Rattle.program.proofs.Every.{every-is}
use Rattle.program.proofs.sections.types_right.Goals as goal

pub returns-then-are_types : goal.returns-then-are_types
unfolding types_right_lem
returns-then-are_types c =
    let r = c.program.inside in
    let v = variables-are r.bytes.now r.layout c.program.invariant in
    let e = every-is type_right (part r.bytes.now r.layout.variables_at r.layout.variables) in
    let l = arrays-are r.bytes.now r.layout c.program.invariant in
    grind (arith, common_steps, v, e, l, c.program.view_is)

pub returns-else-are_types : goal.returns-else-are_types
unfolding types_right_lem
returns-else-are_types c =
    let r = c.program.inside in
    let v = variables-are r.bytes.now r.layout c.program.invariant in
    let e = every-is type_right (part r.bytes.now r.layout.variables_at r.layout.variables) in
    grind (arith, common_steps, v, e, c.program.view_is)
