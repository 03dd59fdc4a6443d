-- `program::statements::types_agree` meets its contract.
use Rattle.std.proofs.Common.{arith}
use Rattle.model.specs.Kinds.{kind_of}
use Rattle.model.specs.Program.{types_agree_lem, call_alike}
use Rattle.program.proofs.Items.{is_operation}
use Rattle.program.proofs.statements.types_agree.Goals as goal

pub returns-in-1 : goal.returns-in-1
unfolding types_agree_lem kind_of
returns-in-1 c = rw (c.in-1.is, c.variable_type-in-1.ensures, c.variable_type.ensures)

pub returns-in-2 : goal.returns-in-2
unfolding types_agree_lem
returns-in-2 c =
    let o = is_operation c.args.q.kind (grind arith) (grind arith) in
    rw o.1 c.three_agree.ensures

pub returns-in-7 : goal.returns-in-7
unfolding types_agree_lem kind_of
returns-in-7 c = rw (c.in-7.is, c.variable_type-in-7.ensures, c.field_type.ensures)

pub returns-in-8 : goal.returns-in-8
unfolding types_agree_lem kind_of
returns-in-8 c = rw c.in-8.is c.cell_agrees.ensures

pub returns-in-9 : goal.returns-in-9
unfolding types_agree_lem kind_of
returns-in-9 c = rw c.in-9.is c.cell_agrees-in-9.ensures

pub returns-in-16 : goal.returns-in-16
unfolding types_agree_lem call_alike kind_of
returns-in-16 c = rw c.in-16.is c.call_agrees.ensures
