-- `program::Program::variable_type` meets its contract.
use Rattle.program.proofs.Tables.{variables-are}
use Rattle.program.proofs.Program.variable_type.Goals as goal

pub returns : goal.returns
returns c =
    let r = c.self.inside in
    rw (← c.self.view_is, variables-are r.bytes.now r.layout c.self.invariant) c.byte_of.ensures
