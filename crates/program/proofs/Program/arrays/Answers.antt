-- `program::Program::arrays` meets its contract.
use Rattle.program.proofs.Tables.{sized}
use Rattle.program.proofs.Program.arrays.Goals as goal

pub returns : goal.returns
returns c =
    let r = c.self.inside in
    rw (← c.self.view_is, (sized r.bytes.now r.layout c.self.invariant).arrays)
