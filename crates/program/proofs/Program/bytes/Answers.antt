-- `program::Program::bytes` meets its contract.
use Rattle.program.proofs.Program.bytes.Goals as goal

pub returns : goal.returns
returns c = c.self.view_is
