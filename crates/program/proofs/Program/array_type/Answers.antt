-- `program::Program::array_type` meets its contract.
use Rattle.program.proofs.Tables.{array_in, array-past}
use Rattle.program.proofs.Program.array_type.Goals as goal

pub returns-then-n-x : goal.returns-then-n-x
returns-then-n-x c =
    let r = c.self.inside in
    rw (← c.self.view_is, array-past r.bytes.now r.layout c.self.invariant c.args.x c.if-n-x.true)

pub returns : goal.returns
returns c =
    let r = c.self.inside in
    rw (← c.self.view_is, array_in r.bytes.now r.layout c.self.invariant c.args.x c.if-n-x.false)
