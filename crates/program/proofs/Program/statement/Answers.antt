-- `program::Program::statement` meets its contract.
use native.Mathlib.Omega.{arith}
use borrow.Author.Rules.{rules}
use Rattle.program.proofs.Tables.{statement_in, inside_section}
use Rattle.program.proofs.Program.statement.Goals as goal

pub overflow_mul-i : goal.overflow_mul-i
overflow_mul-i c =
    search (rules, inside_section c.self.inside.bytes.now c.self.inside.layout c.self.invariant c.args.self.now c.self.view_is c.args.i c.requires)

pub overflow_add-at : goal.overflow_add-at
overflow_add-at c =
    search (rules, inside_section c.self.inside.bytes.now c.self.inside.layout c.self.invariant c.args.self.now c.self.view_is c.args.i c.requires)

pub entry_at-requires : goal.entry_at-requires
entry_at-requires c =
    omega (arith, inside_section c.self.inside.bytes.now c.self.inside.layout c.self.invariant c.args.self.now c.self.view_is c.args.i c.requires)

pub returns : goal.returns
returns c =
    let r = c.self.inside in
    let k = inside_section c.self.inside.bytes.now c.self.inside.layout c.self.invariant c.args.self.now c.self.view_is c.args.i c.requires in
    (rw (← c.self.view_is, statement_in r.bytes.now r.layout c.self.invariant c.args.i k) c.entry_at.ensures.0, c.entry_at.ensures.1)
