-- `program::own_variables::Parts::begun` meets its contract.
use native.Mathlib.Omega.{arith}
use Rattle.program.proofs.own_variables.Bodies.{ListedAt, listed_at}
use Rattle.program.proofs.own_variables.Parts.begun.Goals as goal
use Rattle.program.proofs.own_variables.Parts.begun.Goals.{Start}

listed : (c : Start) → let a = c.args in ListedAt a.self.now.program.now a.self.now.table.now a.p
listed c = let a = c.args in listed_at a.self.now.program.now a.self.now.table.now a.self.now.main c.args.self.now.listed a.p c.requires

pub statement-requires : goal.statement-requires
statement-requires c =
    omega (arith, (listed (goal.at.statement-requires c).Start).later, (listed (goal.at.statement-requires c).Start).inside)
