-- `footprint::Footprint::first_changing` meets its contract.
use Rattle.code_table.specs.Table.{stmts}
use Rattle.footprint.specs.Footprints.{SparedAll}
use Rattle.footprint.proofs.Footprint.first_changing.Given as goal

abbrev pub invariant-loop-i : goal.invariant-loop-i
invariant-loop-i l = SparedAll l.self (stmts l.s) l.p l.i
