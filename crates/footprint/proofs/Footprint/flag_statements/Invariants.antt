-- `footprint::Footprint::flag_statements` meets its contract.
use Rattle.code_table.specs.Table.{stmts}
use Rattle.footprint.specs.Footprints.{Extends, FlagsAll}
use Rattle.footprint.proofs.Footprint.flag_statements.Given as goal

abbrev pub invariant-loop-i : goal.invariant-loop-i
invariant-loop-i l = Extends l.initial.self l.self × FlagsAll l.self (stmts l.s) l.p l.i
