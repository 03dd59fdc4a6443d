-- `footprint::spared_plain` meets its contract: what stands from l on is plain and spared.
use Rattle.code_table.specs.Table.{stmts}
use Rattle.footprint.specs.Footprints.{PlainAndSpared}
use Rattle.footprint.proofs.spared_plain.Given as goal

abbrev pub invariant-loop-l : goal.invariant-loop-l
invariant-loop-l l = PlainAndSpared l.m (stmts l.s) l.l l.r
