-- `analysis::keep_all` meets its contract: from the last label back, every statement so far keeps the variable.
use Rattle.code_table.specs.Table.{table_of}
use Rattle.analysis.specs.Joining.{KeptFrom}
use Rattle.analysis.proofs.keep_all.Given as goal

abbrev pub invariant-loop-l : goal.invariant-loop-l
invariant-loop-l l = KeptFrom (table_of 0 l.s) l.l l.q l.x
