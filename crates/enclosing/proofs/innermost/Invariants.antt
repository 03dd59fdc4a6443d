-- `enclosing::innermost` meets its contract. The invariant: no block that begins from a label on is around the statement.
use Rattle.code_table.specs.Table.{stmts, mates}
use Rattle.enclosing.specs.Blocks.{NoneFrom}
use Rattle.enclosing.proofs.innermost.Given as goal

abbrev pub invariant-loop-at : goal.invariant-loop-at
invariant-loop-at l = NoneFrom (stmts l.s) (mates l.s) l.i l.at
