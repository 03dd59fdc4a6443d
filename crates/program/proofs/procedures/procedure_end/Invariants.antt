-- `program::procedures::procedure_end` meets its contract. The invariant: the reading has come to i inside the procedure, so many blocks deep.
use mathlib.Core.Path.{◌≡◌}
use mathlib.Core.List.{List}
use Prim.Native.Nat.{◌≤◌, ◌<◌, ◌-◌}
use lib.ListN.{drop}
use Rattle.model.specs.Procedures.{Procedure, between, inside, parts_from}
use Rattle.model.specs.Program.{items_of}
use Rattle.program.specs.Parts.{procedure_between}
use Rattle.program.specs.Reading.{tables_of}
use Rattle.program.proofs.procedures.procedure_end.Given as goal

abbrev pub invariant-loop-i : goal.invariant-loop-i
invariant-loop-i l =
    let T = tables_of l.program in
    let is = items_of T in
    (l.begin < l.i) × (1 ≤ l.depth) × (l.depth ≤ l.i)
    × ((ps : List Procedure) → parts_from l.begin ps between (drop l.begin is) ≡ parts_from l.i ps (inside (procedure_between T l.begin l.i) (l.depth - 1)) (drop l.i is))
