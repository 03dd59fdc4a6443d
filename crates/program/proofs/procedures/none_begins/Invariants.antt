-- `program::procedures::none_begins` meets its contract.
use mathlib.Core.Path.{◌≡◌}
use lib.ListN.{drop}
use Rattle.model.specs.Lists.{every}
use Rattle.model.specs.Procedures.{begins_none}
use Rattle.model.specs.Program.{items_of}
use Rattle.program.specs.Reading.{tables_of}
use Rattle.program.proofs.procedures.none_begins.Given as goal

abbrev pub invariant-loop-i : goal.invariant-loop-i
invariant-loop-i l =
    let is = items_of (tables_of l.program) in
    every begins_none (drop l.from is) ≡ every begins_none (drop l.i is)
