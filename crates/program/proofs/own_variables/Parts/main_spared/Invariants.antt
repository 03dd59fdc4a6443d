-- `program::own_variables::Parts::main_spared` meets its contract.
use mathlib.Core.Path.{◌≡◌}
use lib.ListN.{drop}
use Rattle.model.specs.Lists.{every}
use Rattle.model.specs.Procedures.{spares}
use Rattle.model.specs.Program.{items_of}
use Rattle.program.specs.Parts.{procedures_in}
use Rattle.program.specs.Reading.{tables_of}
use Rattle.program.proofs.own_variables.Parts.main_spared.Given as goal

abbrev pub invariant-loop-i : goal.invariant-loop-i
invariant-loop-i l =
    let T = tables_of l.self.program.now in
    let f = spares (procedures_in T l.self.table.now l.self.main.procedures) in
    every f (drop l.self.main.label (items_of T)) ≡ every f (drop l.i (items_of T))
