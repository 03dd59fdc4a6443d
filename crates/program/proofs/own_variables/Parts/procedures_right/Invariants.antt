-- `program::own_variables::Parts::procedures_right` meets its contract.
use mathlib.Core.Path.{◌≡◌}
use lib.ListN.{drop}
use Rattle.model.specs.Procedures.{procedures_right_lem}
use Rattle.program.specs.Parts.{procedures_in}
use Rattle.program.specs.Reading.{tables_of}
use Rattle.program.proofs.own_variables.Parts.procedures_right.Given as goal

abbrev pub invariant-loop-p : goal.invariant-loop-p
invariant-loop-p l =
    let ps = procedures_in (tables_of l.self.program.now) l.self.table.now l.p-end in
    procedures_right_lem 0 ps ≡ procedures_right_lem l.p (drop l.p ps)
