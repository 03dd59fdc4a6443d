-- `program::own_variables::Parts::all_apart` meets its contract.
use mathlib.Core.Path.{◌≡◌}
use lib.ListN.{drop}
use Rattle.model.specs.Procedures.{all_apart_lem}
use Rattle.program.specs.Parts.{procedures_in}
use Rattle.program.specs.Reading.{tables_of}
use Rattle.program.proofs.own_variables.Parts.all_apart.Given as goal

abbrev pub invariant-loop-p : goal.invariant-loop-p
invariant-loop-p l =
    let ps = procedures_in (tables_of l.self.program.now) l.self.table.now l.self.main.procedures in
    all_apart_lem ps ≡ all_apart_lem (drop l.p ps)
