-- `program::own_variables::Parts::apart_from_later` meets its contract.
use mathlib.Core.Path.{◌≡◌}
use Prim.Native.Nat.{◌+◌}
use lib.ListN.{drop}
use Rattle.model.specs.Lists.{every}
use Rattle.model.specs.Procedures.{apart}
use Rattle.program.specs.Parts.{procedure_in_lem, procedures_in}
use Rattle.program.specs.Reading.{tables_of}
use Rattle.program.proofs.own_variables.Parts.apart_from_later.Given as goal

abbrev pub invariant-loop-i : goal.invariant-loop-i
invariant-loop-i l =
    let T = tables_of l.self.program.now in
    let ps = procedures_in T l.self.table.now l.self.main.procedures in
    let f = apart (procedure_in_lem T l.self.table.now l.p) in
    every f (drop (l.p + 1) ps) ≡ every f (drop l.i ps)
