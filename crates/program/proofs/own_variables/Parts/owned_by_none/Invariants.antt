-- `program::own_variables::Parts::owned_by_none` meets its contract.
use mathlib.Core.Path.{◌≡◌}
use mathlib.Core.Bool.{Bool, not}
use Prim.Native.Nat.{ℕ}
use lib.ListN.{drop}
use Rattle.model.specs.Lists.{every}
use Rattle.model.specs.Procedures.{Procedure, owns}
use Rattle.program.specs.Parts.{procedures_in}
use Rattle.program.specs.Reading.{tables_of}
use Rattle.program.proofs.own_variables.Parts.owned_by_none.Given as goal

-- the procedure does not own the variable
abbrev pub spared : ℕ → Procedure → Bool
spared x q = not (owns q x)

abbrev pub invariant-loop-p : goal.invariant-loop-p
invariant-loop-p l =
    let ps = procedures_in (tables_of l.self.program.now) l.self.table.now l.self.main.procedures in
    every (spared l.x) ps ≡ every (spared l.x) (drop l.p ps)
