-- `program::own_variables::body_right` meets its contract.
use mathlib.Core.Path.{◌≡◌}
use mathlib.Core.Bool.{Bool}
use Prim.Native.Nat.{◌<◌, ◌-◌, ◌+◌}
use lib.ListN.{drop}
use Rattle.model.specs.Lists.{every}
use Rattle.model.specs.Procedures.{Item, Procedure, named, owns, calls_before_lem}
use Rattle.program.specs.Parts.{procedure_between}
use Rattle.program.specs.Reading.{tables_of}
use Rattle.program.proofs.own_variables.body_right.Given as goal

-- the statement names own variables of the procedure only
abbrev pub uses : Procedure → Item → Bool
uses q x = every (owns q) (named x)

abbrev pub invariant-loop-i : goal.invariant-loop-i
invariant-loop-i l =
    let q = procedure_between (tables_of l.program) l.begin l.end in
    (l.begin < l.i)
    × (every (uses q) q.body ≡ every (uses q) (drop (l.i - (l.begin + 1)) q.body))
    × (every (calls_before_lem l.n) q.body ≡ every (calls_before_lem l.n) (drop (l.i - (l.begin + 1)) q.body))
