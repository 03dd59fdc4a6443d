-- `program::procedures::parts` meets its contract. The invariant: the reading has come to i, between procedures, and those before it are
-- in the table.
use mathlib.Core.Path.{◌≡◌}
use mathlib.Core.List.{[]}
use Prim.Native.Nat.{ℕ, ◌≤◌, ◌<◌, ◌-◌, ◌*◌}
use lib.ListN.{length, drop}
use Rattle.model.specs.Procedures.{between, parts_from}
use Rattle.model.specs.Program.{items_of}
use Rattle.program.specs.Parts.{begin_in, end_in, procedures_in, Between}
use Rattle.program.specs.Reading.{tables_of}
use Rattle.program.proofs.procedures.parts.Given as goal

abbrev pub invariant-loop-count : goal.invariant-loop-count
invariant-loop-count l =
    let T = tables_of l.program in
    let is = items_of T in
    (l.i ≤ length T.statements) × (2 * l.count ≤ l.i) × (length l.table ≡ length l.initial.table)
    × (parts_from 0 [] between is ≡ parts_from l.i (procedures_in T l.table l.count) between (drop l.i is))
    × ((p : ℕ) → p < l.count → Between T l.i (begin_in l.table p) (end_in l.table p))

abbrev pub decreases-loop-count : goal.decreases-loop-count
decreases-loop-count l = length (tables_of l.program).statements - l.i
