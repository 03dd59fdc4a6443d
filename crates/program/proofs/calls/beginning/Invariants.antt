-- `program::calls::beginning` meets its contract. The invariant: the beginnings from number p on are those from i on without the first `left`.
use mathlib.Core.Path.{◌≡◌}
use lib.ListN.{drop}
use Rattle.model.specs.Program.{beginnings}
use Rattle.program.specs.Reading.{tables_of}
use Rattle.program.proofs.calls.beginning.Given as goal

abbrev pub invariant-loop-i : goal.invariant-loop-i
invariant-loop-i l =
    let ss = (tables_of l.program).statements in
    drop l.p (beginnings ss) ≡ drop l.left (beginnings (drop l.i ss))
