use Rattle.std.proofs.Common.{◌+◌, ◌*◌, ◌≤◌}
use Rattle.model.specs.Inlined.{inlined}
use Rattle.program.specs.Reading.{tables_of}
use Rattle.inliner.specs.Bodies.{expansions_in, items_between, stretch_rows}
use Rattle.inliner.proofs.Writing.{SoFar}
use Rattle.inliner.proofs.+put_item_put_stretch.Given as goal

-- The number before which procedures may be called falls with every call.
abbrev pub decreases-put_item : goal.decreases-put_item
decreases-put_item l = 2 * l.part.number

abbrev pub decreases-put_stretch : goal.decreases-put_stretch
decreases-put_stretch l = 2 * l.part.number + 1

abbrev pub invariant-put_stretch-loop-i : goal.invariant-put_stretch-loop-i
invariant-put_stretch-loop-i l =
    (l.at ≤ l.place)
    × SoFar l.plan.base l.at l.place (stretch_rows (tables_of l.program) l.table l.plan.procedures l.part l.at)
    (inlined (expansions_in (tables_of l.program) l.table l.plan.procedures) l.part.shift l.i l.place (items_between (tables_of l.program) l.i l.part.to))
    l.initial.words l.words
