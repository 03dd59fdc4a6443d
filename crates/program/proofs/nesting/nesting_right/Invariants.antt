-- `program::nesting::nesting_right` meets its contract. The invariant: what is open after all statements from nothing on is what is open
-- after those from i on, from the blocks that the code holds.
use mathlib.Core.Path.{◌≡◌}
use mathlib.Core.Bool.{◌&&◌}
use mathlib.Core.List.{[]}
use Prim.Native.Nat.{◌≤◌}
use lib.ListN.{length, drop}
use Rattle.model.specs.Lists.{every}
use Rattle.model.specs.Procedures.{open_after, begins_none}
use Rattle.model.specs.Program.{items_of}
use Rattle.program.specs.OpenBlocks.{blocks_of, is_plain, Packed}
use Rattle.program.specs.Reading.{tables_of}
use Rattle.program.proofs.nesting.nesting_right.Given as goal

abbrev pub invariant-loop-i : goal.invariant-loop-i
invariant-loop-i l =
    let is = items_of (tables_of l.program) in
    Packed l.blocks × (length (blocks_of l.blocks) ≤ l.i) × (open_after [] is ≡ open_after (blocks_of l.blocks) (drop l.i is))
    × (every begins_none is ≡ (is_plain l.found && every begins_none (drop l.i is)))
