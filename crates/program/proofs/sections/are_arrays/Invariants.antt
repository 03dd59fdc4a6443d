-- `program::sections::are_arrays` meets its contract.
use mathlib.Core.Path.{◌≡◌}
use lib.ListN.{drop}
use Rattle.model.specs.Sizes.{array_size}
use Rattle.model.specs.Bytes.{entries}
use Rattle.model.specs.Lists.{every}
use Rattle.model.specs.Program.{array_right_lem, array_at}
use Rattle.program.proofs.sections.are_arrays.Given as goal

abbrev pub invariant-loop-i : goal.invariant-loop-i
invariant-loop-i l =
    every array_right_lem (entries array_at array_size l.program l.at l.n) ≡ every array_right_lem (drop l.i (entries array_at array_size l.program l.at l.n))
