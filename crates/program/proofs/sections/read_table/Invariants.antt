-- `program::sections::read_table` meets its contract. The invariant: what the table has to be from the pair i on is what it has to
-- be as a whole.
use mathlib.Core.Path.{◌≡◌}
use lib.ListN.{length}
use Rattle.model.specs.Sizes.{section_table}
use Rattle.model.specs.Bytes.{pairs_at, chained}
use Rattle.program.specs.Numbers.{sections}
use Rattle.program.proofs.sections.Chain.{pairs_from}
use Rattle.program.proofs.sections.read_table.Given as goal

abbrev pub invariant-loop-i : goal.invariant-loop-i
invariant-loop-i l =
    chained section_table (pairs_at l.program 0 sections) (length l.program) ≡ chained l.end (pairs_from l.program l.i) (length l.program)
