-- `listing::put_lines` meets its contract. What is left to put are the lines from i on.
use Rattle.model.specs.Listing.{lines_from}
use Rattle.condition.specs.Answers.{conjuncts_of}
use Rattle.listing.proofs.Texts.{Remains, lines}
use Rattle.listing.proofs.put_lines.Given as goal

abbrev pub invariant-loop-i : goal.invariant-loop-i
invariant-loop-i l = Remains (lines_from 0 (conjuncts_of l.condition)) l.at l.initial.out (lines (conjuncts_of l.condition) l.i) l.next l.out
