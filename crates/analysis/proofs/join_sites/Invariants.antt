-- `analysis::join_sites` meets its contract. The invariant: the sites before the label are joined.
use Rattle.analysis.proofs.Passing.{Passed}
use Rattle.analysis.proofs.join_sites.Given as goal

abbrev pub invariant-loop-i : goal.invariant-loop-i
invariant-loop-i l = Passed l.initial.s l.n l.s l.i
