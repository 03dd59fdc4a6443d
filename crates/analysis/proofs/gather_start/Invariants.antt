-- `analysis::gather_start` meets its contract: after k turns the room has what the first k conjuncts come to.
use mathlib.Core.Path.{◌≡◌}
use lib.ListN.{take}
use Rattle.sets.specs.Region.{set_of, Within}
use Rattle.analysis.proofs.Starting.{started}
use Rattle.analysis.proofs.gather_start.Given as goal

abbrev pub invariant-loop-k : goal.invariant-loop-k
invariant-loop-k l = Within l.room l.initial.s l.s × (set_of l.s l.room ≡ started (take l.k (set_of l.initial.s l.b)))
