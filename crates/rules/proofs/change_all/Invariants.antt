-- `rules::change_all` meets its contract: after k turns the first k conjuncts are what they come to.
use mathlib.Core.Path.{◌≡◌}
use lib.ListN.{length}
use Rattle.sets.proofs.Arranging.{Mapped}
use Rattle.sets.specs.Region.{set_of, Within}
use Rattle.rules.specs.Changing.{image_of}
use Rattle.rules.proofs.change_all.Given as goal

abbrev pub invariant-loop-k : goal.invariant-loop-k
invariant-loop-k l =
    Within l.b l.initial.s l.s × (length (set_of l.s l.b) ≡ l.count) × Mapped (image_of l.label l.d) (set_of l.initial.s l.b) (set_of l.s l.b) l.k
