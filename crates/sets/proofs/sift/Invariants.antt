-- `sets::sift` meets its contract: after k turns the region has what the first k conjuncts leave.
use mathlib.Core.Path.{◌≡◌}
use lib.ListN.{length, take}
use Rattle.sets.specs.Minus.{minus}
use Rattle.sets.specs.Region.{set_of, Within}
use Rattle.sets.proofs.sift.Given as goal

abbrev pub invariant-loop-k : goal.invariant-loop-k
invariant-loop-k l =
    (l.n ≡ length (set_of l.initial.s l.from)) × (length l.s ≡ length l.initial.s) × (length l.words ≡ length l.initial.words) × Within l.to l.initial.s l.s
    × (set_of l.s l.to ≡ minus (take l.k (set_of l.initial.s l.from)) (set_of l.initial.s l.known))
