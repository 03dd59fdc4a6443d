-- `sets::join` meets its contract: after k turns the region has what the first k conjuncts and its own make.
use mathlib.Core.Path.{◌≡◌}
use lib.ListN.{length, take}
use Rattle.model.specs.Conjunct.{union_of}
use Rattle.sets.specs.Region.{set_of, Within}
use Rattle.sets.proofs.join.Given as goal

abbrev pub invariant-loop-k : goal.invariant-loop-k
invariant-loop-k l =
    (l.count ≡ length (set_of l.initial.s l.from)) × (length l.s ≡ length l.initial.s) × (length l.words ≡ length l.initial.words) × Within l.to l.initial.s l.s
    × (set_of l.s l.to ≡ union_of (take l.k (set_of l.initial.s l.from)) (set_of l.initial.s l.to))
