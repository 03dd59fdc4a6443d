-- `footprint::of_set` meets its contract.
use mathlib.Core.Path.{◌≡◌}
use lib.ListN.{length, take}
use Rattle.sets.specs.Region.{set_of}
use Rattle.footprint.specs.Footprints.{CoversSet}
use Rattle.footprint.proofs.of_set.Given as goal

abbrev pub invariant-loop-i : goal.invariant-loop-i
invariant-loop-i l = (l.n ≡ length (set_of l.s l.b)) × CoversSet l.r (take l.i (set_of l.s l.b))
