-- `filter::put_readings` meets its contract. The loop's invariant: the first k readings stand in their places.
use mathlib.Core.Path.{◌≡◌}
use Prim.Native.Nat.{◌*◌}
use lib.ListN.{length}
use Rattle.model.specs.Input.{width, reading_at_lem}
use Rattle.plan.specs.Readings.{signed_at}
use Rattle.filter.specs.Decoding.{Filled}
use Rattle.filter.proofs.put_readings.Given as goal

abbrev pub invariant-loop-k : goal.invariant-loop-k
invariant-loop-k l =
    (length l.mags ≡ length l.initial.mags) × (length l.negs ≡ length l.initial.negs)
    × Filled (λ j. reading_at_lem l.ty l.part (j * width l.ty)) l.from l.k (signed_at l.initial.mags l.initial.negs) (signed_at l.mags l.negs)
