-- `filter::put_readings` meets its contract. The loop's invariant: the first k readings stand in their places.
use native.Mathlib.Omega.{arith}
use lib.ListN.{length}
use Rattle.model.specs.Input.{width}
use Rattle.input.proofs.Fields.{row-width, next-inside}
use Rattle.filter.proofs.put_readings.Goals as goal

pub put_reading-requires : goal.put_reading-requires
put_reading-requires c =
    let row = c.range_of-range.ensures in
    let a = c.args in
    record {
      row = (_, row);
      inside = rw (row-width _ _ row) (next-inside c.loop-k.k a.n (width a.ty) (length a.part.now) (omega arith) c.requires.inside);
      magnitude = omega (arith, c.loop-k.invariant.0);
      sign = omega (arith, c.loop-k.invariant.1);
    }
