-- `writer::put_pair` meets its contract.
use Prim.Native.Nat.{◌+◌, ◌*◌}
use native.Mathlib.Omega.{arith}
use Rattle.model.specs.Bytes.{bytes4}
use Rattle.bytes_le.proofs.Overlays.{stored_then}
use Rattle.writer.proofs.Written.{four_bytes}
use Rattle.writer.proofs.put_pair.Goals as goal

pub returns : goal.returns
returns c =
    let a = c.args in
    stored_then a.out.now _ _ (bytes4 a.place) (bytes4 (8 * a.n)) a.a (a.a + 4) (omega (arith, four_bytes a.place))
    c.put_u32.ensures c.put_u32-2.ensures
