-- `widening::put_later` meets its contract.
use Prim.Native.Nat.{◌+◌}
use native.Mathlib.Omega.{arith}
use Rattle.model.specs.Bytes.{bytes4}
use Rattle.bytes_le.proofs.Overlays.{stored_then}
use Rattle.widening.proofs.NewFiles.{four}
use Rattle.widening.proofs.put_later.Goals as goal

pub returns : goal.returns
returns c =
    let a = c.args in
    let p = c.requires in
    let at = c.u32_at.ensures.0 in
    rw (← at, ← c.u32_at-len.ensures.0, ← p.is)
    (stored_then a.file.now _ _ (bytes4 (c.u32_at.result + a.count)) (bytes4 c.u32_at-len.result) a.at (a.at + 4)
    (omega (arith, four (c.u32_at.result + a.count))) c.put_u32.ensures c.put_u32-2.ensures)
