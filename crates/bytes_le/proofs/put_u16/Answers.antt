-- `bytes_le::put_u16` meets its contract.
use Rattle.std.proofs.Common.{◌∙◌, ap, arith, take}
use Rattle.bytes_le.specs.Overlay.{overlay}
use Rattle.bytes_le.proofs.Overlays.{bytes2-are}
use Rattle.bytes_le.proofs.put_u16.Goals as goal

pub returns : goal.returns
returns c =
    let a = c.args in
    c.put_bytes.ensures ∙ ap (λ bs. overlay a.out.now a.a (take 2 bs)) c.to_le_bytes.ensures ∙ ap (overlay a.out.now a.a) (bytes2-are a.v (omega arith))
