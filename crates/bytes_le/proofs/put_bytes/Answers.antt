-- `bytes_le::put_bytes` meets its contract.
use Rattle.std.proofs.Common.{◌+◌, ap, ◌∙◌, rules, arith, get_or, set, length-set}
use Rattle.bytes_le.proofs.Overlays.{overlay-none, overlay_more}
use Rattle.bytes_le.proofs.put_bytes.Goals as goal

pub loop-i-init : goal.loop-i-init
loop-i-init c = (search rules, overlay-none c.args.out.now c.args.a)

pub loop-i-preserved : goal.loop-i-preserved
loop-i-preserved c =
    let a = c.args in
    let lp = c.loop-i in
    let v = get_or a.from.now lp.i 0 in (
      length-set lp.out (a.a + lp.i) v ∙ lp.invariant.0,
      ap (λ l. set l (a.a + lp.i) v) lp.invariant.1 ∙ overlay_more a.out.now a.a a.from.now lp.i (omega arith),
    )
