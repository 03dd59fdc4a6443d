-- `sets::slots::write_slot` meets its contract.
use mathlib.Core.Path.{◌≡◌, refl, ap, ◌∙◌}
use Prim.Native.Nat.{◌+◌}
use native.Mathlib.Omega.{arith}
use lib.ListN.{take, get_or, set, length-set}
use Rattle.bytes_le.proofs.Overlays.{overlay-none, overlay_more}
use Rattle.sets.proofs.slots.Words.{written}
use Rattle.sets.proofs.slots.write_slot.Goals as goal

pub loop-j-init : goal.loop-j-init
loop-j-init c =
    let a = c.args in
    let h = length-set a.s.now a.a a.n in
    (refl, overlay-none (set a.s.now a.a a.n) (a.a + 1), omega (arith, h))

pub loop-j-preserved : goal.loop-j-preserved
loop-j-preserved c =
    let a = c.args in
    let l = c.loop-j in
    let v = get_or a.w.now l.j 0 in
    let h = length-set l.s (a.a + 1 + l.j) v in (
      h ∙ l.invariant.0,
      ap (λ s. set s (a.a + 1 + l.j) v) l.invariant.1 ∙ overlay_more (set a.s.now a.a a.n) (a.a + 1) a.w.now l.j (omega arith),
      omega (arith, h),
    )

pub returns : goal.returns
returns c =
    let a = c.args in
    let l = c.loop-j in
    let e : l.j ≡ a.n = omega arith in
    (rw e at l.invariant.1) ∙ written a.s.now (take a.n a.w.now) a.a a.n
