-- `sets::copy` meets its contract.
use mathlib.Core.Path.{◌≡◌, refl, ◌∙◌}
use Prim.Native.Nat.{◌+◌, ◌*◌}
use native.Mathlib.Omega.{arith}
use lib.ListN.{length-set}
use Rattle.sets.proofs.Copied.{copied_none, copied_next, region_copied, slots_apart, slots-before}
use Rattle.sets.specs.Region.{slot_words}
use Rattle.sets.proofs.copy.Goals as goal

pub loop-i-init : goal.loop-i-init
loop-i-init c =
    let a = c.args in
    let e = c.at_most-n.ensures in
    (e.0, e.1, refl, copied_none a.s.now (a.to + 1) (a.from + 1) 0 0 (omega arith))

pub copy_slot-requires : goal.copy_slot-requires
copy_slot-requires c =
    let a = c.args in
    let p = c.requires in
    let lp = c.loop-i in
    record { first = omega arith; second = omega arith; apart = slots_apart a.to a.from lp.i (omega arith) p.apart }

pub loop-i-preserved : goal.loop-i-preserved
loop-i-preserved c =
    let a = c.args in
    let p = c.requires in
    let lp = c.loop-i in
    let r = c.copy_slot in
    let target = a.to + 1 + slot_words * lp.i in
    let source = a.from + 1 + slot_words * lp.i in
    let next = copied_next a.s.now lp.s r.new.s (a.to + 1) (a.from + 1) 0 lp.i 0 (lp.i + 1) lp.i lp.invariant.2 r.auto.s
    (omega arith) (omega arith) (omega arith) (omega arith) (omega arith) (omega arith)
    (λ i x y. absurd (omega arith)) (λ i x y. (omega arith, y)) lp.invariant.3
    (slots-before a.to a.from lp.i (omega arith) p.apart) target source refl refl r.ensures in
    (lp.invariant.0, lp.invariant.1, r.auto.s ∙ lp.invariant.2, next)

pub shape_of-s : goal.shape_of-s
shape_of-s c =
    let lp = c.loop-i in
    length-set lp.s c.args.to c.at_most-n.result ∙ lp.invariant.2

pub returns : goal.returns
returns c =
    let a = c.args in
    let p = c.requires in
    let n = c.at_most-n.result in
    let lp = c.loop-i in
    let e : lp.i ≡ n = omega arith in
    region_copied a.s.now lp.s a.to a.from n lp.invariant.2 p.first lp.invariant.0 (rw e at lp.invariant.3)
