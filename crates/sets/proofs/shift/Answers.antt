-- `sets::shift` meets its contract.
use mathlib.Core.Logic.{inl, inr}
use mathlib.Core.Path.{◌≡◌, refl, ◌∙◌}
use Prim.Native.Nat.{◌+◌, ◌-◌, ◌*◌}
use native.Mathlib.Omega.{arith}
use Rattle.sets.proofs.Copied.{copied_none, copied_next, copied_rows}
use Rattle.sets.specs.Region.{slot_words}
use Rattle.sets.proofs.shift.Goals as goal

pub loop-k-init : goal.loop-k-init
loop-k-init c =
    let a = c.args in
    (refl, copied_none a.s.now (a.a + slot_words) a.a a.n a.n (omega arith))

pub copy_slot-requires : goal.copy_slot-requires
copy_slot-requires c =
    record { first = omega arith; second = omega arith; apart = inr (omega arith) }

pub loop-k-preserved : goal.loop-k-preserved
loop-k-preserved c =
    let a = c.args in
    let lp = c.loop-k in
    let r = c.copy_slot in
    let k = lp.k - 1 in
    let next = copied_next a.s.now lp.s r.new.s (a.a + slot_words) a.a lp.k a.n k a.n k lp.invariant.0 r.auto.s
    (omega arith) (omega arith) (omega arith) (omega arith) (omega arith) (omega arith)
    (λ i x y. (omega arith, y)) (λ i x y. absurd (omega arith)) lp.invariant.1 (inl (omega arith)) (a.a + slot_words * k + slot_words)
    (a.a + slot_words * k) (omega arith) refl r.ensures in
    (r.auto.s ∙ lp.invariant.0, next)

pub returns : goal.returns
returns c =
    let a = c.args in
    let lp = c.loop-k in
    let e : lp.k ≡ 0 = omega arith in
    copied_rows lp.s a.s.now (a.a + slot_words) a.a a.n (rw e at lp.invariant.1)
