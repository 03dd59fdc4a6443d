-- `sets::rises` meets its contract: so far the conjuncts rise.
use mathlib.Core.Path.{◌≡◌, sym, ◌∙◌}
use Prim.Native.Nat.{◌+◌, ◌-◌, ◌*◌}
use native.Mathlib.Omega.{arith}
use Rattle.model.proofs.Basics.Tests.{true→T}
use Rattle.sets.proofs.Places.{rising-one, rising-next, rising-all}
use Rattle.sets.proofs.Rows.{set-length, set_at}
use Rattle.conjunct.specs.Value.{ordering_of}
use Rattle.sets.specs.Region.{set_of, slot_words}
use Rattle.std.proofs.Common.{false, refl}
use Rattle.std.specs.declared.cmp.Ordering.{Ordering as Compared}
use Rattle.std.specs.declared.cmp.Ordering.TheVariants.{Less, Equal, Greater}
use Rattle.std.specs.Ordering.{is_ge}
use Prim.Native.Nat.{Ordering}
use Rattle.sets.proofs.rises.Goals as goal

is_less : (o : Compared) → is_ge o ≡ false → ordering_of o ≡ Ordering.lt
is_less Less h = refl
is_less Equal h = cc
is_less Greater h = cc

pub loop-i-init : goal.loop-i-init
loop-i-init c =
    let a = c.args in
    let n = c.at_most-n.ensures in
    (n.1, n.0 ∙ sym (set-length a.s.now a.base), rising-one (set_of a.s.now a.base))

pub loop-i-preserved : goal.loop-i-preserved
loop-i-preserved c =
    let lp = c.loop-i in
    let s = c.args.s.now in
    let b = c.args.base in
    let i = lp.i in
    let this = set_at s b (i - 1) (omega (arith, set-length s b)) in
    let next = set_at s b i (omega (arith, set-length s b)) in
    let at : b + 1 + slot_words * i - slot_words ≡ b + 1 + slot_words * (i - 1) = omega arith in
    let less = is_less c.order_slots.result (sym c.is_ge.ensures ∙ c.if-is_ge.false) in
    (lp.invariant.0, lp.invariant.1, rising-next (set_of s b) i (omega arith) (omega arith) (rw (this, next, ← at) (sym c.order_slots.ensures ∙ less)) lp.invariant.2)

pub returns-then-is_ge : goal.returns-then-is_ge
returns-then-is_ge c = λ t. absurd (true→T t)

pub returns : goal.returns
returns c =
    let lp = c.loop-i in
    let a = c.args in
    λ t. rising-all (set_of a.s.now a.base) lp.i (omega arith) lp.invariant.2
