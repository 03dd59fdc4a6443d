-- `sets::equal` meets its contract.
use mathlib.Core.Path.{refl, sym, ◌∙◌}
use native.Mathlib.Omega.{arith}
use Rattle.sets.proofs.Inserting.{same_lengths, same_next, same_end}
use Rattle.sets.proofs.Rows.{set-length, set_at}
use Rattle.sets.specs.Region.{set_of}
use Rattle.sets.proofs.equal.Goals as goal

pub returns-then-n-m : goal.returns-then-n-m
returns-then-n-m c =
    let a = c.args in
    same_lengths (set_of a.s.now a.a) (set_of a.s.now a.b) (λ e.
    c.if-n-m.true
    (c.at_most-n.ensures.0 ∙ sym (set-length a.s.now a.a) ∙ e ∙ set-length a.s.now a.b
    ∙ sym c.at_most-m.ensures.0))

pub loop-i-init : goal.loop-i-init
loop-i-init c =
    let a = c.args in
    let n = c.at_most-n.ensures in
    let m = c.at_most-m.ensures in
    let p = n.0 ∙ sym (set-length a.s.now a.a) in
    let q = m.0 ∙ sym (set-length a.s.now a.b) in
    (omega arith, p, omega arith, refl)

pub returns-then-not-same_slot : goal.returns-then-not-same_slot
returns-then-not-same_slot c =
    let a = c.args in
    let s = a.s.now in
    let lp = c.loop-i in
    let p = set_at s a.a lp.i (omega (arith, set-length s a.a)) in
    let q = set_at s a.b lp.i (omega (arith, set-length s a.b)) in
    let t = same_next (set_of s a.a) (set_of s a.b) lp.i (omega arith) (omega arith) in
    sym (lp.invariant.3 ∙ t ∙ rw (p, q, ← c.same_slot.ensures, c.if-not-same_slot.true))

pub loop-i-preserved : goal.loop-i-preserved
loop-i-preserved c =
    let a = c.args in
    let s = a.s.now in
    let lp = c.loop-i in
    let p = set_at s a.a lp.i (omega (arith, set-length s a.a)) in
    let q = set_at s a.b lp.i (omega (arith, set-length s a.b)) in
    let t = same_next (set_of s a.a) (set_of s a.b) lp.i (omega arith) (omega arith) in (
      lp.invariant.0,
      lp.invariant.1,
      lp.invariant.2,
      lp.invariant.3 ∙ t ∙ rw (p, q, ← c.same_slot.ensures, c.if-not-same_slot.false),
    )

pub returns : goal.returns
returns c =
    let a = c.args in
    let lp = c.loop-i in
    sym (lp.invariant.3 ∙ same_end (set_of a.s.now a.a) (set_of a.s.now a.b) lp.i (omega arith) (omega arith))
