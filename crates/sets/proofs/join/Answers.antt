-- `sets::join` meets its contract: after k turns the region has what the first k conjuncts and its own make.
use mathlib.Core.Path.{◌≡◌, refl, sym, ap, subst, ◌∙◌}
use Prim.Native.Nat.{◌<◌}
use native.Mathlib.Omega.{arith}
use lib.ListN.{length, take}
use lib.Seq.{take-length}
use Rattle.model.specs.Conjunct.{union_of}
use Rattle.model.specs.TidySets.{Canon}
use Rattle.model.proofs.Conjuncts.Canonical.{union_canon}
use Rattle.conjunct.specs.Value.{conj_of}
use Rattle.sets.proofs.Inserting.{turn-over, turn-done, union_none}
use Rattle.sets.proofs.Rows.{within_trans}
use Rattle.sets.specs.Region.{set_of, Within}
use Rattle.sets.proofs.join.Goals as goal

pub loop-k-init : goal.loop-k-init
loop-k-init c =
    let a = c.args in (
      c.size-count.ensures.0,
      refl,
      refl,
      λ i h. refl,
      union_none (set_of a.s.now a.from) (set_of a.s.now a.to),
    )

pub insert-requires : goal.insert-requires
insert-requires c =
    let a = c.args in
    let lp = c.loop-k in
    let canon = union_canon (take lp.k (set_of a.s.now a.from)) (set_of a.s.now a.to) c.requires.0.canon in (
      record { there = omega (arith, lp.invariant.1, c.requires.0.regions.first); canon = subst Canon (sym lp.invariant.4) canon },
      record { few = c.get-n.ensures.0; there = omega (arith, c.get-n.ensures.0, c.get-n.auto.out, lp.invariant.2, c.requires.1) },
    )

pub returns-then-not-insert : goal.returns-then-not-insert
returns-then-not-insert c =
    let a = c.args in
    let p = c.requires.0 in
    let lp = c.loop-k in
    let e = c.get-n in
    let i = c.insert in
    let this = conj_of e.new.out e.result in
    let few : lp.k < length (set_of a.s.now a.from) = omega (arith, lp.invariant.0, c.loop-k-test.true) in
    let over =
    turn-over a.s.now lp.s i.new.s a.to a.from lp.k this p.regions.second p.regions.apart p.canon lp.invariant.1 lp.invariant.3
    few e.ensures.1 lp.invariant.4 i.result c.if-not-insert.true i.ensures.0 in
    -- nothing outside of the region differs
    let outside : Within a.to a.s.now i.new.s = within_trans a.to a.s.now lp.s i.new.s lp.invariant.3 i.ensures.1 in
    (over, outside)

pub loop-k-preserved : goal.loop-k-preserved
loop-k-preserved c =
    let a = c.args in
    let p = c.requires.0 in
    let lp = c.loop-k in
    let e = c.get-n in
    let i = c.insert in
    let this = conj_of e.new.out e.result in
    let few : lp.k < length (set_of a.s.now a.from) = omega (arith, lp.invariant.0, c.loop-k-test.true) in
    let done =
    turn-done a.s.now lp.s i.new.s a.to a.from lp.k this p.regions.second p.regions.apart p.canon lp.invariant.1 lp.invariant.3
    few e.ensures.1 lp.invariant.4 i.result c.if-not-insert.false i.ensures.0 in
    -- nothing outside of the region differs
    let outside : Within a.to a.s.now i.new.s = within_trans a.to a.s.now lp.s i.new.s lp.invariant.3 i.ensures.1 in
    (lp.invariant.0, i.auto.s ∙ lp.invariant.1, e.auto.out ∙ lp.invariant.2, outside, done)

pub returns : goal.returns
returns c =
    let a = c.args in
    let F = set_of a.s.now a.from in
    let all : c.loop-k.k ≡ length F = omega (arith, c.loop-k.invariant.0) in
    (c.loop-k.invariant.4 ∙ ap (λ R. union_of R (set_of a.s.now a.to)) (ap (λ k. take k F) all ∙ take-length F), c.loop-k.invariant.3)
