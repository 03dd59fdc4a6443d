-- `analysis::gather_start` meets its contract: after k turns the room has what the first k conjuncts come to.
use mathlib.Core.List.{map}
use mathlib.Core.Path.{refl, sym, ap, ◌∙◌}
use native.Mathlib.Omega.{arith}
use Rattle.model.specs.Conjunct.{renumber}
use Rattle.model.specs.Walk.{zeroed}
use Rattle.conjunct.specs.Value.{conj_of}
use Rattle.sets.specs.Region.{set_of}
use Rattle.sets.proofs.Rows.{within_trans}
use Rattle.rules.proofs.Gathering.{gathered_canon}
use Rattle.analysis.proofs.Starting.{at_start, started_none, started_more, start-done}
use Rattle.analysis.proofs.gather_start.Goals as goal

pub loop-k-init : goal.loop-k-init
loop-k-init c =
    let a = c.args in
    (λ i h. refl, c.requires.0.empty ∙ sym (started_none (set_of a.s.now a.b)))

pub insert-requires : goal.insert-requires
insert-requires c =
    let n = c.get-n.ensures.0 in
    let words = c.renumber.auto.words ∙ c.at_start.auto.w ∙ c.get-n.auto.out ∙ c.loop-k.auto.e in (
      record {
        there = omega (arith, c.loop-k.auto.s, c.requires.0.there);
        canon = gathered_canon at_start (set_of c.args.s.now c.args.b) (set_of c.loop-k.s c.args.room) c.loop-k.k c.loop-k.invariant.1;
      },
      record { few = n; there = omega (arith, n, words, c.requires.1) },
    )

pub loop-k-preserved : goal.loop-k-preserved
loop-k-preserved c =
    let a = c.args in
    let this = c.renumber.ensures ∙ ap renumber (c.at_start.ensures ∙ ap (map zeroed) c.get-n.ensures.1) in (
      within_trans a.room a.s.now c.loop-k.s c.insert.new.s c.loop-k.invariant.0 c.insert.ensures.1,
      started_more a.s.now a.b a.room c.requires.0.apart c.requires.0.there c.loop-k.s c.insert.new.s c.loop-k.k (conj_of c.renumber.new.words c.get-n.result) c.insert.result
          c.loop-k.auto.s c.loop-k.invariant.0 (omega (arith, c.loop-k-test.true, c.size-count.ensures.0)) this c.loop-k.invariant.1 c.insert.ensures.0,
    )

pub returns : goal.returns
returns c =
    let a = c.args in
    (start-done a.s.now a.b c.loop-k.s a.room c.loop-k.k (omega (arith, c.size-count.ensures.0)) c.loop-k.invariant.1, c.loop-k.invariant.0)
