-- `filter::try_all` meets its contract. The loop's invariant: what is left to be evaluated answers for all.
use mathlib.Core.Path.{◌≡◌, sym, subst, ◌∙◌}
use mathlib.Core.List.{◌∷◌}
use Prim.Native.Nat.{◌+◌, ◌<◌}
use native.Mathlib.Omega.{arith}
use lib.ListN.{length, drop}
use Rattle.model.specs.Conjunct.{Conj}
use Rattle.model.specs.Failure.{first}
use Rattle.condition.specs.Answers.{conjuncts_of}
use Rattle.plan.specs.Part.{conjunct_of, IsConjunct}
use Rattle.plan.specs.Readings.{NoneBlank}
use Rattle.std.proofs.lemmas.Result.{err_from_is_err_and}
use Rattle.filter.proofs.Conjuncts.{conjunct-formed, conjunct-asked, next-conjunct, none_left}
use Rattle.filter.proofs.try_all.Goals as goal
use Rattle.filter.proofs.try_all.Goals.{After-conjunct-part}

-- ---- the next conjunct
module _ (c : After-conjunct-part) where
  abbrev next : Conj
  next = conjunct_of c.conjunct-part.result.now

  is-next : drop c.loop-place.place (conjuncts_of c.args.condition.now) ≡ next ∷ drop (c.loop-place.place + 1) (conjuncts_of c.args.condition.now)
  is-next =
      next-conjunct c.args.condition.now c.loop-place.place (omega (arith, c.conjuncts-n.ensures.many, c.loop-place-test.true))
      c.conjunct-part.result.now c.conjunct-part.ensures.nodes

pub first_failure-requires : goal.first_failure-requires
first_failure-requires c =
    let i = c.loop-place.place in
    let inside : c.loop-place.place < length (conjuncts_of c.args.condition.now) = omega (arith, c.conjuncts-n.ensures.many, c.loop-place-test.true) in
    let asked = NoneBlank c.args.counts.now in
    record {
      conjunct = subst IsConjunct (sym c.conjunct-part.ensures.is-part)
          (conjunct-formed c.args.condition.now c.conjuncts-n.ensures.read i inside);
      lent = c.requires.lent;
      none-blank = conjunct-asked c.args.condition.now i asked c.requires.none-blank inside
          c.conjunct-part.result.now
          c.conjunct-part.ensures.nodes;
    }

pub returns-in_err-first_failure : goal.returns-in_err-first_failure
unfolding first
returns-in_err-first_failure c = λ I d.
    let p = err_from_is_err_and c.from_residual.result c.from_residual.ensures.1 in
    rw (p.1, p.2)
    (sym (c.loop-place.invariant I d ∙ rw (is-next (goal.at.returns-in_err-first_failure c).After-conjunct-part, sym (c.in_err-first_failure.ensures I d))))

pub loop-place-preserved : goal.loop-place-preserved
unfolding first
loop-place-preserved c = λ I d.
    c.loop-place.invariant I d ∙ rw (is-next (goal.at.loop-place-preserved c).After-conjunct-part, sym (c.in_ok-first_failure.ensures I d))

pub returns : goal.returns
unfolding first
returns c = λ I d.
    let none = none_left c.args.condition.now c.loop-place.place (omega (arith, c.conjuncts-n.ensures.many)) in
    sym (c.loop-place.invariant I d ∙ rw none)
