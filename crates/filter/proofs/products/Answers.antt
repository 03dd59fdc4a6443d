-- `filter::products` meets its contract. The loop's invariant: what is told of the conjuncts before (`FirstPass`); the number of
-- combinations of the next tells of it (`Calls` of the evaluator).
use mathlib.Core.Path.{◌≡◌, sym, subst, ◌∙◌}
use mathlib.Core.List.{[], ◌∷◌}
use Prim.Native.Nat.{◌+◌}
use native.Mathlib.Omega.{arith}
use lib.Dec.{ltb, leb}
use lib.ListN.{drop}
use borrow.Author.Tests.{lt-ltb, le-ltb, le-leb, lt-leb}
use Rattle.model.specs.Sizes.{most_combinations}
use Rattle.model.specs.Conjunct.{Conj}
use Rattle.model.specs.Input.{Input}
use Rattle.model.specs.Filter.{few_combinations, has_readings}
use Rattle.condition.specs.Answers.{conjuncts_of}
use Rattle.plan.specs.Part.{conjunct_of, IsConjunct}
use Rattle.plan.specs.Readings.{Counted}
use Rattle.evaluator.proofs.Calls.{product-few, product-readings}
use Rattle.filter.proofs.Conjuncts.{conjunct-formed, next-conjunct, none_left}
use Rattle.filter.proofs.FirstPass.{ToldTo, told_blank, told_many, told_few, told_within, told_too_many}
use Rattle.filter.proofs.products.Goals as goal
use Rattle.filter.proofs.products.Goals.{After-loop-i, After-product-p, then-p-gt-LIMIT, else-p-gt-LIMIT}

-- ---- what is known of the next conjunct
module _ (c : After-product-p) where
  abbrev next : Conj
  next = conjunct_of c.conjunct-part.result.now

  is-next : drop c.loop-i.i (conjuncts_of c.args.condition.now) ≡ next ∷ drop (c.loop-i.i + 1) (conjuncts_of c.args.condition.now)
  is-next =
      next-conjunct c.args.condition.now c.loop-i.i (omega (arith, c.conjuncts-n.ensures.many, c.loop-i-test.true))
      c.conjunct-part.result.now c.conjunct-part.ensures.nodes

  module _ (I : Input) (n : Counted I c.args.counts.now) where
    readings_told : ltb 0 c.product-p.result ≡ has_readings I next
    readings_told = product-readings next c.args.counts.now c.product-p.result c.product-p.ensures I n

    combinations_told : leb c.product-p.result most_combinations ≡ few_combinations I next
    combinations_told = product-few next c.args.counts.now c.product-p.result c.product-p.ensures I n

pub product-p-requires : goal.product-p-requires
product-p-requires c =
    let formed = conjunct-formed c.args.condition.now c.conjuncts-n.ensures.read c.loop-i.i (omega (arith, c.conjuncts-n.ensures.many, c.loop-i-test.true)) in
    (subst IsConjunct (sym c.conjunct-part.ensures.is-part) formed, c.requires)

pub returns-then-p-eq0 : goal.returns-then-p-eq0
returns-then-p-eq0 c = λ I n.
    let blank = sym (readings_told (goal.at.returns-then-p-eq0 c).After-product-p I n) ∙ le-ltb 0 c.product-p.result (omega (arith, c.if-p-eq0.true)) in
    told_blank I (conjuncts_of c.args.condition.now) c.loop-i.i c.loop-i.many (c.loop-i.invariant I n) (next (goal.at.returns-then-p-eq0 c).After-product-p) (is-next (goal.at.returns-then-p-eq0 c).After-product-p) blank

pub loop-i-preserved : goal.loop-i-preserved
loop-i-preserved c = λ I n.
    let r = c.product-p.result in
    let S = (conjuncts_of c.args.condition.now) in
    let so_far = c.loop-i.invariant I n in
    let full = sym (readings_told (goal.at.loop-i-preserved c).After-product-p I n) ∙ lt-ltb 0 r (omega (arith, c.if-p-eq0.false)) in
    elim c.if-p-gt-LIMIT.branch [
      | then-p-gt-LIMIT w ↦
          let above = sym (combinations_told (goal.at.loop-i-preserved c).After-product-p I n) ∙ lt-leb r most_combinations (omega (arith, w.if-p-gt-LIMIT.true)) in
          subst (ToldTo I S (c.loop-i.i + 1)) (sym w.many-is) (told_many I S c.loop-i.i c.loop-i.many so_far (next (goal.at.loop-i-preserved c).After-product-p) (is-next (goal.at.loop-i-preserved c).After-product-p) full above)
      | else-p-gt-LIMIT w ↦
          let within = sym (combinations_told (goal.at.loop-i-preserved c).After-product-p I n) ∙ le-leb r most_combinations (omega (arith, w.if-p-gt-LIMIT.false)) in
          subst (ToldTo I S (c.loop-i.i + 1)) (sym w.many-is) (told_few I S c.loop-i.i c.loop-i.many so_far (next (goal.at.loop-i-preserved c).After-product-p) (is-next (goal.at.loop-i-preserved c).After-product-p) full within)
    ]

-- the loop has come to its end
none-is-left : (c : After-loop-i) → drop c.loop-i.i (conjuncts_of c.args.condition.now) ≡ []
none-is-left c =
    none_left c.args.condition.now c.loop-i.i (omega (arith, c.conjuncts-n.ensures.many))

pub returns-then-many : goal.returns-then-many
returns-then-many c = λ I n.
    told_too_many I (conjuncts_of c.args.condition.now) c.loop-i.i c.loop-i.many (c.loop-i.invariant I n) (none-is-left (goal.at.returns-then-many c).After-loop-i) c.if-many.true

pub returns : goal.returns
returns c = λ I n.
    told_within I (conjuncts_of c.args.condition.now) c.loop-i.i c.loop-i.many (c.loop-i.invariant I n) (none-is-left (goal.at.returns c).After-loop-i) c.if-many.false
