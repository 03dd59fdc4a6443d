-- `filter::products` meets its contract. The loop's invariant: what is told of the conjuncts before (`FirstPass`); the number of
-- combinations of the next tells of it (`Calls` of the evaluator).
use Rattle.model.specs.Input.{Input}
use Rattle.condition.specs.Answers.{conjuncts_of}
use Rattle.plan.specs.Readings.{Counted}
use Rattle.filter.proofs.FirstPass.{ToldTo}
use Rattle.filter.proofs.products.Given as goal

abbrev pub invariant-loop-i : goal.invariant-loop-i
invariant-loop-i l = (I : Input) → Counted I l.counts → ToldTo I (conjuncts_of l.condition) l.i l.many
