-- `condition::Condition::conjuncts` meets its contract.
use Rattle.condition.proofs.Table.{conjuncts-read, form-read}
use Rattle.condition.proofs.Condition.conjuncts.Goals as goal

pub returns-clause-many : goal.returns-clause-many
returns-clause-many c = rw (← c.self.view_is) (conjuncts-read c.self.inside.bytes.now c.self.inside.counts c.self.invariant)

pub returns-clause-read : goal.returns-clause-read
returns-clause-read c = rw (← c.self.view_is) (form-read c.self.inside.bytes.now c.self.inside.counts c.self.invariant)
