-- `conjunct::change_each` meets its contract: a loop that changes words (`Words.Changed`), each by f.
use native.Mathlib.Omega.{arith}
use Rattle.conjunct.proofs.Words.{changed_none, changed_next, changed_all}
use Rattle.conjunct.proofs.change_each.Goals as goal

pub loop-i-init : goal.loop-i-init
loop-i-init g c = changed_none (omega arith)

pub loop-i-preserved : goal.loop-i-preserved
loop-i-preserved g c = changed_next c.loop-i.invariant c.f.result (omega arith) (λ k. k.1 _ _ c.f.ensures)

pub returns : goal.returns
returns g c = λ h e. changed_all c.loop-i.invariant (omega arith) (h, e)
