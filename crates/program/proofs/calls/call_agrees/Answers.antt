-- `program::calls::call_agrees` meets its contract.
use borrow.Author.Tests.{eq-eqb, ne_eqb, lt-ltb, le-ltb}
use Rattle.model.specs.Program.{call_alike}
use Rattle.program.proofs.calls.call_agrees.Goals as goal
use Rattle.program.proofs.calls.call_agrees.Goals.{then-count-eq0-via-then-count-eq0, then-count-eq0-via-else-count-eq0+then-count-params}

pub returns-then-count-eq0 : goal.returns-then-count-eq0
unfolding call_alike
returns-then-count-eq0 c =
    elim c.then-count-eq0.branch [
      | then-count-eq0-via-then-count-eq0 w ↦ rw (← c.beginning-begun.ensures.0, eq-eqb _ _ w.if-count-eq0.true)
      | then-count-eq0-via-else-count-eq0+then-count-params w ↦
          rw (← c.beginning-begun.ensures.0, ne_eqb _ _ w.if-count-eq0.false, lt-ltb _ _ w.if-count-params.true)
    ]

pub returns-then-arguments_agree : goal.returns-then-arguments_agree
unfolding call_alike
returns-then-arguments_agree c =
    rw (
      ← c.beginning-begun.ensures.0,
      ne_eqb _ _ c.if-count-eq0.false,
      le-ltb _ _ c.if-count-params.false,
      ← c.arguments_agree.ensures,
      c.if-arguments_agree.true,
      c.variable_type.ensures,
      c.variable_type-then-arguments_agree.ensures,
    )

pub returns-else-arguments_agree : goal.returns-else-arguments_agree
unfolding call_alike
returns-else-arguments_agree c =
    rw (
      ← c.beginning-begun.ensures.0,
      ne_eqb _ _ c.if-count-eq0.false,
      le-ltb _ _ c.if-count-params.false,
      ← c.arguments_agree.ensures,
      c.if-arguments_agree.false,
    )
