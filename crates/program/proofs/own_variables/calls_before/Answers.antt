-- `program::own_variables::calls_before` meets its contract.
use mathlib.Core.Path.{sym}
use Rattle.program.specs.Reading.{entry_of}
use Rattle.program.proofs.Items.{item_call, calls-none}
use borrow.Author.Tests.{ne_eqb}
use Rattle.program.proofs.own_variables.calls_before.Goals as goal

pub returns-then-q-ne-CALL : goal.returns-then-q-ne-CALL
returns-then-q-ne-CALL c = λ T. rw (ne_eqb _ _ c.if-q-ne-CALL.true) (sym (calls-none T (entry_of c.args.q) c.args.n c.if-q-ne-CALL.true))

pub returns-else-q-ne-CALL : goal.returns-else-q-ne-CALL
returns-else-q-ne-CALL c = λ T. rw (item_call T (entry_of c.args.q) c.if-q-ne-CALL.false)
