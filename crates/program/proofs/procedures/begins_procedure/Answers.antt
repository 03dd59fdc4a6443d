-- `program::procedures::begins_procedure` meets its contract.
use mathlib.Core.Path.{sym, ap, ◌∙◌}
use mathlib.Core.Bool.{not}
use Prim.Native.Nat.{ℕ, ◌≤◌}
use lib.Dec.{eqb}
use borrow.Author.Tests.{le-ltb}
use native.Mathlib.Omega.{arith}
use lib.ListN.{length, get_or-eq_default}
use Rattle.model.specs.Procedures.{Item, begins_none}
use Rattle.model.specs.Program.{items_of}
use Rattle.program.specs.Numbers.{procedure_kind}
use Rattle.program.specs.Reading.{tables_of, statement_of}
use Rattle.program.proofs.Items.{item_at_lem, items_length, begins_test}
use Rattle.program.proofs.procedures.begins_procedure.Goals as goal

pub returns-then-i-statements : goal.returns-then-i-statements
returns-then-i-statements c =
    let a = c.args in
    let T = tables_of a.program.now in
    ap (λ (k : ℕ). eqb k procedure_kind) c.kind_at.ensures
    ∙ begins_test T (statement_of T a.i) ∙ ap (λ (x : Item). not (begins_none x)) (sym (item_at_lem T a.i))

pub returns-else-i-statements : goal.returns-else-i-statements
returns-else-i-statements c =
    let a = c.args in
    let T = tables_of a.program.now in
    let past : length (items_of T) ≤ a.i = omega (arith, items_length T, c.if-i-statements.false) in
    rw (get_or-eq_default (items_of T) _ past, le-ltb _ _ c.if-i-statements.false)
