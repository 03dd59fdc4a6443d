-- `program::calls::arguments_agree` meets its contract. The invariant: the bytes before j agree, those from j on are left.
use mathlib.Core.Path.{◌≡◌, sym, ap, ◌∙◌}
use mathlib.Core.Bool.{◌&&◌}
use mathlib.Core.List.{List}
use Prim.Native.Nat.{ℕ, ◌<◌, ◌-◌, ◌+◌}
use native.Mathlib.Omega.{arith}
use lib.Dec.{eqb}
use lib.ListN.{length, take, drop}
use borrow.Author.Tests.{eq-eqb, ne_eqb}
use Rattle.model.specs.Bytes.{bytes4}
use Rattle.model.specs.Program.{Tables, variable_type_lem, all_alike}
use Rattle.program.specs.Reading.{tables_of}
use Rattle.program.proofs.calls.Arguments.{alike_next, alike_all, alike-past, four_bytes}
use Rattle.std.proofs.Common.{◌⊎◌, ◌≤◌, inl, inr}
use Rattle.program.proofs.calls.arguments_agree.Goals as goal
use Rattle.program.proofs.calls.arguments_agree.Goals.{After-variable_type, At-loop-j}

abbrev tables : At-loop-j → Tables
tables c = tables_of c.args.program.now

abbrev bytes : At-loop-j → List ℕ
bytes c = bytes4 c.args.imm

-- the argument of a turn
looked_at : (c : After-variable_type) → let a = c.args in
    let j = c.loop-j.j in
    all_alike (tables (goal.at.After-variable_type c).At-loop-j) (take a.n (bytes (goal.at.After-variable_type c).At-loop-j)) a.x
    ≡ (eqb c.variable_type-given.result c.variable_type.result && all_alike (tables (goal.at.After-variable_type c).At-loop-j) (take (a.n - (j + 1)) (drop (j + 1) (bytes (goal.at.After-variable_type c).At-loop-j))) (a.x + (j + 1)))
looked_at c =
    let a = c.args in
    let inside : c.loop-j.j < length (bytes (goal.at.After-variable_type c).At-loop-j) = rw (four_bytes a.imm) (omega arith) in
    let given = c.variable_type-given.ensures ∙ ap (variable_type_lem (tables (goal.at.After-variable_type c).At-loop-j)) c.argument.ensures in
    c.loop-j.invariant
    ∙ alike_next (tables (goal.at.After-variable_type c).At-loop-j) a.n (bytes (goal.at.After-variable_type c).At-loop-j) a.x c.loop-j.j _ _ given c.variable_type.ensures inside (omega arith)

-- ---- the answers
pub returns-then-given-variable_type : goal.returns-then-given-variable_type
returns-then-given-variable_type c = sym (looked_at (goal.at.returns-then-given-variable_type c).After-variable_type ∙ rw (ne_eqb _ _ c.if-given-variable_type.true))

pub loop-j-preserved : goal.loop-j-preserved
loop-j-preserved c = (looked_at (goal.at.loop-j-preserved c).After-variable_type ∙ rw (eq-eqb _ _ c.if-given-variable_type.false))

pub returns : goal.returns
returns c =
    let a = c.args in
    let T = tables (goal.at.returns c).At-loop-j in
    let bs = bytes (goal.at.returns c).At-loop-j in
    let j = c.loop-j.j in
    let past : (a.n ≤ j) ⊎ (4 ≤ j) = grind (arith, c.min-j-end.ensures) in
    elim past [
      | inl h ↦ sym (c.loop-j.invariant ∙ alike_all T a.n bs a.x j h)
      | inr h ↦ sym (c.loop-j.invariant ∙ alike-past T a.n bs a.x j (rw (four_bytes a.imm) h))
    ]
