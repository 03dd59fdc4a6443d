-- `program::calls::beginning` meets its contract. The invariant: the beginnings from number p on are those from i on without the first `left`.
use mathlib.Core.Path.{◌≡◌, sym, ap, ◌∙◌}
use Prim.Native.Nat.{◌≤◌, ◌<◌}
use native.Mathlib.Omega.{arith}
use borrow.Author.Tests.{eq-eqb, ne_eqb}
use lib.ListN.{length}
use Rattle.model.specs.Program.{Tables, Statement}
use Rattle.program.specs.Numbers.{procedure_kind}
use Rattle.program.specs.Reading.{tables_of, statement_of}
use Rattle.program.proofs.calls.Beginnings.{seek_past, seek_next, seek_found, seek_none}
use Rattle.program.proofs.calls.beginning.Goals as goal
use Rattle.program.proofs.calls.beginning.Goals.{At-loop-i, Else-kind_at-ne-PROCEDURE, In-loop-i}

abbrev tables : At-loop-i → Tables
tables c = tables_of c.args.program.now

in_list : (c : In-loop-i) → c.loop-i.i < length (tables (goal.at.In-loop-i c).At-loop-i).statements
in_list c = omega arith

-- the statement of a turn begins a procedure
is-procedure : (c : Else-kind_at-ne-PROCEDURE) → (statement_of (tables (goal.at.Else-kind_at-ne-PROCEDURE c).At-loop-i) c.loop-i.i).kind ≡ procedure_kind
is-procedure c = sym c.kind_at.ensures ∙ c.if-kind_at-ne-PROCEDURE.false

abbrev zeros : Statement
zeros = record { kind = 0; a = 0; b = 0; c = 0; imm = 0 }

-- ---- the answers
pub loop-i-preserved-then-kind_at-ne-PROCEDURE : goal.loop-i-preserved-then-kind_at-ne-PROCEDURE
loop-i-preserved-then-kind_at-ne-PROCEDURE c =
    let lp = c.loop-i in
    let ss = (tables (goal.at.loop-i-preserved-then-kind_at-ne-PROCEDURE c).At-loop-i).statements in
    let p = c.args.p in
    seek_past zeros ss p lp.left lp.i lp.invariant (in_list (goal.at.loop-i-preserved-then-kind_at-ne-PROCEDURE c).In-loop-i) (λ e. c.if-kind_at-ne-PROCEDURE.true (c.kind_at.ensures ∙ e))

pub returns-then-left-eq0 : goal.returns-then-left-eq0
returns-then-left-eq0 c =
    let lp = c.loop-i in
    let ss = (tables (goal.at.returns-then-left-eq0 c).At-loop-i).statements in
    let same = is-procedure (goal.at.returns-then-left-eq0 c).Else-kind_at-ne-PROCEDURE in
    let found = seek_found zeros ss c.args.p lp.left lp.i lp.invariant (in_list (goal.at.returns-then-left-eq0 c).In-loop-i) same c.if-left-eq0.true in
    let kind = ap (λ (q : Statement). q.kind) c.statement.ensures.0 ∙ same in
    (c.statement.ensures.0 ∙ sym found.0, eq-eqb _ _ kind ∙ sym found.1)

pub loop-i-preserved : goal.loop-i-preserved
loop-i-preserved c =
    let lp = c.loop-i in
    let ss = (tables (goal.at.loop-i-preserved c).At-loop-i).statements in
    let p = c.args.p in
    seek_next zeros ss p lp.left lp.i lp.invariant (in_list (goal.at.loop-i-preserved c).In-loop-i) (is-procedure (goal.at.loop-i-preserved c).Else-kind_at-ne-PROCEDURE) (omega arith)

pub returns : goal.returns
returns c =
    let lp = c.loop-i in
    let ss = (tables (goal.at.returns c).At-loop-i).statements in
    let past : length ss ≤ lp.i = omega arith in
    let none = seek_none zeros ss c.args.p lp.left lp.i lp.invariant past in
    (sym none.0, ne_eqb 0 procedure_kind (λ e. absurd (omega arith)) ∙ sym none.1)
