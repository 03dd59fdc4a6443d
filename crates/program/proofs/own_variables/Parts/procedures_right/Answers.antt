-- `program::own_variables::Parts::procedures_right` meets its contract.
use mathlib.Core.Path.{◌≡◌, sym, ap, ◌∙◌}
use mathlib.Core.Bool.{◌&&◌}
use mathlib.Core.List.{List}
use Prim.Native.Nat.{◌+◌}
use native.Mathlib.Omega.{arith}
use lib.ListN.{length, drop}
use Rattle.model.specs.Procedures.{Procedure, procedure_right_lem, procedures_right_lem}
use Rattle.model.specs.Program.{Tables}
use Rattle.program.specs.Parts.{procedures_in}
use Rattle.program.specs.Reading.{tables_of}
use Rattle.program.proofs.Listing.{procedures-length, procedure-at}
use Rattle.program.proofs.own_variables.Bodies.{ListedAt, listed_at, right-next, right-past}
use borrow.Author.Rules.{rules}
use Rattle.program.proofs.own_variables.Parts.procedures_right.Goals as goal
use Rattle.program.proofs.own_variables.Parts.procedures_right.Goals.{After-procedure_right, At-loop-p, In-loop-p}

abbrev tables : At-loop-p → Tables
tables c = tables_of c.args.self.now.program.now

abbrev listed : At-loop-p → List Procedure
listed c = procedures_in (tables c) c.args.self.now.table.now c.args.self.now.main.procedures

all : (c : At-loop-p) → length (listed c) ≡ c.args.self.now.main.procedures
all c = procedures-length (tables c) c.args.self.now.table.now c.args.self.now.main.procedures

-- where the procedure of a turn stands
stands : (c : In-loop-p) → ListedAt c.args.self.now.program.now c.args.self.now.table.now c.loop-p.p
stands c =
    let a = c.args in
    listed_at a.self.now.program.now a.self.now.table.now a.self.now.main c.args.self.now.listed c.loop-p.p (omega arith)

-- the test of it, and of those after it
tested : (c : After-procedure_right) → let p = c.loop-p.p in
    procedures_right_lem 0 (listed (goal.at.After-procedure_right c).At-loop-p) ≡ (c.procedure_right.result && procedures_right_lem (p + 1) (drop (p + 1) (listed (goal.at.After-procedure_right c).At-loop-p)))
tested c =
    let p = c.loop-p.p in
    let one = procedure-at (tables (goal.at.After-procedure_right c).At-loop-p) c.args.self.now.table.now c.args.self.now.main.procedures p (omega arith) in
    let later = procedures_right_lem (p + 1) (drop (p + 1) (listed (goal.at.After-procedure_right c).At-loop-p)) in
    c.loop-p.invariant ∙ right-next (listed (goal.at.After-procedure_right c).At-loop-p) p (rw (all (goal.at.After-procedure_right c).At-loop-p) (omega arith))
    ∙ ap (λ (q : Procedure). procedure_right_lem p q && later) one ∙ ap (◌&& later) (sym c.procedure_right.ensures)

-- ---- the answers
pub offset_bounds-self-p : goal.offset_bounds-self-p
offset_bounds-self-p c = search (rules, stands c)

pub bounds-self-p : goal.bounds-self-p
bounds-self-p c = omega (arith, (stands (goal.at.bounds-self-p c).In-loop-p).room)

pub procedure_right-requires : goal.procedure_right-requires
procedure_right-requires c =
    record { later = (stands (goal.at.procedure_right-requires c).In-loop-p).later; inside = omega (arith, (stands (goal.at.procedure_right-requires c).In-loop-p).inside) }

pub returns-then-not-procedure_right : goal.returns-then-not-procedure_right
returns-then-not-procedure_right c =
    let p = c.loop-p.p in
    sym (tested (goal.at.returns-then-not-procedure_right c).After-procedure_right ∙ ap (◌&& procedures_right_lem (p + 1) (drop (p + 1) (listed (goal.at.returns-then-not-procedure_right c).At-loop-p))) (c.if-not-procedure_right.true))

pub loop-p-preserved : goal.loop-p-preserved
loop-p-preserved c =
    let p = c.loop-p.p in
    tested (goal.at.loop-p-preserved c).After-procedure_right ∙ ap (◌&& procedures_right_lem (p + 1) (drop (p + 1) (listed (goal.at.loop-p-preserved c).At-loop-p))) (c.if-not-procedure_right.false)

pub returns : goal.returns
returns c =
    sym (c.loop-p.invariant ∙ right-past (listed (goal.at.returns c).At-loop-p) c.loop-p.p (rw (all (goal.at.returns c).At-loop-p) (omega arith)))
