-- `program::own_variables::Parts::all_apart` meets its contract.
use mathlib.Core.Path.{◌≡◌, sym, ap, ◌∙◌}
use mathlib.Core.Bool.{◌&&◌}
use mathlib.Core.List.{List}
use Prim.Native.Nat.{◌+◌}
use native.Mathlib.Omega.{arith}
use lib.ListN.{length, drop}
use Rattle.model.specs.Lists.{every}
use Rattle.model.specs.Procedures.{Procedure, apart, all_apart_lem}
use Rattle.model.specs.Program.{Tables}
use Rattle.program.specs.Parts.{procedures_in}
use Rattle.program.specs.Reading.{tables_of}
use Rattle.program.proofs.Listing.{procedures-length, procedure-at}
use Rattle.program.proofs.own_variables.Bodies.{apart_next, apart-past}
use Rattle.program.proofs.own_variables.Parts.all_apart.Goals as goal
use Rattle.program.proofs.own_variables.Parts.all_apart.Goals.{After-apart_from_later, At-loop-p}

abbrev tables : At-loop-p → Tables
tables c = tables_of c.args.self.now.program.now

abbrev listed : At-loop-p → List Procedure
listed c = procedures_in (tables c) c.args.self.now.table.now c.args.self.now.main.procedures

all : (c : At-loop-p) → length (listed c) ≡ c.args.self.now.main.procedures
all c = procedures-length (tables c) c.args.self.now.table.now c.args.self.now.main.procedures

-- the procedure of a turn, and those after it
tested : (c : After-apart_from_later) → all_apart_lem (listed (goal.at.After-apart_from_later c).At-loop-p) ≡ (c.apart_from_later.result && all_apart_lem (drop (c.loop-p.p + 1) (listed (goal.at.After-apart_from_later c).At-loop-p)))
tested c =
    let p = c.loop-p.p in
    let one = procedure-at (tables (goal.at.After-apart_from_later c).At-loop-p) c.args.self.now.table.now c.args.self.now.main.procedures p (omega arith) in
    let later = drop (p + 1) (listed (goal.at.After-apart_from_later c).At-loop-p) in
    c.loop-p.invariant ∙ apart_next (listed (goal.at.After-apart_from_later c).At-loop-p) p (rw (all (goal.at.After-apart_from_later c).At-loop-p) (omega arith))
    ∙ ap (λ (q : Procedure). every (apart q) later && all_apart_lem later) one ∙ ap (◌&& all_apart_lem later) (sym c.apart_from_later.ensures)

-- ---- the answers
pub returns-then-not-apart_from_later : goal.returns-then-not-apart_from_later
returns-then-not-apart_from_later c =
    sym (tested (goal.at.returns-then-not-apart_from_later c).After-apart_from_later ∙ ap (◌&& all_apart_lem (drop (c.loop-p.p + 1) (listed (goal.at.returns-then-not-apart_from_later c).At-loop-p))) (c.if-not-apart_from_later.true))

pub loop-p-preserved : goal.loop-p-preserved
loop-p-preserved c =
    tested (goal.at.loop-p-preserved c).After-apart_from_later ∙ ap (◌&& all_apart_lem (drop (c.loop-p.p + 1) (listed (goal.at.loop-p-preserved c).At-loop-p))) (c.if-not-apart_from_later.false)

pub returns : goal.returns
returns c =
    sym (c.loop-p.invariant ∙ apart-past (listed (goal.at.returns c).At-loop-p) c.loop-p.p (rw (all (goal.at.returns c).At-loop-p) (omega arith)))
