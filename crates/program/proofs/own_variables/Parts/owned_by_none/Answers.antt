-- `program::own_variables::Parts::owned_by_none` meets its contract.
use mathlib.Core.Path.{◌≡◌, sym, ap, ◌∙◌}
use mathlib.Core.Bool.{not}
use mathlib.Core.List.{List}
use Prim.Native.Nat.{◌<◌}
use native.Mathlib.Omega.{arith}
use lib.ListN.{length, get_or}
use Rattle.model.specs.Procedures.{Procedure}
use Rattle.model.specs.Program.{Tables, Statement}
use Rattle.program.specs.Names.{within}
use Rattle.program.specs.Parts.{procedures_in}
use Rattle.program.specs.Reading.{tables_of}
use Rattle.model.proofs.Basics.Passes.{pass_fails, pass_goes, pass_ends}
use Rattle.program.proofs.Listing.{no_procedure_lem, procedures-length, procedure-at}
use Rattle.program.proofs.own_variables.Parts.owned_by_none.Invariants.{spared}
use Rattle.program.proofs.own_variables.Parts.owned_by_none.Goals as goal
use Rattle.program.proofs.own_variables.Parts.owned_by_none.Goals.{After-is_within, At-loop-p, In-loop-p}

abbrev tables : At-loop-p → Tables
tables c = tables_of c.args.self.now.program.now

abbrev listed : At-loop-p → List Procedure
listed c = procedures_in (tables c) c.args.self.now.table.now c.args.self.now.main.procedures

all : (c : At-loop-p) → length (listed c) ≡ c.args.self.now.main.procedures
all c = procedures-length (tables c) c.args.self.now.table.now c.args.self.now.main.procedures

in_list : (c : In-loop-p) → c.loop-p.p < length (listed (goal.at.In-loop-p c).At-loop-p)
in_list c = rw (all (goal.at.In-loop-p c).At-loop-p) (omega arith)

tested : (c : After-is_within) → not c.is_within.result ≡ spared c.args.x (get_or (listed (goal.at.After-is_within c).At-loop-p) c.loop-p.p no_procedure_lem)
tested c =
    let q = c.begun-q.ensures in
    let one = procedure-at (tables (goal.at.After-is_within c).At-loop-p) c.args.self.now.table.now c.args.self.now.main.procedures c.loop-p.p (omega arith) in
    ap not c.is_within.ensures ∙ ap (λ (s : Statement). not (within s.b s.c c.args.x)) q ∙ ap (spared c.args.x) (sym one)

-- ---- the answers
pub returns-then-is_within : goal.returns-then-is_within
returns-then-is_within c =
    let owned = sym (tested (goal.at.returns-then-is_within c).After-is_within) ∙ ap not c.if-is_within.true in
    sym (pass_fails (spared c.args.x) no_procedure_lem (listed (goal.at.returns-then-is_within c).At-loop-p) c.loop-p.p (in_list (goal.at.returns-then-is_within c).In-loop-p) c.loop-p.invariant owned)

pub loop-p-preserved : goal.loop-p-preserved
loop-p-preserved c =
    let free = sym (tested (goal.at.loop-p-preserved c).After-is_within) ∙ ap not c.if-is_within.false in
    pass_goes (spared c.args.x) no_procedure_lem (listed (goal.at.loop-p-preserved c).At-loop-p) c.loop-p.p (in_list (goal.at.loop-p-preserved c).In-loop-p) c.loop-p.invariant free

pub returns : goal.returns
returns c =
    sym (pass_ends (spared c.args.x) no_procedure_lem (listed (goal.at.returns c).At-loop-p) c.loop-p.p (rw (all (goal.at.returns c).At-loop-p) (omega arith)) c.loop-p.invariant)
