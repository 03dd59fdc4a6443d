-- `program::own_variables::Parts::main_spared` meets its contract.
use mathlib.Core.Path.{◌≡◌, sym, ap, ◌∙◌}
use mathlib.Core.Bool.{not}
use mathlib.Core.List.{List}
use Prim.Native.Nat.{◌<◌}
use native.Mathlib.Omega.{arith}
use lib.ListN.{length}
use Rattle.model.specs.Lists.{every}
use Rattle.model.specs.Code.{end}
use Rattle.model.specs.Procedures.{Procedure, own, owns, named, spares}
use Rattle.model.specs.Program.{Tables, Statement, item_of, items_of}
use Rattle.program.specs.Parts.{item_at, procedures_in}
use Rattle.program.specs.Reading.{tables_of}
use Rattle.program.proofs.Items.{item_at_lem, items_length}
use Rattle.model.proofs.Basics.Passes.{rest-fails, rest_goes, rest-ends}
use Rattle.program.proofs.Every.{every-is}
use Rattle.program.proofs.own_variables.Parts.main_spared.Goals as goal
use Rattle.program.proofs.own_variables.Parts.main_spared.Goals.{After-names_spared, At-loop-i, In-loop-i}

abbrev tables : At-loop-i → Tables
tables c = tables_of c.args.self.now.program.now

abbrev listed : At-loop-i → List Procedure
listed c = procedures_in (tables c) c.args.self.now.table.now c.args.self.now.main.procedures

all : (c : At-loop-i) → length (items_of (tables c)) ≡ length (tables c).statements
all c = items_length (tables c)

in_list : (c : In-loop-i) → c.loop-i.i < length (items_of (tables (goal.at.In-loop-i c).At-loop-i))
in_list c = rw (all (goal.at.In-loop-i c).At-loop-i) (omega arith)

tested : (c : After-names_spared) → c.names_spared.result ≡ spares (listed (goal.at.After-names_spared c).At-loop-i) (item_at (tables (goal.at.After-names_spared c).At-loop-i) c.loop-i.i)
tested c =
    let T = tables (goal.at.After-names_spared c).At-loop-i in
    let names = c.listed.ensures ∙ c.names_of-names.ensures.same ∙ ap (λ (s : Statement). named (item_of T s)) c.statement-q.ensures.0 ∙ ap named (sym (item_at_lem T c.loop-i.i)) in
    c.names_spared.ensures ∙ sym (every-is _ _) ∙ ap (every (λ x. every (λ q. not (owns q x)) (listed (goal.at.After-names_spared c).At-loop-i))) names

-- ---- the answers
pub returns-then-not-names_spared : goal.returns-then-not-names_spared
returns-then-not-names_spared c =
    let owned = sym (tested (goal.at.returns-then-not-names_spared c).After-names_spared) ∙ c.if-not-names_spared.true in
    sym (rest-fails (spares (listed (goal.at.returns-then-not-names_spared c).At-loop-i)) (own end) (items_of (tables (goal.at.returns-then-not-names_spared c).At-loop-i)) c.loop-i.i (in_list (goal.at.returns-then-not-names_spared c).In-loop-i) _ c.loop-i.invariant owned)

pub loop-i-preserved : goal.loop-i-preserved
loop-i-preserved c =
    let none = sym (tested (goal.at.loop-i-preserved c).After-names_spared) ∙ c.if-not-names_spared.false in
    rest_goes (spares (listed (goal.at.loop-i-preserved c).At-loop-i)) (own end) (items_of (tables (goal.at.loop-i-preserved c).At-loop-i)) c.loop-i.i (in_list (goal.at.loop-i-preserved c).In-loop-i) _ c.loop-i.invariant none

pub returns : goal.returns
returns c =
    sym (rest-ends (spares (listed (goal.at.returns c).At-loop-i)) (own end) (items_of (tables (goal.at.returns c).At-loop-i)) c.loop-i.i (rw (all (goal.at.returns c).At-loop-i) (omega arith)) _ c.loop-i.invariant)
