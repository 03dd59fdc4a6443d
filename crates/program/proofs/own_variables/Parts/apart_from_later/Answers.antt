-- `program::own_variables::Parts::apart_from_later` meets its contract.
use mathlib.Core.Path.{◌≡◌, sym, ap, ◌∙◌}
use mathlib.Core.Bool.{Bool, ◌||◌}
use mathlib.Core.List.{List}
use Prim.Native.Nat.{◌<◌, ◌+◌}
use native.Mathlib.Omega.{arith}
use lib.Dec.{leb}
use lib.ListN.{length, get_or}
use Rattle.model.specs.Procedures.{Procedure, apart}
use Rattle.model.specs.Program.{Tables, Statement}
use Rattle.program.specs.Parts.{procedure_in_lem, procedures_in}
use Rattle.program.specs.Reading.{tables_of}
use Rattle.model.proofs.Basics.Passes.{rest-fails, rest_goes, rest-ends}
use Rattle.program.proofs.Listing.{no_procedure_lem, procedures-length, procedure-at}
use Rattle.program.proofs.own_variables.Parts.apart_from_later.Goals as goal
use Rattle.program.proofs.own_variables.Parts.apart_from_later.Goals.{After-are_apart, At-loop-i, In-loop-i}

-- two procedures by their beginnings share no variable
abbrev shares_none : Statement → Statement → Bool
shares_none q r = leb (q.b + q.c) r.b || leb (r.b + r.c) q.b

abbrev tables : At-loop-i → Tables
tables c = tables_of c.args.self.now.program.now

abbrev listed : At-loop-i → List Procedure
listed c = procedures_in (tables c) c.args.self.now.table.now c.args.self.now.main.procedures

all : (c : At-loop-i) → length (listed c) ≡ c.args.self.now.main.procedures
all c = procedures-length (tables c) c.args.self.now.table.now c.args.self.now.main.procedures

abbrev one : At-loop-i → Procedure
one c = procedure_in_lem (tables c) c.args.self.now.table.now c.args.p

in_list : (c : In-loop-i) → c.loop-i.i < length (listed (goal.at.In-loop-i c).At-loop-i)
in_list c = rw (all (goal.at.In-loop-i c).At-loop-i) (omega arith)

tested : (c : After-are_apart) → c.are_apart.result ≡ apart (one (goal.at.After-are_apart c).At-loop-i) (get_or (listed (goal.at.After-are_apart c).At-loop-i) c.loop-i.i no_procedure_lem)
tested c =
    let q = c.begun-q.ensures in
    let r = c.begun.ensures in
    let other = procedure-at (tables (goal.at.After-are_apart c).At-loop-i) c.args.self.now.table.now c.args.self.now.main.procedures c.loop-i.i (omega arith) in
    c.are_apart.ensures ∙ (λ j. shares_none (q j) (r j)) ∙ ap (apart (one (goal.at.After-are_apart c).At-loop-i)) (sym other)

pub returns-then-not-are_apart : goal.returns-then-not-are_apart
returns-then-not-are_apart c =
    let shared = sym (tested (goal.at.returns-then-not-are_apart c).After-are_apart) ∙ c.if-not-are_apart.true in
    sym (rest-fails (apart (one (goal.at.returns-then-not-are_apart c).At-loop-i)) no_procedure_lem (listed (goal.at.returns-then-not-are_apart c).At-loop-i) c.loop-i.i (in_list (goal.at.returns-then-not-are_apart c).In-loop-i) _ c.loop-i.invariant shared)

pub loop-i-preserved : goal.loop-i-preserved
loop-i-preserved c =
    let none = sym (tested (goal.at.loop-i-preserved c).After-are_apart) ∙ c.if-not-are_apart.false in
    rest_goes (apart (one (goal.at.loop-i-preserved c).At-loop-i)) no_procedure_lem (listed (goal.at.loop-i-preserved c).At-loop-i) c.loop-i.i (in_list (goal.at.loop-i-preserved c).In-loop-i) _ c.loop-i.invariant none

pub returns : goal.returns
returns c =
    sym (rest-ends (apart (one (goal.at.returns c).At-loop-i)) no_procedure_lem (listed (goal.at.returns c).At-loop-i) c.loop-i.i (rw (all (goal.at.returns c).At-loop-i) (omega arith)) _ c.loop-i.invariant)
