-- `program::procedures::procedure_end` meets its contract. The invariant: the reading has come to i inside the procedure, so many blocks deep.
use mathlib.Core.Path.{◌≡◌, sym, ap, ◌∙◌}
use mathlib.Core.Bool.{true}
use Prim.Native.Nat.{◌<◌, ◌-◌}
use native.Mathlib.Omega.{arith}
use lib.ListN.{length}
use Rattle.model.specs.Procedures.{Item, begins_none}
use Rattle.model.specs.Program.{Tables, items_of}
use Rattle.program.specs.Parts.{item_at, depth_after_lem}
use Rattle.program.specs.Reading.{statement_of, tables_of}
use Rattle.program.proofs.Items.{item_at_lem, items_length, item_begins-none}
use Rattle.program.proofs.procedures.PartsFrom.{depth_grows, procedure-begins, procedure-inside, procedure-closed, procedure-goes, procedure_unclosed}
use Rattle.program.proofs.procedures.procedure_end.Goals as goal
use Rattle.program.proofs.procedures.procedure_end.Goals.{After-depth_after-depth, At-loop-i, Else-kind-eq-PROCEDURE, In-loop-i, Start}

abbrev tables : At-loop-i → Tables
tables c = tables_of c.args.program.now

all : (c : Start) → length (items_of (tables_of c.args.program.now)) ≡ length (tables_of c.args.program.now).statements
all c = items_length (tables_of c.args.program.now)

in_list : (c : In-loop-i) → c.loop-i.i < length (items_of (tables (goal.at.In-loop-i c).At-loop-i))
in_list c = omega (arith, all (goal.at.In-loop-i c).Start)

-- ---- the statement of a turn
abbrev item : At-loop-i → Item
item c = item_at (tables c) c.loop-i.i

none-begun : (c : Else-kind-eq-PROCEDURE) → begins_none (item (goal.at.Else-kind-eq-PROCEDURE c).At-loop-i) ≡ true
none-begun c =
    let q = statement_of (tables (goal.at.Else-kind-eq-PROCEDURE c).At-loop-i) c.loop-i.i in
    ap begins_none (item_at_lem (tables (goal.at.Else-kind-eq-PROCEDURE c).At-loop-i) c.loop-i.i) ∙ item_begins-none (tables (goal.at.Else-kind-eq-PROCEDURE c).At-loop-i) q (λ e. c.if-kind-eq-PROCEDURE.false (c.kind_at-kind.ensures ∙ e))

deep : (c : After-depth_after-depth) → c.depth_after-depth.result ≡ depth_after_lem c.loop-i.depth (item (goal.at.After-depth_after-depth c).At-loop-i)
deep c =
    let T = tables (goal.at.After-depth_after-depth c).At-loop-i in
    c.depth_after-depth.ensures T (statement_of T c.loop-i.i) (sym c.kind_at-kind.ensures)
    ∙ ap (depth_after_lem c.loop-i.depth) (sym (item_at_lem T c.loop-i.i))

pub loop-i-init : goal.loop-i-init
loop-i-init c =
    let T = tables_of c.args.program.now in
    (omega arith, omega arith, omega arith, procedure-begins T c.args.begin c.requires.kind (omega (arith, all (goal.at.loop-i-init c).Start)))

pub returns-then-kind-eq-PROCEDURE : goal.returns-then-kind-eq-PROCEDURE
returns-then-kind-eq-PROCEDURE c =
    let lp = c.loop-i in
    let same = sym c.kind_at-kind.ensures ∙ c.if-kind-eq-PROCEDURE.true in
    procedure-inside (tables (goal.at.returns-then-kind-eq-PROCEDURE c).At-loop-i) c.args.begin lp.i lp.invariant.0 (in_list (goal.at.returns-then-kind-eq-PROCEDURE c).In-loop-i) lp.depth lp.invariant.1 lp.invariant.3 same

pub returns-then-depth-eq0 : goal.returns-then-depth-eq0
returns-then-depth-eq0 c =
    let lp = c.loop-i in
    let out = sym (deep (goal.at.returns-then-depth-eq0 c).After-depth_after-depth) ∙ c.if-depth-eq0.true in
    record {
      later = lp.invariant.0;
      inside = omega arith;
      read = procedure-closed (tables (goal.at.returns-then-depth-eq0 c).At-loop-i) c.args.begin lp.i lp.invariant.0 (in_list (goal.at.returns-then-depth-eq0 c).In-loop-i) lp.depth lp.invariant.1 lp.invariant.3 (none-begun (goal.at.returns-then-depth-eq0 c).Else-kind-eq-PROCEDURE) out;
    }

pub loop-i-preserved : goal.loop-i-preserved
loop-i-preserved c =
    let lp = c.loop-i in
    let more = depth_grows lp.depth (item (goal.at.loop-i-preserved c).At-loop-i) in
    let e = deep (goal.at.loop-i-preserved c).After-depth_after-depth in
    let goes = procedure-goes (tables (goal.at.loop-i-preserved c).At-loop-i) c.args.begin lp.i lp.invariant.0 (in_list (goal.at.loop-i-preserved c).In-loop-i) lp.depth lp.invariant.1 lp.invariant.3 (none-begun (goal.at.loop-i-preserved c).Else-kind-eq-PROCEDURE) (omega (arith, e, c.if-depth-eq0.false)) in (
      omega arith,
      omega (arith, c.if-depth-eq0.false),
      omega (arith, e, more, lp.invariant.2),
      λ ps. rw e (goes ps),
    )

pub returns : goal.returns
returns c =
    let lp = c.loop-i in
    procedure_unclosed (tables (goal.at.returns c).At-loop-i) c.args.begin lp.i (lp.depth - 1) lp.invariant.3 (omega (arith, all (goal.at.returns c).Start))
