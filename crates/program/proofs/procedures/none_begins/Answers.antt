-- `program::procedures::none_begins` meets its contract.
use mathlib.Core.Path.{◌≡◌, sym, ◌∙◌}
use mathlib.Core.List.{List}
use Prim.Native.Nat.{◌<◌}
use native.Mathlib.Omega.{arith}
use borrow.Author.Tests.{not-true, not-false}
use lib.ListN.{length}
use Rattle.model.specs.Code.{end}
use Rattle.model.specs.Procedures.{Item, own, begins_none}
use Rattle.model.specs.Program.{items_of}
use Rattle.program.specs.Reading.{tables_of}
use Rattle.program.proofs.Items.{items_length}
use Rattle.model.proofs.Basics.Passes.{rest-fails, rest_goes, rest-ends}
use Rattle.program.proofs.procedures.none_begins.Goals as goal
use Rattle.program.proofs.procedures.none_begins.Goals.{At-loop-i, In-loop-i}

abbrev items : At-loop-i → List Item
items c = items_of (tables_of c.args.program.now)

all : (c : At-loop-i) → length (items c) ≡ length (tables_of c.args.program.now).statements
all c = items_length (tables_of c.args.program.now)

in_list : (c : In-loop-i) → c.loop-i.i < length (items (goal.at.In-loop-i c).At-loop-i)
in_list c = omega (arith, all (goal.at.In-loop-i c).At-loop-i)

-- ---- the answers
pub returns-then-begins_procedure : goal.returns-then-begins_procedure
returns-then-begins_procedure c =
    let one = not-true _ (sym c.begins_procedure.ensures ∙ c.if-begins_procedure.true) in
    sym (rest-fails begins_none (own end) (items (goal.at.returns-then-begins_procedure c).At-loop-i) c.loop-i.i (in_list (goal.at.returns-then-begins_procedure c).In-loop-i) _ c.loop-i.invariant one)

pub loop-i-preserved : goal.loop-i-preserved
loop-i-preserved c =
    let none = not-false _ (sym c.begins_procedure.ensures ∙ c.if-begins_procedure.false) in
    rest_goes begins_none (own end) (items (goal.at.loop-i-preserved c).At-loop-i) c.loop-i.i (in_list (goal.at.loop-i-preserved c).In-loop-i) _ c.loop-i.invariant none

pub returns : goal.returns
returns c =
    sym (rest-ends begins_none (own end) (items (goal.at.returns c).At-loop-i) c.loop-i.i (omega (arith, all (goal.at.returns c).At-loop-i)) _ c.loop-i.invariant)
