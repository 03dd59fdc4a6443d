-- `program::nesting::nesting_right` meets its contract. The invariant: what is open after all statements from nothing on is what is open
-- after those from i on, from the blocks that the code holds.
use mathlib.Core.Path.{◌≡◌, refl, sym, ap, ◌∙◌}
use mathlib.Core.Bool.{and-false, ◌&&◌, and-true}
use mathlib.Core.List.{List, []}
use Prim.Native.Nat.{◌≤◌, ◌<◌, ◌+◌}
use native.Mathlib.Omega.{arith}
use lib.ListN.{length, drop, get_or}
use Rattle.model.specs.Lists.{every}
use Rattle.model.specs.Code.{end}
use Rattle.model.specs.Refusals.{ok, ◌>>=◌}
use Rattle.model.specs.Procedures.{Item, own, Block, passing, open_after, all_closed, begins_none}
use Rattle.model.specs.Program.{item_of, Tables, items_of}
use Rattle.program.specs.OpenBlocks.{is_plain, blocks_in, blocks_of, in_procedures}
use Rattle.program.specs.Reading.{statement_of, tables_of}
use Rattle.program.proofs.Items.{item_at_lem, items_length, item_begins-none, item_begins-one}
use Rattle.model.proofs.Basics.Passes.{pass_gathers, pass_gathered}
use Rattle.program.proofs.nesting.Passing.{pass_on, pass_stops, pass_ends, grows_by_one}
use Rattle.program.proofs.nesting.Words.{length-procedures, inner_open, blocks_open, none_open}
use Rattle.program.proofs.nesting.nesting_right.Goals as goal
use Rattle.program.proofs.nesting.nesting_right.Goals.{then-blocks-ne0-via-then-blocks-ne0, then-blocks-ne0-via-else-blocks-ne0+then-blocks-ne0-2, then-kind-eq-PROCEDURE, else-kind-eq-PROCEDURE, In_ok-blocks, After-loop-i, At-loop-i, In-loop-i}

abbrev tables : At-loop-i → Tables
tables c = tables_of c.args.program.now

abbrev items : At-loop-i → List Item
items c = items_of (tables c)

abbrev opened : At-loop-i → List Block
opened c = blocks_of c.loop-i.blocks

-- the statement of a turn
abbrev item : At-loop-i → Item
item c = get_or (items c) c.loop-i.i (own end)

-- ---- what is known of a turn
all : (c : At-loop-i) → length (items c) ≡ length (tables c).statements
all c = items_length (tables c)

in_list : (c : In-loop-i) → c.loop-i.i < length (items (goal.at.In-loop-i c).At-loop-i)
in_list c = omega (arith, all (goal.at.In-loop-i c).At-loop-i)

inner-few : (c : In-loop-i) → c.loop-i.blocks.inner ≤ c.loop-i.i
inner-few c =
    let o = c.loop-i.blocks in
    omega (arith, length-procedures o.inner (blocks_in o.nested o.word), c.loop-i.invariant.1)

-- whether no procedure has begun so far
none-begun : (c : In_ok-blocks) → every begins_none (items (goal.at.In_ok-blocks c).At-loop-i) ≡ (is_plain c.if-kind-eq-PROCEDURE.found && every begins_none (drop (c.loop-i.i + 1) (items (goal.at.In_ok-blocks c).At-loop-i)))
none-begun c =
    let is = items (goal.at.In_ok-blocks c).At-loop-i in
    let later = every begins_none (drop (c.loop-i.i + 1) is) in
    let T = tables (goal.at.In_ok-blocks c).At-loop-i in
    let q = statement_of T c.loop-i.i in
    let item-is : begins_none (item (goal.at.In_ok-blocks c).At-loop-i) ≡ begins_none (item_of T q) = ap begins_none (item_at_lem T c.loop-i.i) in
    pass_gathers begins_none (own end) is c.loop-i.i (is_plain c.loop-i.found) (in_list (goal.at.In_ok-blocks c).In-loop-i) c.loop-i.invariant.3
    ∙ ap (◌&& later) (elim c.if-kind-eq-PROCEDURE.branch [
      | then-kind-eq-PROCEDURE w ↦
          let one = item-is ∙ item_begins-one T q (sym c.kind_at-kind.ensures ∙ w.if-kind-eq-PROCEDURE.true) in
          rw (w.found-is, one) (and-false _)
      | else-kind-eq-PROCEDURE w ↦
          let none = item-is ∙ item_begins-none T q (λ e. w.if-kind-eq-PROCEDURE.false (c.kind_at-kind.ensures ∙ e)) in
          rw (w.found-is, none) (and-true _)
    ])

-- what is open behind the last statement
ended : (c : After-loop-i) → open_after [] (items (goal.at.After-loop-i c).At-loop-i) ≡ ok (opened (goal.at.After-loop-i c).At-loop-i)
ended c =
    pass_ends (items (goal.at.After-loop-i c).At-loop-i) c.loop-i.i (opened (goal.at.After-loop-i c).At-loop-i) c.loop-i.invariant.2 (omega (arith, all (goal.at.After-loop-i c).At-loop-i))

-- ---- the answers
pub loop-i-init : goal.loop-i-init
unfolding in_procedures blocks_in
loop-i-init c = (record { few = omega arith; small = omega arith }, omega arith, refl, refl)

pub pass_statement-requires : goal.pass_statement-requires
pass_statement-requires c = (c.loop-i.invariant.0, omega (arith, inner-few (goal.at.pass_statement-requires c).In-loop-i))

pub returns-in_err-blocks : goal.returns-in_err-blocks
returns-in_err-blocks c =
    let here = goal.at.returns-in_err-blocks c in
    let T = tables here.At-loop-i in
    let wrong = ap (λ (x : Item). passing x (opened here.At-loop-i)) (item_at_lem T c.loop-i.i) ∙ sym (c.in_err-blocks.ensures.0 T (statement_of T c.loop-i.i) (sym c.kind_at-kind.ensures)) in
    rw c.from_residual.ensures (ap (◌>>= all_closed) (pass_stops (items here.At-loop-i) c.loop-i.i (opened here.At-loop-i) c.loop-i.invariant.2 (in_list here.In-loop-i) _ wrong))

pub loop-i-preserved : goal.loop-i-preserved
loop-i-preserved c =
    let here = goal.at.loop-i-preserved c in
    let lp = c.loop-i in
    let T = tables here.At-loop-i in
    let next = blocks_of c.in_ok-blocks.blocks in
    let passed : passing (item here.At-loop-i) (opened here.At-loop-i) ≡ ok next = ap (λ (x : Item). passing x (opened here.At-loop-i)) (item_at_lem T lp.i) ∙ sym (c.in_ok-blocks.ensures.0 T (statement_of T lp.i) (sym c.kind_at-kind.ensures)) in (
      c.in_ok-blocks.ensures.1,
      omega (arith, grows_by_one (item here.At-loop-i) (opened here.At-loop-i) next passed, lp.invariant.1),
      pass_on (items here.At-loop-i) lp.i (opened here.At-loop-i) lp.invariant.2 (in_list here.In-loop-i) next passed,
      none-begun here.In_ok-blocks,
    )

pub returns-then-blocks-ne0 : goal.returns-then-blocks-ne0
returns-then-blocks-ne0 c =
    let o = c.loop-i.blocks in
    ap (◌>>= all_closed) (ended (goal.at.returns-then-blocks-ne0 c).After-loop-i)
    ∙ elim c.then-blocks-ne0.branch [
      | then-blocks-ne0-via-then-blocks-ne0 w ↦ inner_open o.inner (blocks_in o.nested o.word) (omega (arith, w.if-blocks-ne0.true))
      | then-blocks-ne0-via-else-blocks-ne0+then-blocks-ne0-2 w ↦ blocks_open o.inner o.nested o.word (omega (arith, w.if-blocks-ne0-2.true))
    ]

pub returns : goal.returns
returns c =
    let o = c.loop-i.blocks in
    record {
      closed = ended (goal.at.returns c).After-loop-i ∙ ap ok (none_open o.inner o.nested o.word c.if-blocks-ne0.false c.if-blocks-ne0-2.false);
      none = sym (pass_gathered begins_none (own end) (items (goal.at.returns c).At-loop-i) c.loop-i.i (is_plain c.loop-i.found) (omega (arith, all (goal.at.returns c).At-loop-i)) c.loop-i.invariant.3);
    }
