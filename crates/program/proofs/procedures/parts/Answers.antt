-- `program::procedures::parts` meets its contract. The invariant: the reading has come to i, between procedures, and those before it are
-- in the table.
use mathlib.Core.Path.{◌≡◌, refl, sym, ap, ◌∙◌}
use mathlib.Core.Bool.{false}
use mathlib.Core.List.{List, []}
use Prim.Native.Nat.{◌<◌, ◌+◌, ◌*◌}
use native.Mathlib.Omega.{arith}
use borrow.Author.Tests.{not-true, not-false}
use lib.ListN.{length, drop, set, length-set}
use Rattle.model.specs.Procedures.{Procedure, between, begins_none, main_from, parts_from}
use Rattle.model.specs.Program.{Tables, items_of}
use Rattle.program.specs.Parts.{item_at, procedures_in, Between, EndsAt}
use Rattle.program.specs.Reading.{tables_of}
use Rattle.program.proofs.Items.{items_length}
use Rattle.program.proofs.procedures.Listed.{procedures-noted, each-noted}
use Rattle.program.proofs.procedures.PartsFrom.{main-begins, begun-inside, begun-kind}
use borrow.Author.Rules.{rules}
use Rattle.program.proofs.procedures.parts.Goals as goal
use Rattle.program.proofs.procedures.parts.Goals.{After-none_begins, At-loop-count, In_ok-end, In-loop-count}

abbrev tables : At-loop-count → Tables
tables c = tables_of c.args.program.now

-- ---- what is known of a turn
all : (c : At-loop-count) → length (items_of (tables c)) ≡ length (tables c).statements
all c = items_length (tables c)

-- a procedure begins
begun : (c : In-loop-count) → begins_none (item_at (tables (goal.at.In-loop-count c).At-loop-count) c.loop-count.i) ≡ false
begun c = not-true _ (sym c.begins_procedure.ensures ∙ c.loop-count-test.true)

in_list : (c : In-loop-count) → c.loop-count.i < length (tables (goal.at.In-loop-count c).At-loop-count).statements
in_list c = rw (← all (goal.at.In-loop-count c).At-loop-count) (begun-inside (tables (goal.at.In-loop-count c).At-loop-count) c.loop-count.i (begun c))

-- and where it ends
end_of : (c : In_ok-end) → EndsAt (tables (goal.at.In_ok-end c).At-loop-count) c.loop-count.i c.in_ok-end.end
end_of c = c.in_ok-end.ensures

before-end : (c : In_ok-end) → c.in_ok-end.end < length (tables (goal.at.In_ok-end c).At-loop-count).statements
before-end c = (end_of c).inside

-- the table has room for it
room : (c : In_ok-end) → 2 * c.loop-count.count + 1 < length c.loop-count.table
room c =
    omega (arith, before-end c, (end_of c).later, c.requires.room, c.loop-count.invariant.1, c.loop-count.invariant.2)

-- the statements after the procedures
main : (c : After-none_begins) → parts_from 0 [] between (items_of (tables (goal.at.After-none_begins c).At-loop-count)) ≡ main_from c.loop-count.i (procedures_in (tables (goal.at.After-none_begins c).At-loop-count) c.loop-count.table c.loop-count.count) (drop c.loop-count.i (items_of (tables (goal.at.After-none_begins c).At-loop-count)))
main c =
    let none = not-false _ (sym c.begins_procedure.ensures ∙ c.loop-count-test.false) in
    c.loop-count.invariant.3 ∙ main-begins (tables (goal.at.After-none_begins c).At-loop-count) c.loop-count.i (procedures_in (tables (goal.at.After-none_begins c).At-loop-count) c.loop-count.table c.loop-count.count) none

-- ---- the answers
pub loop-count-init : goal.loop-count-init
unfolding procedures_in
loop-count-init c = (omega arith, omega arith, refl, refl, λ p h. absurd (omega (arith, h)))

pub procedure_end-requires : goal.procedure_end-requires
procedure_end-requires c =
    record { few = c.requires.few; label = in_list c; kind = begun-kind (tables (goal.at.procedure_end-requires c).At-loop-count) c.loop-count.i (begun c) }

pub bounds-table-count : goal.bounds-table-count
bounds-table-count c = omega (arith, room c)

pub bounds-table-count-in-loop-count : goal.bounds-table-count-in-loop-count
bounds-table-count-in-loop-count c =
    let lp = c.loop-count in
    rw (length-set lp.table (2 * lp.count) lp.i) (omega (arith, room c))

pub overflow_add-i : goal.overflow_add-i
overflow_add-i c = search (rules, before-end c)

pub loop-count-smaller : goal.loop-count-smaller
loop-count-smaller c = omega (arith, before-end c, (end_of c).later)

pub loop-count-preserved : goal.loop-count-preserved
loop-count-preserved c =
    let T = tables (goal.at.loop-count-preserved c).At-loop-count in
    let lp = c.loop-count in
    let e = c.in_ok-end.end in
    let ends = end_of c in
    let here : Between T (e + 1) lp.i e = record { begins = begun-kind T lp.i (begun (goal.at.loop-count-preserved c).In-loop-count); later = ends.later; before = omega arith } in
    let z = before-end c in (
      omega arith,
      omega (arith, ends.later, lp.invariant.1),
      length-set (set lp.table (2 * lp.count) lp.i) (2 * lp.count + 1) e ∙ length-set lp.table (2 * lp.count) lp.i ∙ lp.invariant.2,
      lp.invariant.3 ∙ ends.read (procedures_in T lp.table lp.count)
          ∙ ap (λ (ps : List Procedure). parts_from (e + 1) ps between (drop (e + 1) (items_of T))) (sym (procedures-noted T lp.table lp.count lp.i e (room c))),
      each-noted T lp.table lp.count lp.i e (room c) lp.i lp.invariant.4 (omega (arith, ends.later)) here,
    )

pub returns-then-not-none_begins : goal.returns-then-not-none_begins
returns-then-not-none_begins c =
    let some = sym c.none_begins.ensures ∙ c.if-not-none_begins.true in
    main (goal.at.returns-then-not-none_begins c).After-none_begins ∙ rw some

pub returns : goal.returns
returns c =
    let none = sym c.none_begins.ensures ∙ c.if-not-none_begins.false in
    record { read = main (goal.at.returns c).After-none_begins ∙ rw none; inside = c.loop-count.invariant.0; two_each = c.loop-count.invariant.1; each = c.loop-count.invariant.4 }
