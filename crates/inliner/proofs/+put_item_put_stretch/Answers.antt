-- The cycle of `inliner::put_item` and `put_stretch` meets its contracts. Each answer cites one law of `Calls` or `Asking`.
use mathlib.Core.Path.{◌≡◌, sym, subst, ◌∙◌, ap}
use mathlib.Core.List.{List, [], ◌∷◌, ◌++◌}
use Prim.Native.Nat.{ℕ, ◌+◌, ◌*◌, ◌<◌}
use native.Mathlib.Omega.{arith}
use lib.ListN.{length}
use Rattle.model.specs.Inlined.{Row, inlined}
use Rattle.model.specs.Program.{Statement}
use Rattle.program.specs.Numbers.{call_kind}
use Rattle.program.specs.Reading.{tables_of, statement_of}
use Rattle.program.proofs.Known.{counts-known}
use Rattle.std.specs.Prelude.{Option, Some, None}
use Rattle.inliner.specs.Bodies.{Callee, StretchReady, expansions_in, items_between, item_rows, stretch_rows}
use Rattle.inliner.specs.Calling.{begin_of, end_of, call_at_lem, body_at, result_row, Leaves}
use Rattle.inliner.specs.Entering.{entries, Enters}
use Rattle.inliner.specs.Rows.{Inlines}
use Rattle.inliner.proofs.Writing.{SoFar, begun, more, too_long, all-written}
use Rattle.inliner.proofs.Calls.{not_entered, inside_is, body-beyond, left}
use Rattle.inliner.proofs.Asking.{ready_on, listed-ready, nothing_left, item_ready, rows_more}
use Rattle.inliner.proofs.Asking.{calls-earlier, procedure-there, callee, call-tabled, call_enters, body-ready, call_leaves}
use Rattle.inliner.proofs.+put_item_put_stretch.Goals as goal
use Rattle.inliner.proofs.+put_item_put_stretch.Goals.{put_item-Else-q-ne-CALL, put_item-In_ok-inside, put_item-After-put_stretch, put_item-In_ok-last}
use Rattle.inliner.proofs.+put_item_put_stretch.Goals.{put_stretch-Start, put_stretch-In-loop-i}

pub put_item-statement-q-requires : goal.put_item-statement-q-requires
put_item-statement-q-requires t c =
    c.requires.1.there

pub put_item-put_listed-requires : goal.put_item-put_listed-requires
put_item-put_listed-requires t c =
    let a = c.args in
    let kind = ap (λ (q : Statement). q.kind) c.statement-q.ensures.0 in
    listed-ready a.program.now a.table.now a.plan a.words.now a.part a.i a.at c.requires.0 c.requires.1 (λ e. c.if-q-ne-CALL.true (kind ∙ e))

-- it is a call
is-call : (t : ℕ) (c : put_item-Else-q-ne-CALL t) → (statement_of (tables_of c.args.program.now) c.args.i).kind ≡ call_kind
is-call t c = sym (ap (λ (q : Statement). q.kind) c.statement-q.ensures.0) ∙ c.if-q-ne-CALL.false

-- of a procedure that there is
there : (t : ℕ) (c : put_item-Else-q-ne-CALL t) → (statement_of (tables_of c.args.program.now) c.args.i).b < c.args.plan.procedures
there t c =
    let a = c.args in
    procedure-there a.program.now a.table.now a.plan a.words.now a.part a.i a.at c.requires.0 c.requires.1 (is-call t c)

its-callee : (t : ℕ) (c : put_item-Else-q-ne-CALL t) →
    let T = tables_of c.args.program.now in
    Callee T (statement_of T c.args.i).b (begin_of T c.args.table.now c.args.i) (end_of T c.args.table.now c.args.i)
its-callee t c =
    let a = c.args in
    callee a.program.now a.table.now a.plan a.words.now a.part a.i a.at c.requires.0 c.requires.1 (is-call t c)

-- its own variables are assigned up to a place
entered : (t : ℕ) (c : put_item-In_ok-inside t) →
    let a = c.args in
    let T = tables_of a.program.now in
    Inlines (Some c.in_ok-inside.inside) a.plan.base a.at (entries T a.at (call_at_lem T a.table.now a.i a.part.shift)) a.words.now c.enter.new.words
entered t c =
    let a = c.args in
    let T = tables_of a.program.now in
    subst (λ q. Inlines (Some c.in_ok-inside.inside) a.plan.base a.at (entries T a.at q) a.words.now c.enter.new.words) c.call_at-call.ensures
    c.in_ok-inside.ensures

-- which is behind one row for each of them
place-inside : (t : ℕ) (c : put_item-In_ok-inside t) →
    let a = c.args in
    c.in_ok-inside.inside ≡ a.at + (call_at_lem (tables_of a.program.now) a.table.now a.i a.part.shift).count
place-inside t c =
    let a = c.args in
    let call = (goal.at.put_item-In_ok-inside t c).Else-q-ne-CALL in
    inside_is (tables_of a.program.now) a.table.now a.plan.procedures a.part.shift a.i a.at (is-call t call) (there t call) (its-callee t call) a.plan.base
    a.words.now c.enter.new.words c.requires.1.writable.few c.in_ok-inside.inside (entered t c)

-- the rows of its body, and the answer to them
abbrev Body : (t : ℕ) → put_item-After-put_stretch t → Option ℕ → Type 0
Body t c p =
    let a = c.args in
    let T = tables_of a.program.now in
    let inside = c.in_ok-inside.inside in
    Inlines p a.plan.base inside (stretch_rows T a.table.now a.plan.procedures (body_at T a.table.now a.i a.at) inside) c.enter.new.words c.put_stretch.new.words

body : (t : ℕ) (c : put_item-After-put_stretch t) → Body t c c.put_stretch.result
body t c =
    let a = c.args in
    let T = tables_of a.program.now in
    let inside = c.in_ok-inside.inside in
    subst (λ x. Inlines c.put_stretch.result a.plan.base inside (stretch_rows T a.table.now a.plan.procedures x inside) c.enter.new.words c.put_stretch.new.words)
    c.body_at-body.ensures c.put_stretch.ensures

body-written : (t : ℕ) (c : put_item-In_ok-last t) → Body t (goal.at.put_item-In_ok-last t c).After-put_stretch (Some c.in_ok-last.last)
body-written t c =
    let here = (goal.at.put_item-In_ok-last t c).After-put_stretch in
    subst (Body t here) c.in_ok-last.was (body t here)

pub put_item-call_at-call-requires : goal.put_item-call_at-call-requires
put_item-call_at-call-requires t c =
    let a = c.args in
    let ready = c.requires.0 in
    let item = c.requires.1 in
    let few = (counts-known a.program.now ready.read).variables in (
      call-tabled a.program.now a.table.now a.plan a.words.now a.part a.i a.at ready item (is-call t (goal.at.put_item-call_at-call-requires t c).Else-q-ne-CALL),
      omega (arith, few, item.writable.low, item.writable.few),
    )

pub put_item-enter-requires : goal.put_item-enter-requires
put_item-enter-requires t c =
    let a = c.args in (
      subst (λ q. Enters a.program.now q a.at) (sym c.call_at-call.ensures)
          (call_enters a.program.now a.table.now a.plan a.words.now a.part a.i a.at c.requires.0 c.requires.1
          (is-call t (goal.at.put_item-enter-requires t c).Else-q-ne-CALL)),
      c.requires.0.room,
    )

pub put_item-returns-in_err-inside : goal.put_item-returns-in_err-inside
put_item-returns-in_err-inside t c =
    let a = c.args in
    let T = tables_of a.program.now in
    let call = (goal.at.put_item-returns-in_err-inside t c).Else-q-ne-CALL in
    let m = c.enter.new.words in
    rw c.from_residual.ensures
    (not_entered T a.table.now a.plan.procedures a.part.shift a.i a.at (is-call t call) (there t call) (its-callee t call) a.plan.base a.words.now m
    c.requires.1.writable.few (subst (λ q. Inlines None a.plan.base a.at (entries T a.at q) a.words.now m) c.call_at-call.ensures c.in_err-inside.ensures))

pub put_item-body_at-body-requires : goal.put_item-body_at-body-requires
put_item-body_at-body-requires t c =
    let a = c.args in
    let call = (goal.at.put_item-body_at-body-requires t c).Else-q-ne-CALL in
    record {
      calls = call-tabled a.program.now a.table.now a.plan a.words.now a.part a.i a.at c.requires.0 c.requires.1 (is-call t call);
      variables = (counts-known a.program.now c.requires.0.read).variables;
      place = c.requires.1.writable.few;
    }

pub put_item-put_stretch-requires : goal.put_item-put_stretch-requires
put_item-put_stretch-requires t c =
    let a = c.args in
    let call = (goal.at.put_item-put_stretch-requires t c).Else-q-ne-CALL in
    let here = (goal.at.put_item-put_stretch-requires t c).In_ok-inside in
    let inside = c.in_ok-inside.inside in
    let body = c.body_at-body.ensures in
    let earlier = calls-earlier a.program.now a.table.now a.plan a.words.now a.part a.i a.at c.requires.0 c.requires.1 (is-call t call) in (
      subst (λ x. 2 * x.number + 1 < t) (sym body) (omega (arith, c.decreases, earlier)),
      (
        ready_on a.program.now a.table.now a.plan a.words.now c.enter.new.words c.enter.auto.words c.requires.0,
        subst (λ x. StretchReady (tables_of a.program.now) a.plan.procedures x inside) (sym body)
            (body-ready a.program.now a.table.now a.plan a.words.now a.part a.i a.at c.requires.0 c.requires.1 (is-call t call) inside (entered t here).few
            (place-inside t here)),
      ),
    )

pub put_item-returns-in_err-last : goal.put_item-returns-in_err-last
put_item-returns-in_err-last t c =
    let a = c.args in
    let T = tables_of a.program.now in
    let call = (goal.at.put_item-returns-in_err-last t c).Else-q-ne-CALL in
    let here = (goal.at.put_item-returns-in_err-last t c).In_ok-inside in
    let walked = (goal.at.put_item-returns-in_err-last t c).After-put_stretch in
    rw c.from_residual-in_err-last.ensures
    (body-beyond T a.table.now a.plan.procedures a.part.shift a.i a.at (is-call t call) (there t call) (its-callee t call) a.plan.base a.words.now
    c.enter.new.words c.requires.1.writable.few c.in_ok-inside.inside (entered t here) c.put_stretch.new.words (subst (Body t walked) c.in_err-last.was (body t walked)))

pub put_item-leave-requires : goal.put_item-leave-requires
put_item-leave-requires t c =
    let a = c.args in
    let call = (goal.at.put_item-leave-requires t c).Else-q-ne-CALL in
    let here = (goal.at.put_item-leave-requires t c).In_ok-inside in
    let done = body-written t (goal.at.put_item-leave-requires t c).In_ok-last in
    let inside = c.in_ok-inside.inside in
    let last = c.in_ok-last.last in (
      subst (λ q. Leaves a.program.now q a.at last) (sym c.call_at-call.ensures)
          (call_leaves a.program.now a.table.now a.plan a.words.now a.part a.i a.at c.requires.0 c.requires.1 (is-call t call) inside (entered t here).few
          (place-inside t here) last done.few (omega (arith, done.ends))),
      omega (arith, c.requires.0.room, c.enter.auto.words, c.put_stretch.auto.words),
    )

pub put_item-returns : goal.put_item-returns
put_item-returns t c =
    let a = c.args in
    let T = tables_of a.program.now in
    let call = (goal.at.put_item-returns t c).Else-q-ne-CALL in
    let here = (goal.at.put_item-returns t c).In_ok-inside in
    let done = body-written t (goal.at.put_item-returns t c).In_ok-last in
    let last = c.in_ok-last.last in
    let m₂ = c.put_stretch.new.words in
    let m₃ = c.leave.new.words in
    left T a.table.now a.plan.procedures a.part.shift a.i a.at (is-call t call) (there t call) (its-callee t call) a.plan.base a.words.now c.enter.new.words
    c.requires.1.writable.few c.in_ok-inside.inside (entered t here) m₂ last done c.leave.result m₃
    (subst (λ q. Inlines c.leave.result a.plan.base last (result_row T a.at q ∷ []) m₂ m₃) c.call_at-call.ensures c.leave.ensures)

-- ---- `put_stretch`

-- the rows of the statement, and those behind it
abbrev rows : (t : ℕ) → put_stretch-In-loop-i t → List Row
rows t c =
    let a = c.args in
    item_rows (tables_of a.program.now) a.table.now a.plan.procedures a.part.shift c.loop-i.i c.loop-i.place

abbrev behind : (t : ℕ) → put_stretch-In-loop-i t → (place : ℕ) → List Row
behind t c place =
    let a = c.args in
    let T = tables_of a.program.now in
    inlined (expansions_in T a.table.now a.plan.procedures) a.part.shift (c.loop-i.i + 1) place (items_between T (c.loop-i.i + 1) a.part.to)

-- all rows
abbrev whole : (t : ℕ) → put_stretch-Start t → List Row
whole t c = let a = c.args in stretch_rows (tables_of a.program.now) a.table.now a.plan.procedures a.part a.at

-- what is left begins with the rows of the statement
left_over : (t : ℕ) (c : put_stretch-In-loop-i t) →
    let a = c.args in
    let lp = c.loop-i in
    SoFar a.plan.base a.at lp.place (whole t (goal.at.put_stretch-In-loop-i t c).Start) (rows t c ++ behind t c (lp.place + length (rows t c))) a.words.now lp.words
left_over t c =
    let a = c.args in
    let T = tables_of a.program.now in
    let lp = c.loop-i in
    subst (λ rest. SoFar a.plan.base a.at lp.place (whole t (goal.at.put_stretch-In-loop-i t c).Start) rest a.words.now lp.words)
    (rows_more T a.plan.procedures a.part a.at lp.i lp.place c.requires.1 (omega arith) c.loop-i-test.true (expansions_in T a.table.now a.plan.procedures))
    lp.invariant.1

pub put_stretch-loop-i-init : goal.put_stretch-loop-i-init
put_stretch-loop-i-init t c =
    (omega arith, begun c.args.plan.base c.args.at (whole t (goal.at.put_stretch-loop-i-init t c).Start) c.args.words.now c.requires.1.writable.few)

pub put_stretch-put_item-requires : goal.put_stretch-put_item-requires
put_stretch-put_item-requires t c =
    let a = c.args in
    let lp = c.loop-i in (
      omega (arith, c.decreases),
      (
        ready_on a.program.now a.table.now a.plan a.words.now lp.words lp.auto.words c.requires.0,
        item_ready (tables_of a.program.now) a.plan.procedures a.part a.at lp.i lp.place c.requires.1 (omega arith) c.loop-i-test.true lp.invariant.0
            lp.invariant.1.written.few,
      ),
    )

pub put_stretch-returns-in_err-place : goal.put_stretch-returns-in_err-place
put_stretch-returns-in_err-place t c =
    let a = c.args in
    let lp = c.loop-i in
    let turn = (goal.at.put_stretch-returns-in_err-place t c).In-loop-i in
    let all = whole t (goal.at.put_stretch-returns-in_err-place t c).Start in
    rw c.from_residual.ensures
    (too_long a.plan.base a.at lp.place all (rows t turn) (behind t turn (lp.place + length (rows t turn))) a.words.now lp.words c.put_item.new.words
    (left_over t turn) c.in_err-place.ensures)

pub put_stretch-loop-i-preserved : goal.put_stretch-loop-i-preserved
put_stretch-loop-i-preserved t c =
    let a = c.args in
    let lp = c.loop-i in
    let turn = (goal.at.put_stretch-loop-i-preserved t c).In-loop-i in
    let all = whole t (goal.at.put_stretch-loop-i-preserved t c).Start in
    let next = c.in_ok-place.place in
    let m = c.put_item.new.words in
    let written : Inlines (Some next) a.plan.base lp.place (rows t turn) lp.words m = c.in_ok-place.ensures in (
      omega (arith, written.ends, lp.invariant.0),
      subst (λ x. SoFar a.plan.base a.at next all (behind t turn x) a.words.now m) (sym written.ends)
          (more a.plan.base a.at lp.place all (rows t turn) (behind t turn (lp.place + length (rows t turn))) a.words.now lp.words m (left_over t turn) next written),
    )

pub put_stretch-returns : goal.put_stretch-returns
put_stretch-returns t c =
    let a = c.args in
    let T = tables_of a.program.now in
    let lp = c.loop-i in
    let all = whole t (goal.at.put_stretch-returns t c).Start in
    let none = nothing_left T (expansions_in T a.table.now a.plan.procedures) a.part.shift lp.i a.part.to lp.place (omega (arith, c.requires.1.ordered)) in
    all-written a.plan.base a.at lp.place all a.words.now lp.words (subst (λ rest. SoFar a.plan.base a.at lp.place all rest a.words.now lp.words) none lp.invariant.1)
