-- The cycle of `walk::walk_in`, `walk_with`, `turn`, `branch`, `repeat`, `settle` and `rounds` meets its contracts. Each answer
-- cites one law of `Walking`, `Joining`, `Rounding`, `Settling` or `Entered`; the functions before the answers gather what such a
-- law is given.
use mathlib.Core.Path.{◌≡◌, ◌∙◌, sym, subst, ap, refl}
use Prim.Native.Nat.{◌+◌, ◌-◌, ◌≤◌, ◌<◌, ℕ}
use native.Mathlib.Omega.{arith}
use lib.ListN.{length}
use Rattle.model.proofs.Walks.Laid.{laid_le}
use Rattle.code_table.specs.Table.{table_of, stmts, mates, table_words}
use Rattle.walk.proofs.Joining.{First, Other, first-branch-refused, other-branch-start, switched_table, other-branch-refused, both-tidy, both-joined}
use Rattle.walk.proofs.Regions.{below-table, piece_on, inner_flagged, inner-ready, block-ready}
use mathlib.Core.Bool.{false}
use Rattle.walk.proofs.Rounding.{RoundsFrom, never_settled, body_refused, closing, closing-refused, rounds-settled, next-round}
use Rattle.walk.proofs.Settling.{Afresh, afresh_ready, afresh_rounded, light_afresh, copied_tidy, copied_table, walked_afresh, confirmed, done_if}
use Rattle.code_table.specs.Statements.{stmt_from, instr_of, Known}
use Rattle.code_table.proofs.Meanings.{plain-stmt, if-stmt, while-stmt}
use Rattle.sets.specs.Region.{set_of}
use Rattle.walk.specs.Piece.{Lies}
use Rattle.walk.proofs.Entered.{Branching, Looping, begins, single-some, single_step, single-if, single-while}
use Rattle.walk.proofs.ByKind.{plain-kind}
use mathlib.Core.List.{List}
use Rattle.model.specs.Sizes.{most_rows}
use Rattle.footprint.specs.Footprints.{Labels}
use Rattle.std.specs.Prelude.{Ok}
use Rattle.std.proofs.lemmas.Result.{err_from_is_err_and}
use Rattle.walk.proofs.Walking.{Walking, walking_first, knows_here, renews, passes_over, finished, bounds, due, passes-block, turn-refused, turn-done}
use Rattle.walk.proofs.+branch_repeat_rounds_settle_turn_walk_in_walk_with.Goals as goal
use Rattle.walk.proofs.+branch_repeat_rounds_settle_turn_walk_in_walk_with.Goals.{branch-After-switch_branch, branch-After-walk_with, branch-Start, branch-After-walk_with-2, rounds-After-open_rounds, settle-After-rounds, settle-Then-is_ok, settle-Joined-is_ok, settle-then-is_ok+else-is_ok-2, settle-else-is_ok, turn-In-11, turn-In-14, turn-In_default, turn-Start, walk_with-After-renewed-m, walk_with-At-loop-r, walk_with-Joined-not-spares_all, walk_with-then-not-spares_all+in_ok-turn, walk_with-else-not-spares_all, walk_with-After-beginning-l}

-- ---- `branch`

-- the first branch was walked
branch-first : (t : ℕ) (c : branch-After-walk_with t) → let g = c.args in First g.light g.p g.e g.f g.b g.s.now c.walk_with.result c.walk_with.new.s
branch-first t c =
    let ready = c.requires.0.ready in
    record {
      s = c.open_branch.new.s;
      room = omega (arith, c.open_branch.auto.s, ready.room);
      same_start = c.open_branch.auto.s;
      table = below-table c.args.b c.args.s.now c.open_branch.new.s ready.behind (omega (arith, ready.room)) c.open_branch.auto.s c.open_branch.ensures.below;
      opened = c.open_branch.ensures;
      same_length = c.walk_with.auto.s;
      walked = c.walk_with.ensures;
    }

-- the table is as it was between the walks
branch-table : (t : ℕ) (c : branch-After-switch_branch t) → table_of 0 c.switch_branch.new.s ≡ table_of 0 c.args.s.now
branch-table t c =
    switched_table c.args.light c.args.p c.args.e c.args.f c.args.b c.args.s.now c.walk_with.result c.walk_with.new.s (branch-first t (goal.at.branch-After-switch_branch t c).After-walk_with)
    c.in_ok-walk_with.was c.switch_branch.new.s c.switch_branch.auto.s c.switch_branch.ensures c.requires.0.ready.behind

-- the other branch was walked
branch-other : (t : ℕ) (c : branch-After-walk_with-2 t) → let g = c.args in
    Other g.light g.p g.e g.f g.b g.s.now c.walk_with-2.result c.walk_with-2.new.s
branch-other t c =
    record {
      first-answer = c.walk_with.result;
      t = c.walk_with.new.s;
      u = c.switch_branch.new.s;
      first = branch-first t (goal.at.branch-After-walk_with-2 t c).After-walk_with;
      told = c.in_ok-walk_with.was;
      same_u = c.switch_branch.auto.s;
      table = branch-table t (goal.at.branch-After-walk_with-2 t c).After-switch_branch;
      switched = c.switch_branch.ensures;
      same_length = c.walk_with-2.auto.s;
      walked = c.walk_with-2.ensures;
    }

-- the label of the else is a label before the end of the block
branch-else : (t : ℕ) (g : branch-Start t) → g.args.e + 1 ≤ g.args.f
branch-else t g =
    let other = g.requires.1.other in
    laid_le (stmts g.args.s.now) (mates g.args.s.now) other.code (g.args.e + 1) g.args.f other.lies

pub branch-walk_with-requires : goal.branch-walk_with-requires
branch-walk_with-requires t c =
    let ready = c.requires.0.ready in
    let s = c.open_branch.new.s in
    let kept = c.open_branch.auto.s in
    let table = below-table c.args.b c.args.s.now s ready.behind (omega (arith, ready.room)) kept c.open_branch.ensures.below in
    let le = branch-else t (goal.at.branch-walk_with-requires t c).Start in (
      omega arith,
      (
        inner_flagged c.args.m c.args.s.now s c.args.depth c.args.b c.args.f c.args.e c.requires.0 table kept (omega arith)
            c.open_branch.ensures.second,
        piece_on c.args.s.now s table c.args.depth c.args.p c.args.e c.requires.1.first,
      ),
    )

pub branch-overflow_add-e : goal.branch-overflow_add-e
branch-overflow_add-e t c =
    omega (arith, branch-else t (goal.at.branch-overflow_add-e t c).Start, c.requires.0.ready.knows.few)

pub branch-walk_with-requires-2 : goal.branch-walk_with-requires-2
branch-walk_with-requires-2 t c =
    let ready = c.requires.0.ready in
    let s = c.switch_branch.new.s in
    let kept : length s ≡ length c.args.s.now = c.switch_branch.auto.s ∙ c.walk_with.auto.s ∙ c.open_branch.auto.s in
    let same =
    other-branch-start c.args.light c.args.p c.args.e c.args.f c.args.b c.args.s.now c.walk_with.result c.walk_with.new.s (branch-first t (goal.at.branch-walk_with-requires-2 t c).After-walk_with)
    c.in_ok-walk_with.was s c.switch_branch.auto.s c.switch_branch.ensures in (
      omega arith,
      (
        inner_flagged c.args.m c.args.s.now s c.args.depth c.args.b c.args.f c.args.f c.requires.0 (branch-table t (goal.at.branch-walk_with-requires-2 t c).After-switch_branch) kept (omega arith) same,
        piece_on c.args.s.now s (branch-table t (goal.at.branch-walk_with-requires-2 t c).After-switch_branch) c.args.depth (c.args.e + 1) c.args.f c.requires.1.other,
      ),
    )

pub branch-close_branch-requires : goal.branch-close_branch-requires
branch-close_branch-requires t c =
    let tidy =
    both-tidy c.args.light c.args.p c.args.e c.args.f c.args.b c.args.s.now c.walk_with-2.result c.walk_with-2.new.s (branch-other t (goal.at.branch-close_branch-requires t c).After-walk_with-2)
    c.in_ok-walk_with-2.was c.requires.1.first.code c.requires.1.other.code c.requires.1.first.lies c.requires.1.other.lies c.requires.0.ready.tidy in
    record {
      room = omega (arith, c.open_branch.auto.s, c.walk_with.auto.s, c.switch_branch.auto.s, c.walk_with-2.auto.s, c.requires.0.ready.room);
      tidy_one = tidy.0;
      tidy-other = tidy.1;
    }

pub branch-returns-in_err-walk_with : goal.branch-returns-in_err-walk_with
branch-returns-in_err-walk_with t c =
    let g = c.args in
    let gone = err_from_is_err_and c.from_residual.result c.from_residual.ensures.1 in
    rw (gone.1, gone.2)
    (first-branch-refused g.light g.p g.e g.f g.b g.s.now c.walk_with.result c.walk_with.new.s (branch-first t (goal.at.branch-returns-in_err-walk_with t c).After-walk_with) _ c.in_err-walk_with.was)

pub branch-returns-in_err-walk_with-2 : goal.branch-returns-in_err-walk_with-2
branch-returns-in_err-walk_with-2 t c =
    let g = c.args in
    let gone = err_from_is_err_and c.from_residual-in_err-walk_with-2.result c.from_residual-in_err-walk_with-2.ensures.1 in
    rw (gone.1, gone.2)
    (other-branch-refused g.light g.p g.e g.f g.b g.s.now c.walk_with-2.result c.walk_with-2.new.s (branch-other t (goal.at.branch-returns-in_err-walk_with-2 t c).After-walk_with-2) _ c.in_err-walk_with-2.was)

pub branch-returns : goal.branch-returns
branch-returns t c =
    let g = c.args in
    both-joined g.light g.p g.e g.f g.b g.s.now c.walk_with-2.result c.walk_with-2.new.s (branch-other t (goal.at.branch-returns t c).After-walk_with-2) c.in_ok-walk_with-2.was
    c.close_branch.new.s c.close_branch.result c.close_branch.ensures

-- ---- `rounds`

-- the set was copied
rounds-from : (t : ℕ) (c : rounds-After-open_rounds t) → let g = c.args in RoundsFrom g.b g.s.now c.open_rounds.new.s
rounds-from t c =
    let ready = c.requires.0 in
    record {
      opened = c.open_rounds.ensures;
      room = omega (arith, c.open_rounds.auto.s, ready.room);
      same_length = c.open_rounds.auto.s;
      behind = ready.behind;
      tidy = ready.tidy;
      table = below-table c.args.b c.args.s.now c.open_rounds.new.s ready.behind (omega (arith, ready.room)) c.open_rounds.auto.s c.open_rounds.ensures.below;
    }

pub rounds-walk_in-requires : goal.rounds-walk_in-requires
rounds-walk_in-requires t c =
    let from = rounds-from t (goal.at.rounds-walk_in-requires t c).After-open_rounds in
    let inv = c.loop-k.invariant in
    let table = inv.table ∙ from.table in (
      omega arith,
      (
        inner-ready c.args.s.now c.loop-k.s c.args.depth c.args.b c.args.q c.args.q c.requires.0 table
            (inv.same_length ∙ from.same_length) (omega arith)
            inv.walk-tidy,
        piece_on c.args.s.now c.loop-k.s table c.args.depth c.args.p c.args.q c.requires.1,
      ),
    )

pub rounds-close_round-requires : goal.rounds-close_round-requires
rounds-close_round-requires t c =
    closing c.args.light c.args.p c.args.q c.args.b c.args.s.now c.open_rounds.new.s (rounds-from t (goal.at.rounds-close_round-requires t c).After-open_rounds) c.loop-k.k c.loop-k.s c.loop-k.invariant
    (omega arith) c.walk_in.result c.walk_in.new.s c.walk_in.auto.s c.walk_in.ensures c.in-Ok.is c.requires.1.code c.requires.1.lies

pub rounds-loop-k-preserved : goal.rounds-loop-k-preserved
rounds-loop-k-preserved t c =
    next-round c.args.light c.args.p c.args.q c.args.b c.args.s.now c.open_rounds.new.s (rounds-from t (goal.at.rounds-loop-k-preserved t c).After-open_rounds) c.loop-k.k c.loop-k.s c.loop-k.invariant
    (omega arith) c.walk_in.result c.walk_in.new.s c.walk_in.auto.s c.walk_in.ensures c.in-Ok.is c.close_round.new.s c.close_round.auto.s c.close_round.result c.close_round.ensures
    (c.in-Ok-Again.is ∙ ap Ok c.in-Ok-Again.field-0-is) c.requires.1.code c.requires.1.lies

pub rounds-returns-in-Err : goal.rounds-returns-in-Err
rounds-returns-in-Err t c =
    body_refused c.args.light c.args.p c.args.q c.args.b c.args.s.now c.open_rounds.new.s (rounds-from t (goal.at.rounds-returns-in-Err t c).After-open_rounds) c.loop-k.k c.loop-k.s c.loop-k.invariant
    (omega arith) c.walk_in.result c.walk_in.new.s c.walk_in.auto.s c.walk_in.ensures _ c.in-Err.is

pub rounds-returns-in-Err-close_round : goal.rounds-returns-in-Err-close_round
rounds-returns-in-Err-close_round t c =
    closing-refused c.args.light c.args.p c.args.q c.args.b c.args.s.now c.open_rounds.new.s (rounds-from t (goal.at.rounds-returns-in-Err-close_round t c).After-open_rounds) c.loop-k.k c.loop-k.s c.loop-k.invariant
    (omega arith) c.walk_in.result c.walk_in.new.s c.walk_in.auto.s c.walk_in.ensures c.in-Ok.is c.close_round.new.s c.close_round.auto.s c.close_round.result c.close_round.ensures _ c.in-Err-close_round.is

pub rounds-returns-in-Ok-Settled : goal.rounds-returns-in-Ok-Settled
rounds-returns-in-Ok-Settled t c =
    rounds-settled c.args.light c.args.p c.args.q c.args.b c.args.s.now c.open_rounds.new.s (rounds-from t (goal.at.rounds-returns-in-Ok-Settled t c).After-open_rounds) c.loop-k.k c.loop-k.s c.loop-k.invariant
    (omega arith) c.walk_in.result c.walk_in.new.s c.walk_in.auto.s c.walk_in.ensures c.in-Ok.is c.close_round.new.s c.close_round.auto.s c.close_round.result c.close_round.ensures
    (c.in-Ok-Settled.is ∙ ap Ok c.in-Ok-Settled.field-0-is)

pub rounds-returns-then-k-ge-MOST_ROUNDS : goal.rounds-returns-then-k-ge-MOST_ROUNDS
rounds-returns-then-k-ge-MOST_ROUNDS t c =
    never_settled c.args.light c.args.p c.args.q c.args.b c.args.s.now c.open_rounds.new.s (rounds-from t (goal.at.rounds-returns-then-k-ge-MOST_ROUNDS t c).After-open_rounds) c.loop-k.k c.loop-k.s c.loop-k.invariant c.if-k-ge-MOST_ROUNDS.true

-- ---- `settle`

-- the while may be begun again behind the light rounds
settle_afresh : (t : ℕ) (c : settle-After-rounds t) → let g = c.args in Afresh g.p g.q g.b g.s.now c.rounds.new.s
settle_afresh t c =
    let ready = c.requires.0 in
    light_afresh c.args.p c.args.q c.args.b c.args.s.now ready.behind (omega (arith, ready.room)) ready.tidy c.rounds.new.s c.rounds.auto.s
    c.rounds.result c.rounds.ensures

-- they gave a set
settle_told : (t : ℕ) (c : settle-Then-is_ok t) → c.rounds.result ≡ Ok tt
settle_told t c = done_if c.rounds.result (sym c.is_ok.ensures.value ∙ c.if-is_ok.true)

pub settle-walk_in-requires : goal.settle-walk_in-requires
settle-walk_in-requires t c =
    let ready = c.requires.0 in
    let piece = c.requires.1 in
    let told = settle_told t (goal.at.settle-walk_in-requires t c).Then-is_ok in
    let table =
    copied_table c.args.p c.args.q c.args.b c.args.s.now ready.behind (omega (arith, ready.room)) ready.tidy c.rounds.new.s c.rounds.auto.s
    c.rounds.result c.rounds.ensures told c.copy.new.s c.copy.auto.s c.copy.ensures.0 c.copy.ensures.1 in
    let tidy =
    copied_tidy c.args.p c.args.q c.args.b c.args.s.now ready.behind (omega (arith, ready.room)) ready.tidy c.rounds.new.s c.rounds.auto.s
    c.rounds.result c.rounds.ensures told c.copy.new.s c.copy.auto.s c.copy.ensures.0 c.copy.ensures.1 piece.code piece.lies in (
      omega arith,
      (
        inner-ready c.args.s.now c.copy.new.s c.args.depth c.args.b c.args.q c.args.q ready table (c.copy.auto.s ∙ c.rounds.auto.s) (omega arith) tidy,
        piece_on c.args.s.now c.copy.new.s table c.args.depth c.args.p c.args.q piece,
      ),
    )

pub settle-returns-then-is_ok-2 : goal.settle-returns-then-is_ok-2
settle-returns-then-is_ok-2 t c =
    let ready = c.requires.0 in
    confirmed c.args.p c.args.q c.args.b c.args.s.now ready.behind (omega (arith, ready.room)) ready.tidy c.rounds.new.s c.rounds.auto.s
    c.rounds.result c.rounds.ensures (settle_told t (goal.at.settle-returns-then-is_ok-2 t c).Then-is_ok) c.copy.new.s c.copy.auto.s c.copy.ensures.0 c.copy.ensures.1
    c.walk_in.new.s c.walk_in.auto.s c.walk_in.result c.walk_in.ensures (done_if c.walk_in.result (sym c.is_ok-then-is_ok.ensures.value ∙ c.if-is_ok-2.true))

-- the while may be begun again where either was refused
settle_before : (t : ℕ) (c : settle-Joined-is_ok t) → let g = c.args in Afresh g.p g.q g.b g.s.now c.if-is_ok.s
settle_before t c =
    let g = c.args in
    let ready = c.requires.0 in
    elim c.if-is_ok.branch [
      | settle-then-is_ok+else-is_ok-2 w ↦
          rw w.s-is
          (walked_afresh g.p g.q g.b g.s.now ready.behind (omega (arith, ready.room)) ready.tidy c.rounds.new.s c.rounds.auto.s
          c.rounds.result c.rounds.ensures (done_if c.rounds.result (sym c.is_ok.ensures.value ∙ w.if-is_ok.true)) w.copy.new.s w.copy.auto.s w.copy.ensures.0 w.copy.ensures.1
          w.walk_in.new.s w.walk_in.auto.s w.walk_in.result w.walk_in.ensures)
      | settle-else-is_ok w ↦ rw w.s-is (settle_afresh t (goal.at.settle-Joined-is_ok t c).After-rounds)
    ]

pub settle-rounds-requires-2 : goal.settle-rounds-requires-2
settle-rounds-requires-2 t c =
    let g = c.args in
    let afresh = settle_before t (goal.at.settle-rounds-requires-2 t c).Joined-is_ok in
    (omega arith, (afresh_ready g.p g.q g.b g.s.now c.if-is_ok.s g.depth afresh c.requires.0, piece_on g.s.now c.if-is_ok.s afresh.table g.depth g.p g.q c.requires.1))

pub settle-returns : goal.settle-returns
settle-returns t c =
    let g = c.args in
    afresh_rounded g.p g.q g.b g.s.now c.if-is_ok.s c.rounds-2.new.s false c.rounds-2.result (settle_before t (goal.at.settle-returns t c).Joined-is_ok) c.rounds-2.ensures

-- ---- `turn`

-- there is a statement
turn-some : (t : ℕ) (g : turn-Start t) → g.args.p < g.args.q
turn-some t g =
    let one = g.requires.1 in
    single-some (stmts g.args.s.now) (mates g.args.s.now) one.code g.args.p g.args.q one.lies one.sole

-- the branches of an if
turn_branches : (t : ℕ) (c : turn-In-11 t) → let g = c.args in Branching (stmts g.s.now) (mates g.s.now) g.depth g.p g.q
turn_branches t c =
    let one = c.requires.1 in
    single-if (stmts c.args.s.now) (mates c.args.s.now) c.args.depth one.code c.args.p c.args.q one.lies one.nested one.sole
    c.fetch-d.result.a (ap stmt_from (sym c.fetch-d.ensures) ∙ if-stmt c.fetch-d.result c.in-11.is)

-- the body of a while
turn_body : (t : ℕ) (c : turn-In-14 t) → let g = c.args in Looping (stmts g.s.now) (mates g.s.now) g.depth g.p g.q
turn_body t c =
    let one = c.requires.1 in
    single-while (stmts c.args.s.now) (mates c.args.s.now) c.args.depth one.code c.args.p c.args.q one.lies one.nested one.sole
    c.fetch-d.result.a (ap stmt_from (sym c.fetch-d.ensures) ∙ while-stmt c.fetch-d.result c.in-14.is)

-- a plain statement
turn-plain : (t : ℕ) (c : turn-In_default t) → c.fetch-d.result.kind ≤ 10
turn-plain t c =
    let one = c.requires.1 in
    let b = begins (stmts c.args.s.now) (mates c.args.s.now) one.code c.args.p c.args.q one.lies one.sole in
    let is : stmt_from c.fetch-d.result ≡ stmts c.args.s.now c.args.p = ap stmt_from c.fetch-d.ensures in
    plain-kind c.fetch-d.result (λ e. b.0 (sym is ∙ e)) (λ e. b.1 (sym is ∙ e)) (λ k. omega arith) (λ k. omega arith)

pub turn-fetch-d-requires : goal.turn-fetch-d-requires
turn-fetch-d-requires t c =
    (omega (arith, c.requires.0.ready.behind, c.requires.0.ready.room), omega (arith, turn-some t (goal.at.turn-fetch-d-requires t c).Start, c.requires.0.ready.knows.few))

pub turn-overflow_sub-depth : goal.turn-overflow_sub-depth
turn-overflow_sub-depth t c = (turn_branches t (goal.at.turn-overflow_sub-depth t c).In-11).deep

pub turn-overflow_add-p : goal.turn-overflow_add-p
turn-overflow_add-p t c = omega (arith, turn-some t (goal.at.turn-overflow_add-p t c).Start, c.requires.0.ready.knows.few)

pub turn-branch-s-requires : goal.turn-branch-s-requires
turn-branch-s-requires t c =
    let b = turn_branches t (goal.at.turn-branch-s-requires t c).In-11 in
    let deep = b.deep in (
      omega arith,
      (
        record {
          ready = block-ready c.args.s.now c.args.depth c.args.b c.args.q (c.args.q - 1) c.requires.0.ready b.deep (omega arith);
          covers = c.requires.0.covers;
        },
        record {
          first = record {
            code = b.first;
            lies = subst (Lies c.args.s.now b.first (c.args.p + 1)) (sym c.mate-other.ensures) b.first-lies;
            nested = b.first-nested;
          };
          other = record {
            code = b.other;
            lies = subst (λ x. Lies c.args.s.now b.other (x + 1) (c.args.q - 1)) (sym c.mate-other.ensures) b.other-lies;
            nested = b.other-nested;
          };
        },
      ),
    )

pub turn-overflow_sub-depth-in-14 : goal.turn-overflow_sub-depth-in-14
turn-overflow_sub-depth-in-14 t c = (turn_body t (goal.at.turn-overflow_sub-depth-in-14 t c).In-14).deep

pub turn-overflow_add-p-in-14 : goal.turn-overflow_add-p-in-14
turn-overflow_add-p-in-14 t c = omega (arith, turn-some t (goal.at.turn-overflow_add-p-in-14 t c).Start, c.requires.0.ready.knows.few)

pub turn-repeat-requires : goal.turn-repeat-requires
turn-repeat-requires t c =
    let b = turn_body t (goal.at.turn-repeat-requires t c).In-14 in
    let deep = b.deep in (
      omega arith,
      (
        block-ready c.args.s.now c.args.depth c.args.b c.args.q (c.args.q - 1) c.requires.0.ready b.deep (omega arith),
        record { code = b.body; lies = b.lies; nested = b.nested },
      ),
    )

pub turn-rule-requires : goal.turn-rule-requires
turn-rule-requires t c =
    let ready = c.requires.0.ready in
    let some = turn-some t (goal.at.turn-rule-requires t c).Start in (
      record { there = omega (arith, ready.room); numbered = ready.tidy.numbered },
      record {
        label = omega (arith, some, ready.knows.few);
        kind = turn-plain t (goal.at.turn-rule-requires t c).In_default;
        known = subst Known (sym c.fetch-d.ensures) (ready.knows.known c.args.p some);
      },
    )

pub turn-returns-in-11 : goal.turn-returns-in-11
turn-returns-in-11 t c =
    let g = c.args in
    let b = turn_branches t (goal.at.turn-returns-in-11 t c).In-11 in (
      λ x h.
          b.walked g.light x (set_of g.s.now g.b) h
          ∙ c.branch-s.ensures.0 b.first b.other (subst (Lies g.s.now b.first (g.p + 1)) (sym c.mate-other.ensures) b.first-lies)
          (subst (λ y. Lies g.s.now b.other (y + 1) (g.q - 1)) (sym c.mate-other.ensures) b.other-lies),
      c.branch-s.ensures.1,
    )

pub turn-returns-in-14 : goal.turn-returns-in-14
turn-returns-in-14 t c =
    let g = c.args in
    let b = turn_body t (goal.at.turn-returns-in-14 t c).In-14 in
    (λ x h. b.walked g.light x (set_of g.s.now g.b) h ∙ c.repeat.ensures.0 b.body b.lies, c.repeat.ensures.1)

pub turn-returns-in_default : goal.turn-returns-in_default
turn-returns-in_default t c =
    let one = c.requires.1 in
    let e =
    single_step (stmts c.args.s.now) (mates c.args.s.now) one.code c.args.p c.args.q one.lies one.sole (instr_of c.fetch-d.result)
    (ap stmt_from (sym c.fetch-d.ensures) ∙ plain-stmt c.fetch-d.result (turn-plain t (goal.at.turn-returns-in_default t c).In_default)) in
    (λ x y. e c.args.light x (set_of c.args.s.now c.args.b) y ∙ c.rule.ensures.0, c.rule.ensures.1)

-- ---- `walk_in`

-- ---- `walk_with`

-- where the last statement or block lies
walk_with_bounds : (t : ℕ) (c : walk_with-After-beginning-l t) → (c.args.p ≤ c.beginning-l.result) × (c.beginning-l.result < c.loop-r.r)
walk_with_bounds t c =
    bounds c.args.light c.args.s.now c.args.depth c.args.b c.args.p c.args.q c.loop-r.s c.loop-r.m c.loop-r.r c.loop-r.invariant c.beginning-l.result
    c.loop-r-test.true c.beginning-l.ensures

-- the words hold the table, and every label up to the last is one of it
walk_with_room : (t : ℕ) (h : walk_with-At-loop-r t) → (table_words ≤ length h.loop-r.s) × (h.loop-r.r ≤ most_rows)
walk_with_room t h =
    let ready = h.requires.0.ready in
    (omega (arith, ready.behind, ready.room, h.loop-r.invariant.same_length), omega (arith, h.loop-r.invariant.most, ready.knows.few))

-- the labels of the last statement or block, in words as long as those at the head
walk_with_labels : (t : ℕ) (c : walk_with-After-beginning-l t) (s : List ℕ) → length s ≡ length c.loop-r.s → Labels s c.beginning-l.result c.loop-r.r
walk_with_labels t c s e =
    let room = walk_with_room t (goal.at.walk_with-After-beginning-l t c).At-loop-r in
    record { table = omega (arith, room.0); rising = omega (arith, (walk_with_bounds t c).1); most = room.1 }

-- those before it
walk_with_before : (t : ℕ) (c : walk_with-After-beginning-l t) (s : List ℕ) → length s ≡ length c.loop-r.s
    → Labels s c.args.p c.beginning-l.result
walk_with_before t c s e =
    let room = walk_with_room t (goal.at.walk_with-After-beginning-l t c).At-loop-r in
    let b = walk_with_bounds t c in
    record { table = omega (arith, room.0); rising = b.0; most = omega (arith, b.1, room.1) }

-- the walk with the flags made anew
walk_with_renewed : (t : ℕ) (c : walk_with-After-renewed-m t) → Walking c.args.light c.args.s.now c.args.depth c.args.b c.args.p c.args.q c.loop-r.s c.renewed-m.result c.loop-r.r
walk_with_renewed t c =
    renews c.args.light c.args.s.now c.args.depth c.args.b c.args.p c.args.q c.loop-r.s c.loop-r.m c.loop-r.r c.loop-r.invariant c.renewed-m.result c.renewed-m.ensures

-- the walk behind its last statement or block
walk_with_turned : (t : ℕ) (c : walk_with-Joined-not-spares_all t)
    → Walking c.args.light c.args.s.now c.args.depth c.args.b c.args.p c.args.q c.if-not-spares_all.s c.if-not-spares_all.m c.beginning-l.result
walk_with_turned t c =
    let g = c.args in
    let ready = c.requires.0.ready in
    let renewed = walk_with_renewed t (goal.at.walk_with-Joined-not-spares_all t c).After-renewed-m in
    elim c.if-not-spares_all.branch [
      | walk_with-then-not-spares_all+in_ok-turn w ↦
          rw (w.s-is, w.m-is)
          (turn-done g.light g.s.now g.depth g.b g.p g.q c.loop-r.s c.renewed-m.result c.loop-r.r renewed c.beginning-l.result
          c.loop-r-test.true c.beginning-l.ensures w.turn.new.s w.turn.result w.turn.ensures w.in_ok-turn.was ready.behind
          (omega (arith, ready.room)) w.turn.auto.s w.flags_after-m.result w.flags_after-m.ensures)
      | walk_with-else-not-spares_all w ↦
          rw (w.s-is, w.m-is)
          (passes-block g.light g.s.now g.depth g.b g.p g.q c.loop-r.s c.renewed-m.result c.loop-r.r renewed c.beginning-l.result
          c.loop-r-test.true c.beginning-l.ensures (c.spares_all.ensures w.if-not-spares_all.false))
    ]

pub walk_with-spared_plain-r-requires : goal.walk_with-spared_plain-r-requires
walk_with-spared_plain-r-requires t c =
    let ready = c.requires.0.ready in
    let piece = c.requires.1 in
    record {
      table = omega (arith, ready.behind, ready.room);
      rising = laid_le (stmts c.args.s.now) (mates c.args.s.now) piece.code c.args.p c.args.q piece.lies;
      most = ready.knows.few;
    }

pub walk_with-loop-r-init : goal.walk_with-loop-r-init
walk_with-loop-r-init t c =
    let m = c.args.flags in
    let first = walking_first c.args.light c.args.s.now c.args.depth c.args.b c.args.p c.args.q m c.requires.0 c.requires.1 in
    passes_over c.args.light c.args.s.now c.args.depth c.args.b c.args.p c.args.q c.args.s.now m c.args.q first c.spared_plain-r.result c.spared_plain-r.ensures

pub walk_with-renewed-m-requires : goal.walk_with-renewed-m-requires
walk_with-renewed-m-requires t c =
    (walk_with_labels t c c.loop-r.s refl, record { there = omega (arith, c.requires.0.ready.room, c.loop-r.invariant.same_length); covers = c.loop-r.invariant.covers })

pub walk_with-spares_all-requires : goal.walk_with-spares_all-requires
walk_with-spares_all-requires t c = walk_with_labels t (goal.at.walk_with-spares_all-requires t c).After-beginning-l c.loop-r.s refl

pub walk_with-turn-requires : goal.walk_with-turn-requires
walk_with-turn-requires t c =
    let ready = c.requires.0.ready in (
      omega arith,
      (
        record {
          ready = record {
            knows = knows_here c.args.light c.args.s.now c.args.depth c.args.b c.args.p c.args.q c.loop-r.s c.loop-r.m c.loop-r.r c.loop-r.invariant c.loop-r.r (omega arith) ready.knows;
            shallow = ready.shallow;
            behind = ready.behind;
            room = omega (arith, ready.room, c.loop-r.invariant.same_length);
            tidy = c.loop-r.invariant.stands.tidy;
          };
          covers = c.renewed-m.ensures;
        },
        due c.args.light c.args.s.now c.args.depth c.args.b c.args.p c.args.q c.loop-r.s c.loop-r.m c.loop-r.r c.loop-r.invariant c.beginning-l.result
            c.loop-r-test.true c.beginning-l.ensures,
      ),
    )

pub walk_with-returns-in_err-turn : goal.walk_with-returns-in_err-turn
walk_with-returns-in_err-turn t c =
    let gone = err_from_is_err_and c.from_residual.result c.from_residual.ensures.1 in
    rw (gone.1, gone.2)
    (turn-refused c.args.light c.args.s.now c.args.depth c.args.b c.args.p c.args.q c.loop-r.s c.loop-r.m c.loop-r.r c.loop-r.invariant c.beginning-l.result
    c.loop-r-test.true c.beginning-l.ensures c.turn.new.s c.turn.result c.turn.ensures _ c.in_err-turn.was)

pub walk_with-flags_after-m-requires : goal.walk_with-flags_after-m-requires
walk_with-flags_after-m-requires t c =
    (walk_with_labels t (goal.at.walk_with-flags_after-m-requires t c).After-beginning-l c.turn.new.s c.turn.auto.s, omega (arith, c.requires.0.ready.room, c.loop-r.invariant.same_length, c.turn.auto.s))

pub walk_with-spared_plain-r-requires-in-loop-r : goal.walk_with-spared_plain-r-requires-in-loop-r
walk_with-spared_plain-r-requires-in-loop-r t c =
    walk_with_before t (goal.at.walk_with-spared_plain-r-requires-in-loop-r t c).After-beginning-l c.if-not-spares_all.s c.if-not-spares_all.auto.s

pub walk_with-loop-r-smaller : goal.walk_with-loop-r-smaller
walk_with-loop-r-smaller t c =
    omega (arith, (walk_with_bounds t (goal.at.walk_with-loop-r-smaller t c).After-beginning-l).1, c.spared_plain-r-in-loop-r.ensures.most)

pub walk_with-loop-r-preserved : goal.walk_with-loop-r-preserved
walk_with-loop-r-preserved t c =
    passes_over c.args.light c.args.s.now c.args.depth c.args.b c.args.p c.args.q c.if-not-spares_all.s c.if-not-spares_all.m c.beginning-l.result
    (walk_with_turned t (goal.at.walk_with-loop-r-preserved t c).Joined-not-spares_all) c.spared_plain-r-in-loop-r.result c.spared_plain-r-in-loop-r.ensures

pub walk_with-returns : goal.walk_with-returns
walk_with-returns t c =
    finished c.args.light c.args.s.now c.args.depth c.args.b c.args.p c.args.q c.loop-r.s c.loop-r.m c.loop-r.r c.loop-r.invariant c.loop-r-test.false
