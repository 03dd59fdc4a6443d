-- `program::own_variables::body_right` meets its contract.
use mathlib.Core.Path.{◌≡◌, sym, ap, ◌∙◌}
use mathlib.Core.Bool.{◌&&◌, and-false}
use Prim.Native.Nat.{ℕ, ◌≤◌, ◌<◌, ◌-◌, ◌+◌}
use native.Mathlib.Omega.{arith}
use lib.ListN.{length, get_or}
use Rattle.model.specs.Lists.{every}
use Rattle.model.specs.Code.{end}
use Rattle.model.specs.Procedures.{own, Procedure, named, calls_before_lem}
use Rattle.model.specs.Program.{Tables, Statement, item_of}
use Rattle.program.specs.Names.{within}
use Rattle.program.specs.Parts.{procedure_between}
use Rattle.program.specs.Reading.{tables_of, entry_of}
use Rattle.program.proofs.Items.{item_at_lem, items_length}
use Rattle.model.proofs.Basics.Passes.{pass_fails, pass_goes, pass_ends}
use Rattle.program.proofs.own_variables.Bodies.{body-length, body-at}
use Rattle.program.proofs.own_variables.body_right.Invariants.{uses}
use Rattle.program.proofs.Every.{every-is}
use Rattle.program.proofs.own_variables.body_right.Goals as goal
use Rattle.program.proofs.own_variables.body_right.Goals.{then-not-names_within-via-then-not-names_within, then-not-names_within-via-else-not-names_within+then-not-calls_before}
use Rattle.program.proofs.own_variables.body_right.Goals.{After-calls_before, After-names_within, After-statement-q, At-loop-i, In-loop-i}

abbrev tables : At-loop-i → Tables
tables c = tables_of c.args.program.now

abbrev tested : At-loop-i → Procedure
tested c = procedure_between (tables c) c.args.begin c.args.end

-- the place of a turn's statement in the body
abbrev place : At-loop-i → ℕ
place c = c.loop-i.i - (c.args.begin + 1)

-- ---- the statement of a turn
all : (c : At-loop-i) → length (tested c).body ≡ c.args.end - (c.args.begin + 1)
all c =
    let a = c.args in
    body-length (tables c) a.begin a.end (omega (arith, items_length (tables c), c.requires.inside))

in_list : (c : In-loop-i) → place (goal.at.In-loop-i c).At-loop-i < length (tested (goal.at.In-loop-i c).At-loop-i).body
in_list c = rw (all (goal.at.In-loop-i c).At-loop-i) (omega arith)

item : (c : After-statement-q) → item_of (tables (goal.at.After-statement-q c).At-loop-i) (entry_of c.statement-q.result) ≡ get_or (tested (goal.at.After-statement-q c).At-loop-i).body (place (goal.at.After-statement-q c).At-loop-i) (own end)
item c =
    let T = tables (goal.at.After-statement-q c).At-loop-i in
    ap (item_of T) c.statement-q.ensures.0 ∙ sym (item_at_lem T c.loop-i.i)
    ∙ sym (body-at T c.args.begin c.args.end c.loop-i.i c.loop-i.invariant.0 (omega arith))

-- the test of its variables, and of its call
own-variables : (c : After-names_within) → c.names_within.result ≡ uses (tested (goal.at.After-names_within c).At-loop-i) (get_or (tested (goal.at.After-names_within c).At-loop-i).body (place (goal.at.After-names_within c).At-loop-i) (own end))
own-variables c =
    let head = c.statement-head.ensures.0 in
    let first = ap (λ (s : Statement). s.b) head in
    let count = ap (λ (s : Statement). s.c) head in
    let names = c.listed.ensures ∙ c.names_of-names.ensures.same ∙ ap named (item (goal.at.After-names_within c).After-statement-q) in
    c.names_within.ensures ∙ sym (every-is _ _) ∙ (λ j. every (within (first j) (count j)) (names j))

earlier-calls : (c : After-calls_before) → c.calls_before.result ≡ calls_before_lem c.args.n (get_or (tested (goal.at.After-calls_before c).At-loop-i).body (place (goal.at.After-calls_before c).At-loop-i) (own end))
earlier-calls c =
    c.calls_before.ensures (tables (goal.at.After-calls_before c).At-loop-i) ∙ ap (calls_before_lem c.args.n) (item (goal.at.After-calls_before c).After-statement-q)

-- one place further
next : (c : In-loop-i) → place (goal.at.In-loop-i c).At-loop-i + 1 ≡ c.loop-i.i + 1 - (c.args.begin + 1)
next c = omega (arith, c.loop-i.invariant.0)

pub returns-then-not-names_within : goal.returns-then-not-names_within
returns-then-not-names_within c =
    let here = goal.at.returns-then-not-names_within c in
    let q = tested here.At-loop-i in
    let f = calls_before_lem c.args.n in
    let at = place here.At-loop-i in
    let in_body = in_list here.In-loop-i in
    let T = tables here.At-loop-i in
    elim c.then-not-names_within.branch [
      | then-not-names_within-via-then-not-names_within w ↦
          let wrong = sym (own-variables here.After-names_within) ∙ w.if-not-names_within.true in
          sym (ap (◌&& every f q.body) (pass_fails (uses q) (own end) q.body at in_body c.loop-i.invariant.1 wrong))
      | then-not-names_within-via-else-not-names_within+then-not-calls_before w ↦
          let earlier = w.calls_before.ensures T ∙ ap f (item here.After-statement-q) in
          let wrong = sym earlier ∙ w.if-not-calls_before.true in
          sym (ap (every (uses q) q.body &&◌) (pass_fails f (own end) q.body at in_body c.loop-i.invariant.2 wrong) ∙ and-false (every (uses q) q.body))
    ]

pub loop-i-preserved : goal.loop-i-preserved
loop-i-preserved c =
    let q = tested (goal.at.loop-i-preserved c).At-loop-i in
    let f = calls_before_lem c.args.n in
    let owned = sym (own-variables (goal.at.loop-i-preserved c).After-names_within) ∙ c.if-not-names_within.false in
    let calls = sym (earlier-calls (goal.at.loop-i-preserved c).After-calls_before) ∙ c.if-not-calls_before.false in (
      omega (arith, c.loop-i.invariant.0),
      rw (← next (goal.at.loop-i-preserved c).In-loop-i) (pass_goes (uses q) (own end) q.body (place (goal.at.loop-i-preserved c).At-loop-i) (in_list (goal.at.loop-i-preserved c).In-loop-i) c.loop-i.invariant.1 owned),
      rw (← next (goal.at.loop-i-preserved c).In-loop-i) (pass_goes f (own end) q.body (place (goal.at.loop-i-preserved c).At-loop-i) (in_list (goal.at.loop-i-preserved c).In-loop-i) c.loop-i.invariant.2 calls),
    )

pub returns : goal.returns
returns c =
    let q = tested (goal.at.returns c).At-loop-i in
    let past : length q.body ≤ place (goal.at.returns c).At-loop-i = rw (all (goal.at.returns c).At-loop-i) (omega arith) in
    sym (rw (pass_ends (uses q) (own end) q.body (place (goal.at.returns c).At-loop-i) past c.loop-i.invariant.1) (pass_ends (calls_before_lem c.args.n) (own end) q.body (place (goal.at.returns c).At-loop-i) past c.loop-i.invariant.2))
