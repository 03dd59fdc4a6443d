-- `program::statements::statements_right` meets its contract. The invariant: the forms of the statements before i are right, and the two flags
-- have what the tests of types and of immediates say of them.
use mathlib.Core.Path.{◌≡◌, ap, ◌∙◌}
use mathlib.Core.Bool.{true}
use Prim.Native.Nat.{ℕ, ◌≤◌, ◌<◌}
use native.Mathlib.Omega.{arith}
use lib.ListN.{length}
use Rattle.model.specs.Lists.{every}
use Rattle.model.specs.Program.{Tables, Statement, form_right_lem, types_agree_lem, immediate_right_lem}
use Rattle.model.specs.Refusals.{wrong_statement}
use Rattle.program.specs.Reading.{entry_of, statement_of, no_statement, tables_of}
use Rattle.program.proofs.Answers.{check-ok, check-refused}
use Rattle.model.proofs.Basics.Passes.{pass_fails, pass_goes, pass_ends, pass_gathers, pass_gathered}
use Rattle.refusals.specs.Answers.{number_of}
use Rattle.program.proofs.statements.statements_right.Goals as goal
use Rattle.program.proofs.statements.statements_right.Goals.{After-loop-i, In-loop-i, In-Ok}

abbrev tables : In-loop-i → Tables
tables c = tables_of c.args.program.now

abbrev ended : After-loop-i → Tables
ended c = tables_of c.args.program.now

-- ---- the statement of a turn
abbrev number : In-loop-i → ℕ
number c = c.loop-i.i

abbrev entry : In-loop-i → Statement
entry c = statement_of (tables c) (number c)

-- it is one of the list
inside_list : (c : In-loop-i) → number c < length (tables c).statements
inside_list c = omega arith

-- the entry that was taken is the statement's, and its form is right
taken : (c : In-Ok) → (form_right_lem (tables (goal.at.In-Ok c).In-loop-i) (entry (goal.at.In-Ok c).In-loop-i) ≡ true) × (entry_of c.in-Ok.q ≡ entry (goal.at.In-Ok c).In-loop-i)
taken c =
    let q = entry (goal.at.In-Ok c).In-loop-i in
    check-ok (form_right_lem (tables (goal.at.In-Ok c).In-loop-i) q) wrong_statement _ q c.in-Ok.ensures

-- ---- after the loop
past_list : (c : After-loop-i) → length (ended c).statements ≤ c.loop-i.i
past_list c = omega arith

formed : (c : After-loop-i) → every (form_right_lem (ended c)) (ended c).statements ≡ true
formed c =
    let lp = c.loop-i in
    pass_ends (form_right_lem (ended c)) no_statement (ended c).statements lp.i (past_list c) lp.invariant.0

agreed : (c : After-loop-i) → every (types_agree_lem (ended c)) (ended c).statements ≡ c.loop-i.agree
agreed c =
    let lp = c.loop-i in
    pass_gathered (types_agree_lem (ended c)) no_statement (ended c).statements lp.i lp.agree (past_list c) lp.invariant.1

fitted : (c : After-loop-i) → every (immediate_right_lem (ended c)) (ended c).statements ≡ c.loop-i.inside
fitted c =
    let lp = c.loop-i in
    pass_gathered (immediate_right_lem (ended c)) no_statement (ended c).statements lp.i lp.inside (past_list c) lp.invariant.2

-- ---- the answers
pub returns-in_default : goal.returns-in_default
returns-in_default c =
    let here = goal.at.returns-in_default c in
    let T = tables here.In-loop-i in
    let right = form_right_lem T (entry here.In-loop-i) in
    let wrong = check-refused right wrong_statement (number_of c.in_default.field-0) (entry here.In-loop-i) c.in_default.ensures in
    λ o. rw (pass_fails (form_right_lem T) no_statement T.statements (number here.In-loop-i) (inside_list here.In-loop-i) c.loop-i.invariant.0 wrong)

pub loop-i-preserved : goal.loop-i-preserved
loop-i-preserved c =
    let here = goal.at.loop-i-preserved c in
    let T = tables here.In-loop-i in
    let ss = T.statements in
    let lp = c.loop-i in
    let q = taken here.In-Ok in
    let agree = c.types_agree-agree.ensures ∙ ap (types_agree_lem T) q.1 in
    let fits = c.immediate_right-inside.ensures ∙ ap (immediate_right_lem T) q.1 in (
      pass_goes (form_right_lem T) no_statement ss lp.i (inside_list here.In-loop-i) lp.invariant.0 q.0,
      rw agree (pass_gathers (types_agree_lem T) no_statement ss lp.i lp.agree (inside_list here.In-loop-i) lp.invariant.1),
      rw fits (pass_gathers (immediate_right_lem T) no_statement ss lp.i lp.inside (inside_list here.In-loop-i) lp.invariant.2),
    )

pub returns-then-not-agree : goal.returns-then-not-agree
returns-then-not-agree c = λ o. rw (formed (goal.at.returns-then-not-agree c).After-loop-i, agreed (goal.at.returns-then-not-agree c).After-loop-i ∙ c.if-not-agree.true)

pub returns-then-not-inside : goal.returns-then-not-inside
returns-then-not-inside c =
    λ o. rw (
      formed (goal.at.returns-then-not-inside c).After-loop-i,
      agreed (goal.at.returns-then-not-inside c).After-loop-i ∙ c.if-not-agree.false,
      fitted (goal.at.returns-then-not-inside c).After-loop-i ∙ c.if-not-inside.true,
    )

pub returns : goal.returns
returns c =
    λ o. rw (
      formed (goal.at.returns c).After-loop-i,
      agreed (goal.at.returns c).After-loop-i ∙ c.if-not-agree.false,
      fitted (goal.at.returns c).After-loop-i ∙ c.if-not-inside.false,
    )
