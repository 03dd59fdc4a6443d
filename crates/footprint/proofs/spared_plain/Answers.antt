-- `footprint::spared_plain` meets its contract: what stands from l on is plain and spared.
use mathlib.Core.Path.{sym, ap, subst, ◌∙◌}
use Rattle.std.proofs.Common.{◌≡◌, ◌+◌, ◌-◌}
use native.Mathlib.Omega.{arith}
use Rattle.code_table.specs.Statements.{stmt_from, instr_of}
use Rattle.code_table.specs.Table.{stmts}
use Rattle.code_table.proofs.Meanings.{plain-stmt}
use Rattle.footprint.proofs.Skipped.{passed_none, passed-before}
use Rattle.footprint.specs.Footprints.{Spares, BackTo}
use Rattle.footprint.proofs.spared_plain.Goals as goal
use Rattle.footprint.proofs.spared_plain.Goals.{After-fetch-d}

pub loop-l-init : goal.loop-l-init
loop-l-init c = passed_none c.args.m (stmts c.args.s.now) c.args.r

-- what was passed reaches back to here
stopped : (c : After-fetch-d) → BackTo c.args.m (stmts c.args.s.now) c.args.p c.args.r (c.loop-l.l - 1 + 1)
stopped c =
    let here : c.loop-l.l - 1 + 1 ≡ c.loop-l.l = omega arith in
    rw here (record { least = omega arith; most = omega arith; passed = c.loop-l.invariant })

pub returns-then-d-ge11 : goal.returns-then-d-ge11
returns-then-d-ge11 c = stopped (goal.at.returns-then-d-ge11 c).After-fetch-d

pub loop-l-preserved : goal.loop-l-preserved
loop-l-preserved c =
    let a = c.args in
    let spared = c.spares.ensures c.if-not-spares.false in
    let is_plain = plain-stmt c.fetch-d.result (omega (arith, c.if-d-ge11.false)) in
    passed-before a.m (stmts a.s.now) c.loop-l.l a.r c.loop-l.invariant (instr_of c.fetch-d.result) (ap stmt_from (sym c.fetch-d.ensures) ∙ is_plain)
    (subst (λ x. Spares a.m (stmt_from x)) c.fetch-d.ensures spared)

pub returns : goal.returns
returns c =
    let h = c.loop-l.invariant in
    record {
      least = omega arith;
      most = omega arith;
      passed = record { each-plain = λ i a b. h.each-plain i (omega arith) b; spared = λ i a b. h.spared i (omega arith) b };
    }
