-- `footprint::Footprint::first_changing` meets its contract.
use mathlib.Core.Path.{subst}
use native.Mathlib.Omega.{arith}
use Rattle.code_table.specs.Statements.{stmt_from}
use Rattle.code_table.specs.Table.{stmts}
use Rattle.footprint.proofs.Skipped.{quiet_next}
use Rattle.footprint.specs.Footprints.{Spares}
use Rattle.footprint.proofs.Footprint.first_changing.Goals as goal

pub loop-i-init : goal.loop-i-init
loop-i-init c = λ i a b. absurd (omega arith)

pub loop-i-preserved : goal.loop-i-preserved
loop-i-preserved c =
    let a = c.args in
    let spared = c.spares.ensures c.if-not-spares.false in
    quiet_next a.self.now (stmts a.s.now) a.p c.loop-i.i c.loop-i.invariant (subst (λ d. Spares a.self.now (stmt_from d)) c.fetch-d.ensures spared)

pub returns : goal.returns
returns c = λ e i a b. c.loop-i.invariant i a (omega arith)
