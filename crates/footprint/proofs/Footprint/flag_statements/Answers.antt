-- `footprint::Footprint::flag_statements` meets its contract.
use native.Mathlib.Omega.{arith}
use mathlib.Core.Path.{subst}
use Rattle.code_table.specs.Statements.{stmt_from}
use Rattle.code_table.specs.Table.{stmts}
use Rattle.footprint.proofs.Flags.{extends_self, extends_trans}
use Rattle.footprint.proofs.Brought.{flags_next, flags_all_more}
use Rattle.footprint.specs.Footprints.{Flags}
use Rattle.footprint.proofs.Footprint.flag_statements.Goals as goal

pub loop-i-init : goal.loop-i-init
loop-i-init c = (extends_self _, λ i a b. absurd (omega arith))

pub loop-i-preserved : goal.loop-i-preserved
loop-i-preserved c =
    let lp = c.loop-i in
    let r = c.flag_statement in
    let flagged = subst (λ d. Flags r.new.self (stmt_from d)) c.fetch.ensures r.ensures.1 in (
      extends_trans c.args.self.now lp.self r.new.self lp.invariant.0 r.ensures.0,
      flags_next r.new.self (stmts c.args.s.now) c.args.p lp.i
          (flags_all_more lp.self r.new.self r.ensures.0 (stmts c.args.s.now) c.args.p lp.i lp.invariant.1) flagged,
    )

pub returns : goal.returns
returns c = (c.loop-i.invariant.0, λ i a b. c.loop-i.invariant.1 i a (omega arith))
