-- `footprint::Footprint::flag_statement` meets its contract.
use mathlib.Core.Logic.{inl, inr}
use native.Mathlib.Omega.{arith}
use borrow.Author.Rules.{rules}
use Rattle.model.specs.Kinds.{kind_of}
use Rattle.code_table.specs.Statements.{stmt_from}
use Rattle.footprint.proofs.Flags.{extends_self, extends_trans}
use Rattle.footprint.proofs.Brought.{flags_one, flags_operation, flags_nothing}
use Rattle.footprint.proofs.Footprint.flag_statement.Goals as goal

pub returns-in-1 : goal.returns-in-1
returns-in-1 c = (c.flag_variable.ensures.0, flags_one c.flag_variable.new.self c.args.d c.in-1.is c.flag_variable.ensures.1)

pub returns-in-2-to-5 : goal.returns-in-2-to-5
returns-in-2-to-5 c =
    let d = c.args.d in
    let first = c.flag_variable-in-2-to-5 in
    let second = c.flag_variable-in-2-to-5-2 in (
      extends_trans c.args.self.now first.new.self second.new.self first.ensures.0 second.ensures.0,
      flags_operation second.new.self d (search rules) (grind arith) (λ g. first.ensures.1 (second.ensures.0.variables d.b g)) second.ensures.1,
    )

pub returns-in-8 : goal.returns-in-8
unfolding stmt_from kind_of
returns-in-8 c = (c.flag_array.ensures.0, rw c.in-8.is c.flag_array.ensures.1)

pub returns-in-9 : goal.returns-in-9
unfolding stmt_from kind_of
returns-in-9 c = (c.flag_variable-in-9.ensures.0, rw c.in-9.is c.flag_variable-in-9.ensures.1)

pub returns-then-d-lt1 : goal.returns-then-d-lt1
returns-then-d-lt1 c = (
  extends_self c.args.self.now,
  flags_nothing c.args.self.now c.args.d (inl (omega arith)) (λ e. omega arith) (λ e. omega arith) (λ e. omega arith) (λ e. omega arith),
)

pub returns-else-d-lt6 : goal.returns-else-d-lt6
returns-else-d-lt6 c = (
  extends_self c.args.self.now,
  flags_nothing c.args.self.now c.args.d (inr (omega arith)) (λ e. omega arith) (λ e. grind arith) (λ e. omega arith) (λ e. omega arith),
)
