-- `arith::step_range` meets its contract: each row of the table is the type's, by computation.
use Rattle.std.proofs.Common.{◌≡◌, ℕ, refl, arith}
use Rattle.arith.specs.declared.Range.{Range}
use Rattle.arith.specs.Types.{bits, signed, depth, height, Row}
use Rattle.arith.proofs.step_range.Goals as goal

row-at : (t k : ℕ) (r : Range) → t ≡ k → r.bits ≡ bits k → r.lowest ≡ depth k → r.highest ≡ height k → Row t r
row-at t k r e w l h = record { width = rw e w; low = rw e l; high = rw e h }

pub returns-in-0 : goal.returns-in-0
unfolding bits signed depth height
returns-in-0 c = row-at _ 0 _ c.in-0.is refl refl refl

pub returns-in-1 : goal.returns-in-1
unfolding bits signed depth height
returns-in-1 c = row-at _ 1 _ c.in-1.is refl refl refl

pub returns-in-2 : goal.returns-in-2
unfolding bits signed depth height
returns-in-2 c = row-at _ 2 _ c.in-2.is refl refl refl

pub returns-in-3 : goal.returns-in-3
unfolding bits signed depth height
returns-in-3 c = row-at _ 3 _ c.in-3.is refl refl refl

pub returns-in-4 : goal.returns-in-4
unfolding bits signed depth height
returns-in-4 c = row-at _ 4 _ c.in-4.is refl refl refl

pub returns-in-5 : goal.returns-in-5
unfolding bits signed depth height
returns-in-5 c = row-at _ 5 _ c.in-5.is refl refl refl

pub returns-in-6 : goal.returns-in-6
unfolding bits signed depth height
returns-in-6 c = row-at _ 6 _ c.in-6.is refl refl refl

pub returns-in_default : goal.returns-in_default
unfolding bits signed depth height
returns-in_default c = row-at c.args.ty 7 _ (omega arith) refl refl refl
