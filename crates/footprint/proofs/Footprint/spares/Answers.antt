-- `footprint::Footprint::spares` meets its contract.
use native.Mathlib.Omega.{arith}
use borrow.Author.Tests.{not-true}
use Rattle.footprint.proofs.Skipped.{spares-variable, spares-array, spares-nothing}
use Rattle.footprint.proofs.Footprint.spares.Goals as goal

pub returns-then-d-ge10 : goal.returns-then-d-ge10
returns-then-d-ge10 c = λ e. spares-nothing c.args.self.now c.args.d c.if-d-ge10.true

pub returns-then-d-lt-ARRAYS : goal.returns-then-d-lt-ARRAYS
returns-then-d-lt-ARRAYS c = λ e. spares-array c.args.self.now c.args.d (omega arith) (omega arith, not-true _ e)

pub returns : goal.returns
returns c = λ e. spares-variable c.args.self.now c.args.d (omega arith) (not-true _ e)
