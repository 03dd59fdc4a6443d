-- `program::statements::form_right` meets its contract.
use Rattle.program.specs.Reading.{entry_of}
use Rattle.program.proofs.statements.ByKind.{form-none}
use Rattle.std.proofs.Common.{arith}
use Rattle.program.proofs.statements.form_right.Goals as goal

pub returns-in_default : goal.returns-in_default
returns-in_default c = let q = c.args.q in rw (form-none _ (entry_of q) (grind arith))
