-- `program::statements::immediate_right` meets its contract.
use native.Mathlib.Omega.{arith}
use Rattle.model.specs.Kinds.{kind_of}
use Rattle.model.specs.Program.{immediate_right_lem}
use Rattle.program.specs.Reading.{entry_of}
use Rattle.program.proofs.Tables.{type-small}
use Rattle.program.proofs.statements.ByKind.{immediate-none}
use Rattle.program.proofs.statements.immediate_right.Goals as goal

pub returns-then-q-ne-NUMBER : goal.returns-then-q-ne-NUMBER
returns-then-q-ne-NUMBER c = let q = c.args.q in rw (immediate-none _ (entry_of q) (omega (arith, c.if-q-ne-NUMBER.true)))

pub range_of-requires : goal.range_of-requires
range_of-requires c = rw c.variable_type-ty.ensures (type-small _ c.requires _)

pub returns : goal.returns
unfolding immediate_right_lem kind_of
returns c =
    rw (c.if-q-ne-NUMBER.false, ← c.variable_type-ty.ensures, ← c.immediate-n.ensures) (c.is_of_type.ensures _ c.range_of.ensures)
