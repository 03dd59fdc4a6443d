-- `program::calls::argument` meets its contract.
use mathlib.Core.Path.{sym}
use native.Mathlib.Omega.{arith}
use lib.ListN.{get_or-eq_default}
use Rattle.model.specs.Bytes.{bytes4}
use Rattle.program.proofs.calls.Arguments.{four_bytes}
use Rattle.program.proofs.calls.argument.Goals as goal

pub returns-in-0 : goal.returns-in-0
unfolding bytes4
returns-in-0 c = rw c.in-0.is

pub returns-in-1 : goal.returns-in-1
unfolding bytes4
returns-in-1 c = rw c.in-1.is

pub returns-in-2 : goal.returns-in-2
unfolding bytes4
returns-in-2 c = rw c.in-2.is

pub returns-in-3 : goal.returns-in-3
unfolding bytes4
returns-in-3 c = rw c.in-3.is

pub returns-in_default : goal.returns-in_default
returns-in_default c =
    let a = c.args in
    sym (get_or-eq_default (bytes4 a.imm) 0 (rw (four_bytes a.imm) (omega arith)))
