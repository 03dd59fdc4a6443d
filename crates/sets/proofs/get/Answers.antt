-- `sets::get` meets its contract.
use mathlib.Core.Path.{sym, ap, ◌∙◌}
use native.Mathlib.Omega.{arith}
use Rattle.conjunct.specs.Word.{nodes_of_lem}
use Rattle.sets.proofs.Rows.{set_at, set_past}
use Rattle.sets.proofs.get.Goals as goal

pub returns-then-i-n : goal.returns-then-i-n
returns-then-i-n c =
    let a = c.args in
    let read = c.read_slot.ensures in
    (read.0, ap nodes_of_lem read.1 ∙ sym (set_at a.s.now a.base a.i (omega arith)))

pub returns : goal.returns
returns c =
    let a = c.args in
    (omega arith, sym (set_past a.s.now a.base a.i (omega arith)))
