-- `sets::node_count` meets its contract.
use mathlib.Core.Path.{◌≡◌, sym, ap, ◌∙◌}
use Prim.Native.Nat.{◌+◌, ◌*◌}
use native.Mathlib.Omega.{arith}
use lib.ListN.{length, length-map}
use Rattle.conjunct.specs.Word.{nodes_of_lem, node_of}
use Rattle.sets.proofs.Rows.{set_at, set_past}
use Rattle.sets.proofs.slots.Words.{slot-count}
use Rattle.sets.specs.Region.{slot_at, slot_words}
use Rattle.sets.proofs.node_count.Goals as goal

pub returns-then-i-n : goal.returns-then-i-n
returns-then-i-n c =
    let a = c.args in
    let s = a.s.now in
    let at = a.base + 1 + slot_words * a.i in
    let cap = c.capped in
    let words : length (nodes_of_lem (slot_at s at)) ≡ cap.result =
    length-map (slot_at s at) node_of ∙ slot-count s at cap.result (omega arith) (omega arith) cap.ensures.1 in
    (cap.ensures.0, sym (ap length (set_at s a.base a.i (omega arith)) ∙ words))

pub returns : goal.returns
returns c =
    let a = c.args in
    (omega arith, sym (ap length (set_past a.s.now a.base a.i (omega arith))))
