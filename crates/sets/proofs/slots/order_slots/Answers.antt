-- `sets::slots::order_slots` meets its contract: the words of the first slot are compared with the second.
use mathlib.Core.Path.{ap, ◌∙◌}
use Prim.Native.Nat.{◌+◌, ◌-◌}
use native.Mathlib.Omega.{arith}
use lib.ListN.{length, drop}
use lib.Seq.{take-take}
use Rattle.model.specs.Conjunct.{order}
use Rattle.conjunct.specs.Word.{nodes_of_lem}
use Rattle.sets.proofs.slots.Words.{slot-words}
use Rattle.sets.specs.Region.{slot_at}
use Rattle.sets.proofs.slots.order_slots.Goals as goal

pub returns : goal.returns
returns c =
    let a = c.args in
    let n = c.capped-n in
    let s = a.s.now in
    let words =
    take-take n.result (length s - (a.a + 1)) (drop (a.a + 1) s) (omega arith)
    ∙ slot-words s a.a n.result (omega arith) (omega arith) n.ensures.1 in
    c.compare_slot.ensures ∙ ap (λ l. order (nodes_of_lem l) (nodes_of_lem (slot_at s a.b))) words
