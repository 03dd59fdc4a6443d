-- `sets::slots::same_slot` meets its contract: the conjuncts are compared, and the answer tells.
use Rattle.std.proofs.Common.{◌≡◌, ap, ◌∙◌, refl}
use Rattle.std.specs.declared.cmp.Ordering.{Ordering}
use Rattle.std.specs.declared.cmp.Ordering.TheVariants.{Less, Equal, Greater}
use Rattle.std.specs.Ordering.{is_eq}
use lib.Dec.{compare_is_eq}
use Rattle.conjunct.specs.Word.{nodes_of_lem}
use Rattle.conjunct.proofs.Swaps.{order_same}
use Rattle.conjunct.specs.Value.{ordering_of}
use Rattle.sets.specs.Region.{slot_at}
use Rattle.sets.proofs.slots.same_slot.Goals as goal

-- two tests of one order
tested : (o : Ordering) → is_eq o ≡ compare_is_eq (ordering_of o)
tested Less = refl
tested Equal = refl
tested Greater = refl

pub returns : goal.returns
returns c =
    let a = c.args in
    c.is_eq.ensures ∙ tested c.order_slots.result ∙ ap compare_is_eq c.order_slots.ensures
    ∙ order_same (nodes_of_lem (slot_at a.s.now a.a)) (nodes_of_lem (slot_at a.s.now a.b))
