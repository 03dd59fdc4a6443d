-- `rules::assign_slot` meets its contract: one node for the variable, or several, or none where the conjunct does not have it.
use mathlib.Core.Bool.{false}
use mathlib.Core.List.{flat_map}
use mathlib.Core.Path.{◌≡◌, refl, sym, ap, subst, ◌∙◌}
use Prim.Native.Nat.{◌+◌, ◌-◌}
use native.Mathlib.Omega.{arith}
use lib.ListN.{length, take, drop}
use lib.Seq.{take-take}
use Rattle.model.specs.Conjunct.{renumber}
use Rattle.model.specs.Touch.{is_var, some}
use Rattle.model.specs.Walk.{replace}
use Rattle.conjunct.proofs.numbering.Fresh.{right-fresh}
use Rattle.conjunct.specs.Behind.{right_of_lem}
use Rattle.conjunct.specs.Word.{nodes_of_lem}
use Rattle.sets.proofs.slots.Words.{slot-words}
use Rattle.sets.specs.Region.{slot_at}
use Rattle.rules.proofs.ByKind.{writes-assign}
use Rattle.rules.proofs.Imaging.{image_assign, image_none}
use Rattle.rules.specs.Adding.{side_of}
use Rattle.rules.specs.Changing.{image_of, Fresh, Renewed, ChangedTo}
use Rattle.rules.proofs.assign_slot.Goals as goal
use Rattle.rules.proofs.assign_slot.Goals.{After-capped-n, After-right_side-right}

-- the right side is fresh
fresh : (c : After-right_side-right) → Fresh c.right_side-right.result
fresh c =
    let a = c.args in
    let r = c.right_side-right.ensures in
    record { few = r.0; atoms = rw r.1 (right-fresh a.label a.d.ty (side_of a.d)) }

-- put in the place of the variable it is what the conjunct comes to
image : (c : After-right_side-right)
    → let a = c.args in
    let e = nodes_of_lem (slot_at a.s.now a.a) in
    renumber (flat_map (replace a.d.a (right_of_lem c.right_side-right.result)) e) ≡ image_of a.label a.d e
image c =
    let a = c.args in
    let e = nodes_of_lem (slot_at a.s.now a.a) in
    ap (λ r. renumber (flat_map (replace a.d.a r) e)) c.right_side-right.ensures.1 ∙ image_assign a.label a.d e c.requires.1

-- the words that are looked at begin with the slot's
is-slot : (c : After-capped-n)
    → let a = c.args in
    take c.capped-n.result (take (length a.s.now - (a.a + 1)) (drop (a.a + 1) a.s.now)) ≡ slot_at a.s.now a.a
is-slot c =
    let a = c.args in
    let s = a.s.now in
    take-take c.capped-n.result (length s - (a.a + 1)) (drop (a.a + 1) s) (omega (arith, c.capped-n.ensures.0, c.requires.0.slot.there))
    ∙ slot-words s a.a c.capped-n.result c.requires.0.slot.there c.capped-n.ensures.0 c.capped-n.ensures.1

pub exchange_slot-requires : goal.exchange_slot-requires
exchange_slot-requires c =
    let p = c.requires.0 in
    record {
      slot = p.slot;
      variable = omega (arith, p.statement.known.a);
      one = c.if-right-eq1.true;
      fresh = fresh (goal.at.exchange_slot-requires c).After-right_side-right;
      space = p.buffers.1;
    }

pub returns-then-right-eq1 : goal.returns-then-right-eq1
returns-then-right-eq1 c =
    let a = c.args in
    subst (λ e. Renewed e a.a a.s.now c.exchange_slot.new.s) (image (goal.at.returns-then-right-eq1 c).After-right_side-right) c.exchange_slot.ensures

pub returns-then-not-mentions_variable : goal.returns-then-not-mentions_variable
returns-then-not-mentions_variable c =
    let a = c.args in
    let e = nodes_of_lem (slot_at a.s.now a.a) in
    let none : some (is_var a.d.a) e ≡ false = ap (λ l. some (is_var a.d.a) (nodes_of_lem l)) (sym (is-slot (goal.at.returns-then-not-mentions_variable c).After-capped-n)) ∙ sym c.mentions_variable.ensures ∙ c.if-not-mentions_variable.true in
    (image_none a.label a.d e (sym (writes-assign a.d e c.requires.1) ∙ none) c.requires.0.slot.numbered, λ i h. refl)

pub substitute_slot-requires : goal.substitute_slot-requires
substitute_slot-requires c =
    let p = c.requires.0 in
    record { slot = p.slot; fresh = fresh (goal.at.substitute_slot-requires c).After-right_side-right; buffers = p.buffers }

pub returns : goal.returns
returns c =
    let a = c.args in
    subst (λ e. ChangedTo c.substitute_slot.result e a.a a.s.now c.substitute_slot.new.s) (image (goal.at.returns c).After-right_side-right) c.substitute_slot.ensures
