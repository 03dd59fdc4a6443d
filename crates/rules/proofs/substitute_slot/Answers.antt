-- `rules::substitute_slot` meets its contract: the nodes are too many, or are written to the slot.
use mathlib.Core.List.{flat_map}
use mathlib.Core.Path.{◌≡◌, refl, sym, ap, subst, ◌∙◌}
use Prim.Native.Nat.{ℕ, ◌+◌, ◌-◌, ◌<◌}
use native.Mathlib.Omega.{arith}
use lib.ListN.{length, take, drop, length-drop}
use lib.Seq.{length-take-le, take-take}
use Rattle.model.specs.Sizes.{most_nodes}
use Rattle.model.specs.TidySets.{Numbered}
use Rattle.model.specs.Walk.{replace}
use Rattle.conjunct.specs.Behind.{right_of_lem, Replaced}
use Rattle.conjunct.specs.Word.{nodes_of_lem}
use Rattle.std.specs.Prelude.{Option, Some, None}
use Rattle.sets.proofs.slots.Words.{slot-words, stored}
use Rattle.sets.specs.Region.{slot_at}
use Rattle.rules.proofs.Limiting.{renumber-length}
use Rattle.rules.proofs.substitute_slot.Goals as goal
use Rattle.rules.proofs.substitute_slot.Goals.{After-capped-n, After-substitute}

-- the words that are handed on begin with the slot's
is-slot : (c : After-capped-n)
    → let a = c.args in
    take c.capped-n.result (take (length a.s.now - (a.a + 1)) (drop (a.a + 1) a.s.now)) ≡ slot_at a.s.now a.a
is-slot c =
    let a = c.args in
    let s = a.s.now in
    take-take c.capped-n.result (length s - (a.a + 1)) (drop (a.a + 1) s) (omega (arith, c.capped-n.ensures.0, c.requires.slot.there))
    ∙ slot-words s a.a c.capped-n.result c.requires.slot.there c.capped-n.ensures.0 c.capped-n.ensures.1

-- what the substitution says of the slot's conjunct, by its answer
replaced : (c : After-substitute) (r : Option ℕ) → c.substitute.result ≡ r
    → let a = c.args in
    Replaced r (nodes_of_lem (slot_at a.s.now a.a)) a.x a.right c.substitute.new.out
replaced c r is =
    let a = c.args in
    subst (λ v. Replaced v (nodes_of_lem (slot_at a.s.now a.a)) a.x a.right c.substitute.new.out) is
    (subst (λ l. Replaced c.substitute.result (nodes_of_lem l) a.x a.right c.substitute.new.out) (is-slot (goal.at.After-substitute c).After-capped-n) c.substitute.ensures)

pub substitute-requires : goal.substitute-requires
substitute-requires c =
    let p = c.requires in
    let a = c.args in
    let s = a.s.now in
    record {
      few = c.capped-n.ensures.0;
      there = omega (arith, c.capped-n.ensures.0, p.slot.there, length-take-le (length s - (a.a + 1)) (drop (a.a + 1) s) (rw length-drop (omega arith)));
      room = p.buffers.0;
      space = p.buffers.1;
      right = p.fresh.few;
      numbered = subst (λ l. Numbered (nodes_of_lem l)) (sym (is-slot (goal.at.substitute-requires c).After-capped-n)) p.slot.numbered;
      fresh = p.fresh.atoms;
    }

pub returns-in_default : goal.returns-in_default
returns-in_default c =
    let a = c.args in
    let w = flat_map (replace a.x (right_of_lem a.right)) (nodes_of_lem (slot_at a.s.now a.a)) in
    let o : most_nodes < length w = replaced (goal.at.returns-in_default c).After-substitute None c.in_default.is in
    (refl, omega (arith, o, renumber-length w), λ i h. refl)

pub returns : goal.returns
returns c =
    let a = c.args in
    let m = c.in-Some.m in
    let out = c.substitute.new.out in
    let of = replaced (goal.at.returns c).After-substitute (Some m) c.in-Some.is in
    let put = stored a.s.now out a.a m c.requires.slot.there of.0 (omega (arith, of.0, c.substitute.auto.out, c.requires.buffers.0)) c.write_slot.new.s c.write_slot.ensures in
    (ap nodes_of_lem put.0 ∙ of.1, put.1)
