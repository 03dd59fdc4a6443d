-- `rules::exchange_slot` meets its contract: the slot's words are changed in their place.
use mathlib.Core.List.{List, flat_map}
use mathlib.Core.Path.{◌≡◌, sym, ap, subst, ◌∙◌}
use Prim.Native.Nat.{ℕ, ◌+◌, ◌-◌}
use native.Mathlib.Omega.{arith}
use lib.ListN.{length, take, drop}
use Rattle.model.specs.Conjunct.{renumber}
use Rattle.model.specs.TidySets.{Numbered}
use Rattle.model.specs.Walk.{replace}
use Rattle.conjunct.specs.Behind.{right_of_lem}
use Rattle.conjunct.specs.Word.{nodes_of_lem}
use Rattle.sets.proofs.slots.Words.{slot-part, slot-count, put_back}
use Rattle.sets.specs.Region.{slot_at}
use Rattle.rules.proofs.exchange_slot.Goals as goal
use Rattle.rules.proofs.exchange_slot.Goals.{After-capped-n}

abbrev part : After-capped-n → List ℕ
part c = let a = c.args in take (a.a + 1 + c.capped-n.result - (a.a + 1)) (drop (a.a + 1) a.s.now)

is-slot : (c : After-capped-n) → part c ≡ slot_at c.args.s.now c.args.a
is-slot c =
    let a = c.args in
    slot-part a.s.now a.a c.capped-n.result c.requires.slot.there c.capped-n.ensures.0 c.capped-n.ensures.1

part_length : (c : After-capped-n) → length (part c) ≡ c.capped-n.result
part_length c =
    let a = c.args in
    ap length (is-slot c) ∙ slot-count a.s.now a.a c.capped-n.result c.requires.slot.there c.capped-n.ensures.0 c.capped-n.ensures.1

pub replace_variable-requires : goal.replace_variable-requires
replace_variable-requires c =
    let p = c.requires in
    record {
      few = omega (arith, part_length (goal.at.replace_variable-requires c).After-capped-n, c.capped-n.ensures.0);
      space = p.space;
      variable = p.variable;
      one = p.one;
      numbered = subst (λ l. Numbered (nodes_of_lem l)) (sym (is-slot (goal.at.replace_variable-requires c).After-capped-n)) p.slot.numbered;
      fresh = p.fresh.atoms;
    }

pub returns : goal.returns
returns c =
    let a = c.args in
    let put = put_back a.s.now c.replace_variable.new.words a.a c.capped-n.result c.requires.slot.there c.capped-n.ensures.0 c.capped-n.ensures.1 (c.replace_variable.auto.words ∙ part_length (goal.at.returns c).After-capped-n) in
    (ap nodes_of_lem put.0 ∙ c.replace_variable.ensures ∙ ap (λ l. renumber (flat_map (replace a.x (right_of_lem a.right)) (nodes_of_lem l))) (is-slot (goal.at.returns c).After-capped-n), put.1)
