-- `rules::store_slot` meets its contract: the slot's loads are replaced in their place, and what is left is numbered.
use mathlib.Core.List.{List}
use mathlib.Core.Path.{◌≡◌, sym, ap, ◌∙◌}
use Prim.Native.Nat.{ℕ, ◌+◌, ◌-◌}
use lib.ListN.{length, take, drop}
use lib.Seq.{take-length}
use Rattle.model.specs.Walk.{swap_all}
use Rattle.conjunct.specs.Value.{conj_of}
use Rattle.conjunct.specs.Word.{nodes_of_lem}
use Rattle.sets.proofs.slots.Words.{slot-part, slot-count, put_back}
use Rattle.sets.specs.Region.{slot_at}
use Rattle.rules.proofs.Imaging.{image_cell}
use Rattle.rules.proofs.store_slot.Goals as goal
use Rattle.rules.proofs.store_slot.Goals.{After-capped-n}

abbrev part : After-capped-n → List ℕ
part c = let a = c.args in take (a.a + 1 + c.capped-n.result - (a.a + 1)) (drop (a.a + 1) a.s.now)

is-slot : (c : After-capped-n) → part c ≡ slot_at c.args.s.now c.args.a
is-slot c =
    let a = c.args in
    slot-part a.s.now a.a c.capped-n.result c.requires.0.there c.capped-n.ensures.0 c.capped-n.ensures.1

part_length : (c : After-capped-n) → length (part c) ≡ c.capped-n.result
part_length c =
    let a = c.args in
    ap length (is-slot c) ∙ slot-count a.s.now a.a c.capped-n.result c.requires.0.there c.capped-n.ensures.0 c.capped-n.ensures.1

taken-whole : (l : List ℕ) (n : ℕ) → length l ≡ n → conj_of l n ≡ nodes_of_lem l
taken-whole l n e = ap (conj_of l) (sym e) ∙ ap nodes_of_lem (take-length l)

pub returns : goal.returns
returns c = λ label.
    let a = c.args in
    let p = c.requires in
    let d = a.d in
    let sized = c.replace_all.auto.w ∙ part_length (goal.at.returns c).After-capped-n in
    let put = put_back a.s.now c.replace_all.new.w a.a c.capped-n.result p.0.there c.capped-n.ensures.0 c.capped-n.ensures.1 sized in
    let words = ap nodes_of_lem put.0 ∙ sym (taken-whole c.replace_all.new.w c.capped-n.result sized) in
    let swapped = c.replace_all.ensures d.c d.ty c.variable-v.ensures in
    let whole = taken-whole (part (goal.at.returns c).After-capped-n) c.capped-n.result (part_length (goal.at.returns c).After-capped-n) ∙ ap nodes_of_lem (is-slot (goal.at.returns c).After-capped-n) in
    (words ∙ swapped ∙ ap (swap_all d.a d.len d.c d.ty) whole ∙ image_cell label d (nodes_of_lem (slot_at a.s.now a.a)) p.1 p.0.numbered, put.1)
