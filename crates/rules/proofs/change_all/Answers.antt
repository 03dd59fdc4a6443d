-- `rules::change_all` meets its contract: after k turns the first k conjuncts are what they come to.
use mathlib.Core.List.{[]}
use mathlib.Core.Path.{◌≡◌, sym, ap, subst, ◌∙◌}
use Prim.Native.Nat.{◌+◌, ◌*◌, ◌≤◌, ◌<◌}
use native.Mathlib.Omega.{arith}
use lib.ListN.{length, get_or, set, length-set}
use Rattle.model.proofs.Basics.Lists.{all_get_d}
use Rattle.model.specs.Refusals.{refused}
use Rattle.refusals.specs.Answers.{number_of}
use Rattle.model.specs.Sizes.{most_nodes}
use Rattle.model.specs.TidySets.{Numbered}
use Rattle.conjunct.specs.Word.{nodes_of_lem}
use Rattle.sets.proofs.Arranging.{slot_changed, slot-within, Mapped, mapped-here, mapped_next}
use Rattle.sets.proofs.Rows.{set-length, set_at, within_trans}
use Rattle.sets.specs.Region.{slot_at, set_of, slot_words, region_words}
use Rattle.rules.proofs.Imaging.{images_refused}
use Rattle.rules.specs.Changing.{image_of}
use Rattle.std.proofs.lemmas.Result.{err_from_is_err_and}
use Rattle.rules.proofs.change_all.Goals as goal
use Rattle.rules.proofs.change_all.Goals.{In-loop-k}

-- there is a conjunct for the turn
more : (c : In-loop-k) → c.loop-k.k < length (set_of c.loop-k.s c.args.b)
more c = omega (arith, c.loop-k-test.true, c.loop-k.invariant.1)

-- the slot has the conjunct that the set had there
this : (c : In-loop-k)
    → let a = c.args in
    nodes_of_lem (slot_at c.loop-k.s (a.b + 1 + slot_words * c.loop-k.k)) ≡ get_or (set_of a.s.now a.b) c.loop-k.k []
this c =
    let a = c.args in
    sym (set_at c.loop-k.s a.b c.loop-k.k (omega (arith, more c, set-length c.loop-k.s a.b)))
    ∙ mapped-here (image_of a.label a.d) (set_of a.s.now a.b) (set_of c.loop-k.s a.b) c.loop-k.k (more c)
    (omega (arith, more c, c.loop-k.invariant.1, c.size-count.ensures.0)) c.loop-k.invariant.2

pub change_slot-requires : goal.change_slot-requires
change_slot-requires c =
    let here = (goal.at.change_slot-requires c).In-loop-k in
    let a = c.args in
    let p = c.requires.0 in (
      record {
        slot = record {
          there = omega (arith, p.there, c.loop-k.auto.s, more here, c.loop-k.invariant.1, c.size-count.ensures.1);
          numbered =
              subst Numbered (sym (this here)) (all_get_d Numbered (set_of a.s.now a.b) c.loop-k.k [] p.numbered (omega (arith, more here, c.loop-k.invariant.1, c.size-count.ensures.0)));
        };
        statement = p.statement;
        buffers = (omega (arith, c.loop-k.auto.out, c.requires.1.0), omega (arith, c.loop-k.auto.seen, c.requires.1.1));
      },
      p.one,
    )

pub loop-k-preserved : goal.loop-k-preserved
loop-k-preserved c =
    let a = c.args in
    let p = c.requires.0 in
    let S = set_of a.s.now a.b in
    let f = image_of a.label a.d in
    let new = c.in_ok-change_slot.ensures in
    let fits : a.b + region_words ≤ length c.loop-k.s = omega (arith, p.there, c.loop-k.auto.s) in
    let changed = slot_changed c.loop-k.s c.change_slot.new.s a.b c.loop-k.k c.change_slot.auto.s fits (more (goal.at.loop-k-preserved c).In-loop-k) new.1
    ∙ ap (set (set_of c.loop-k.s a.b) c.loop-k.k) (new.0 ∙ ap f (this (goal.at.loop-k-preserved c).In-loop-k)) in
    let next = mapped_next f S (set_of c.loop-k.s a.b) c.loop-k.k (more (goal.at.loop-k-preserved c).In-loop-k) (omega (arith, more (goal.at.loop-k-preserved c).In-loop-k, c.loop-k.invariant.1, c.size-count.ensures.0)) c.loop-k.invariant.2 in (
      within_trans a.b a.s.now c.loop-k.s c.change_slot.new.s c.loop-k.invariant.0
          (slot-within c.loop-k.s c.change_slot.new.s a.b c.loop-k.k c.change_slot.auto.s fits (more (goal.at.loop-k-preserved c).In-loop-k) new.1),
      ap length changed ∙ length-set (set_of c.loop-k.s a.b) c.loop-k.k (f (get_or S c.loop-k.k [])) ∙ c.loop-k.invariant.1,
      subst (λ T. Mapped f S T (c.loop-k.k + 1)) (sym changed) next,
    )

pub returns-in_err-change_slot : goal.returns-in_err-change_slot
returns-in_err-change_slot c =
    let a = c.args in
    let p = c.requires.0 in
    let S = set_of a.s.now a.b in
    let f = image_of a.label a.d in
    let over = c.in_err-change_slot.ensures in
    let long = subst (λ e. most_nodes < length (f e)) (this (goal.at.returns-in_err-change_slot c).In-loop-k) over.1 in let gone = err_from_is_err_and c.from_residual.result c.from_residual.ensures.1 in rw (gone.1, gone.2) (
      images_refused a.label a.d S p.statement.kind p.one c.loop-k.k (omega (arith, more (goal.at.returns-in_err-change_slot c).In-loop-k, c.loop-k.invariant.1, c.size-count.ensures.0)) long ∙ ap (λ r. refused (number_of r)) (sym over.0),
      within_trans a.b a.s.now c.loop-k.s c.change_slot.new.s c.loop-k.invariant.0
          (slot-within c.loop-k.s c.change_slot.new.s a.b c.loop-k.k c.change_slot.auto.s (omega (arith, p.there, c.loop-k.auto.s)) (more (goal.at.returns-in_err-change_slot c).In-loop-k) over.2),
    )
