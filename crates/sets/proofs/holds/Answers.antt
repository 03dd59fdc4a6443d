-- `sets::holds` meets its contract: a conjunct that is found is there, and of a canonical set one that is to be put somewhere is not.
use mathlib.Core.Path.{refl, subst, ◌∙◌}
use Rattle.model.specs.TidySets.{Canon}
use Rattle.conjunct.specs.Value.{conj_of}
use Rattle.sets.proofs.Differing.{spotted_tells}
use Rattle.sets.proofs.Inserting.{spotted}
use Rattle.sets.proofs.Rows.{set-rows}
use Rattle.sets.specs.Region.{set_of}
use Rattle.sets.proofs.holds.Goals as goal

pub find-requires : goal.find-requires
find-requires c =
    let a = c.args in
    let n = c.at_most-n in
    let rising = subst Canon (set-rows a.s.now a.base n.result n.ensures.0) c.requires.0.canon in
    record { few = n.ensures.1; there = c.requires.0.there; words = c.requires.1; canon = rising }

pub returns : goal.returns
returns c =
    let a = c.args in
    let n = c.at_most-n in
    let d = conj_of a.w.now a.m in
    c.is_ok.ensures.value
    ∙ spotted_tells c.find.result d (set_of a.s.now a.base) c.requires.0.canon
    (spotted c.find.result c.find.result refl a.s.now a.base n.result d n.ensures.0 c.find.ensures)
