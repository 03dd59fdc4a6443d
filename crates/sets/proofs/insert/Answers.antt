-- `sets::insert` meets its contract.
use mathlib.Core.List.{◌∷◌, ◌++◌}
use mathlib.Core.Path.{◌≡◌, refl, sym, ap, subst, ◌∙◌}
use native.Mathlib.Omega.{arith}
use lib.ListN.{take, drop}
use lib.Seq.{length-take-le, take-take}
use Rattle.model.specs.TidySets.{Canon}
use Rattle.conjunct.specs.Value.{conj_of}
use Rattle.conjunct.specs.Word.{nodes_of_lem}
use Rattle.sets.proofs.Inserting.{spotted, grown}
use Rattle.sets.proofs.Rows.{set-length, set-rows}
use Rattle.sets.specs.Region.{set_of, first_of, Spotted}
use Rattle.std.specs.Prelude.{ℕ, Result, Ok, Err}
use Rattle.sets.proofs.insert.Goals as goal
use Rattle.sets.proofs.insert.Goals.{After-find}

-- the place of the first m words is that of the conjunct
found : (c : After-find) (r : Result Unit ℕ) → c.find.result ≡ r →
    let a = c.args in
    Spotted r (conj_of a.w.now a.m) (set_of a.s.now a.base)
found c r e =
    let a = c.args in
    let n = c.at_most-n in
    let w = a.w.now in
    let f = c.find in
    let first = subst (λ ws. Spotted f.result (nodes_of_lem ws) (first_of a.s.now a.base n.result)) (take-take a.m a.m w (omega arith)) f.ensures in
    spotted f.result r e a.s.now a.base n.result (conj_of w a.m) n.ensures.0 first

pub slice_bounds-find-end : goal.slice_bounds-find-end
slice_bounds-find-end c =
    sym (length-take-le c.args.m c.args.w.now c.requires.1.there)

pub find-requires : goal.find-requires
find-requires c =
    let a = c.args in
    let rising = subst Canon (set-rows a.s.now a.base c.at_most-n.result c.at_most-n.ensures.0) c.requires.0.canon in
    let long = length-take-le a.m a.w.now c.requires.1.there in
    record { few = c.at_most-n.ensures.1; there = c.requires.0.there; words = omega (arith, long); canon = rising }

pub returns-then-n-ge-MOST_CONJUNCTS : goal.returns-then-n-ge-MOST_CONJUNCTS
returns-then-n-ge-MOST_CONJUNCTS c =
    let a = c.args in
    let i = c.in-Err.i in
    let d = conj_of a.w.now a.m in
    let S = set_of a.s.now a.base in
    let sp = found (goal.at.returns-then-n-ge-MOST_CONJUNCTS c).After-find (Err i) c.in-Err.is in
    ((refl, omega (arith, grown d S i sp.0 sp.1, set-length a.s.now a.base)), λ i g. refl)

pub place_at-requires : goal.place_at-requires
place_at-requires c =
    let a = c.args in
    let sp = found (goal.at.place_at-requires c).After-find (Err c.in-Err.i) c.in-Err.is in
    (record { there = c.requires.0.there; space = omega arith; place = omega (arith, sp.0, set-length a.s.now a.base) }, c.requires.1)

pub returns-in_default : goal.returns-in_default
returns-in_default c = (sym (found (goal.at.returns-in_default c).After-find (Ok c.in_default.field-0) c.in_default.is), λ i g. refl)

pub returns : goal.returns
returns c =
    let a = c.args in
    let n = c.at_most-n in
    let i = c.in-Err.i in
    let d = conj_of a.w.now a.m in
    let sp = found (goal.at.returns c).After-find (Err i) c.in-Err.is in
    let q = c.place_at in (
      q.ensures.0 ∙ ap (λ S. take i S ++ (d ∷ drop i S)) (sym (set-rows a.s.now a.base n.result n.ensures.0)) ∙ sym sp.1,
      q.ensures.1,
    )
