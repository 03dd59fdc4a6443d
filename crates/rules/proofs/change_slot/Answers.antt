-- `rules::change_slot` meets its contract: an assignment, a store to one cell, or a site, which changes nothing.
use mathlib.Core.Logic.{inl, inr}
use mathlib.Core.Path.{◌≡◌, refl, sym}
use native.Mathlib.Omega.{arith}
use Rattle.conjunct.specs.Word.{nodes_of_lem}
use Rattle.sets.specs.Region.{slot_at}
use Rattle.rules.proofs.ByKind.{writes-site}
use Rattle.rules.proofs.Imaging.{image_none}
use Rattle.rules.specs.Changing.{ToOne}
use Rattle.rules.proofs.change_slot.Goals as goal
use Rattle.rules.proofs.change_slot.Goals.{Then-kind-eq9}

-- a store before which a conjunct comes to one has one cell
cell : (c : Then-kind-eq9) → ToOne c.args.d → c.args.d.len ≡ 1
cell c (inl other) = absurd (other c.if-kind-eq9.true)
cell c (inr one) = one

pub returns-then-kind-eq9 : goal.returns-then-kind-eq9
returns-then-kind-eq9 c =
    c.store_slot.ensures c.args.label

pub returns-else-kind-eq9 : goal.returns-else-kind-eq9
returns-else-kind-eq9 c =
    let a = c.args in
    let p = c.requires.0 in
    let e = nodes_of_lem (slot_at a.s.now a.a) in
    let site = writes-site a.d e (omega (arith, p.statement.kind)) in
    (image_none a.label a.d e (sym site) p.slot.numbered, λ i h. refl)
