-- `sets::append` meets its contract: behind the last conjunct nothing moves.
use mathlib.Core.List.{[], ◌∷◌, ◌++◌}
use mathlib.Core.Path.{◌≡◌, sym, ap₂, ◌∙◌}
use native.Mathlib.Omega.{arith}
use lib.ListN.{length, take, drop}
use lib.Seq.{take-length, drop-length}
use Rattle.model.specs.Conjunct.{Conj, Conjuncts}
use Rattle.conjunct.specs.Value.{conj_of}
use Rattle.sets.specs.Region.{set_of}
use Rattle.sets.proofs.Rows.{set-length, set-rows}
use Rattle.sets.proofs.append.Goals as goal

-- put before the place that follows the last
put_last : (S : Conjuncts) (e : Conj) → take (length S) S ++ (e ∷ drop (length S) S) ≡ S ++ (e ∷ [])
put_last S e = ap₂ (λ X Y. X ++ (e ∷ Y)) (take-length S) (drop-length S)

pub place_at-requires : goal.place_at-requires
place_at-requires c =
    let count = set-length c.args.s.now c.args.base in
    (record { there = c.requires.0.there; space = omega (arith, c.requires.0.space, c.at_most-n.ensures.0, count); place = omega arith }, c.requires.1)

pub returns : goal.returns
returns c =
    let a = c.args in
    let e = conj_of a.w.now a.m in
    let S = set_of a.s.now a.base in
    let rows = set-rows a.s.now a.base c.at_most-n.result c.at_most-n.ensures.0 in
    let count : c.at_most-n.result ≡ length S = c.at_most-n.ensures.0 ∙ sym (set-length a.s.now a.base) in (
      c.place_at.ensures.0 ∙ ap₂ (λ X k. take k X ++ (e ∷ drop k X)) (sym rows) count ∙ put_last S e,
      c.place_at.ensures.1,
    )
