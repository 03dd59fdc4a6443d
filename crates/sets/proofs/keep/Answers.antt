-- `sets::keep` meets its contract.
use mathlib.Core.List.{◌++◌}
use mathlib.Core.Path.{refl, sym, ap, ◌∙◌}
use Rattle.conjunct.specs.Value.{conj_of}
use Rattle.sets.proofs.Differing.{append-none, minus-here, minus-new}
use Rattle.sets.specs.Region.{set_of}
use Rattle.sets.proofs.keep.Goals as goal

pub returns-then-holds : goal.returns-then-holds
returns-then-holds c =
    let a = c.args in
    let S = set_of a.s.now a.to in (
      sym (ap (S ++◌) (minus-here (conj_of a.w.now a.m) (set_of a.s.now a.known) (sym c.holds.ensures ∙ c.if-holds.true)) ∙ append-none S),
      λ i g. refl,
    )

pub returns : goal.returns
returns c =
    let a = c.args in
    let e = conj_of a.w.now a.m in (
      c.append.ensures.0 ∙ ap (set_of a.s.now a.to ++◌) (sym (minus-new e (set_of a.s.now a.known) (sym c.holds.ensures ∙ c.if-holds.false))),
      c.append.ensures.1,
    )
