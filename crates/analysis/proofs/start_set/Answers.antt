-- `analysis::start_set` meets its contract.
use mathlib.Core.Logic.{inl}
use mathlib.Core.Path.{◌≡◌, sym, ap, ◌∙◌}
use Prim.Native.Nat.{◌+◌}
use native.Mathlib.Omega.{arith}
use Rattle.model.specs.Refusals.{ok}
use Rattle.model.specs.Walk.{start}
use Rattle.sets.specs.Region.{region_words, set_of}
use Rattle.analysis.proofs.Starting.{kept}
use Rattle.analysis.proofs.start_set.Goals as goal

pub returns : goal.returns
returns c =
    let a = c.args in
    let same : set_of c.clear.new.s a.b ≡ set_of a.s.now a.b = kept a.s.now a.b (a.b + region_words) (omega arith) (omega arith) c.clear.new.s c.clear.auto.s c.clear.ensures.1 in (
      ap start (sym same) ∙ c.gather_start.ensures.0 ∙ ap ok (sym c.copy.ensures.0),
      λ i h. c.copy.ensures.1 i (inl h) ∙ c.gather_start.ensures.1 i (inl (omega arith)) ∙ c.clear.ensures.1 i (inl (omega arith)),
    )
