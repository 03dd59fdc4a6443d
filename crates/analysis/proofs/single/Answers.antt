-- `analysis::single` meets its contract.
use mathlib.Core.List.{[], ◌∷◌}
use Rattle.conjunct.specs.Word.{node_of}
use Rattle.sets.proofs.Rows.{within_trans}
use Rattle.analysis.proofs.Uniting.{inserted_first}
use Rattle.analysis.proofs.single.Goals as goal

pub returns : goal.returns
returns c =
    let a = c.args in
    let s₁ = c.clear.new.s in (
      inserted_first c.insert.result s₁ c.insert.new.s a.b (node_of a.w ∷ []) c.clear.ensures.0 c.insert.ensures.0,
      within_trans a.b a.s.now s₁ c.insert.new.s c.clear.ensures.1 c.insert.ensures.1,
    )
