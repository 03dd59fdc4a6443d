-- `rules::change` meets its contract: each conjunct is changed in its place, and what they come to is arranged.
use mathlib.Core.Logic.{inl}
use mathlib.Core.Path.{ap, ◌∙◌}
use Rattle.model.specs.Conjunct.{union_of}
use Rattle.sets.specs.Region.{set_of}
use Rattle.rules.proofs.Imaging.{images_done}
use mathlib.Core.List.{[]}
use Rattle.rules.proofs.change.Goals as goal
use Rattle.rules.proofs.change.Goals.{After-change_all}

pub returns : goal.returns
returns c =
    let a = c.args in
    let p = c.requires.1 in
    let r = c.in_ok-change_all.ensures in
    let set = c.arrange.ensures.0 ∙ ap (λ S. union_of S []) r.0 in
    (images_done a.label a.d (set_of a.s.now a.b) p.statement.kind p.one c.arrange.new.s a.b set, λ i h. c.arrange.ensures.1 i (inl h) ∙ r.1 i (inl h))
