-- `sets::size` meets its contract.
use mathlib.Core.Path.{sym, ◌∙◌}
use Rattle.sets.proofs.Rows.{set-length}
use Rattle.sets.proofs.size.Goals as goal

pub returns : goal.returns
returns c =
    let a = c.args in
    (c.at_most.ensures.0 ∙ sym (set-length a.s.now a.base), c.at_most.ensures.1)
