-- `conjunct::numbering::renumber` meets its contract: every atom passes.
use Rattle.std.proofs.Common.{◌≡◌, ◌∙◌, true, rules, tests}
use Rattle.conjunct.specs.Value.{conj_of}
use Rattle.conjunct.specs.Word.{node_of}
use Rattle.conjunct.proofs.numbering.Renumbered.{any_source, any_passes, renumber_any}
use Rattle.conjunct.proofs.numbering.renumber.Goals as goal

pub returns : goal.returns
returns c =
    c.renumber_those.ensures any_source (λ w b q.
    let e : true ≡ b = search (rules, tests) in
    any_passes b e (node_of w))
    ∙ renumber_any (conj_of c.args.words.now c.args.n)
