-- `conjunct::numbering::renumber_source` meets its contract: the atoms of u's source pass, by the key of their words.
use Rattle.std.proofs.Common.{◌≡◌, eqb, rules, tests}
use Rattle.model.specs.Conjunct.{same_source_lem}
use Rattle.conjunct.specs.Word.{source_of, key_of}
use Rattle.conjunct.proofs.numbering.OneSource.{key_source}
use Rattle.conjunct.proofs.numbering.renumber_source.Goals as goal

pub returns : goal.returns
returns c =
    let u = c.args.u in
    c.renumber_those.ensures (same_source_lem (source_of u)) (λ w b q.
    let e : eqb (key_of u) (key_of w) ≡ b = search (rules, tests, c.source-key.ensures) in
    key_source u w c.requires.source b e)
