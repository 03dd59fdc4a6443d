-- `conjunct::numbering::has_atom` meets its contract.
use Rattle.std.proofs.Common.{◌∙◌, rules, tests}
use Rattle.std.proofs.lemmas.Iterator.{YieldsList-from_slice}
use Rattle.std.proofs.lemmas.Iterator.Search.{any_from_yields_List}
use Rattle.conjunct.specs.Word.{is_atom_lem}
use Rattle.conjunct.proofs.Words.{some_any}
use Rattle.conjunct.proofs.numbering.has_atom.Goals as goal

pub returns : goal.returns
returns c =
    any_from_yields_List is_atom_lem _ _ _ c.any.ensures.ran (YieldsList-from_slice c.args.p.nodes (cc)) (λ w b q k. search (rules, tests))
    ∙ some_any is_atom_lem c.args.p.nodes
