-- `conjunct::mentions_array` meets its contract.
use mathlib.Core.Path.{◌∙◌}
use Rattle.std.proofs.Common.{rules, tests, take}
use Rattle.std.proofs.lemmas.Iterator.{YieldsList-from_slice}
use Rattle.std.proofs.lemmas.Iterator.Search.{any_from_yields_List}
use Rattle.model.specs.Touch.{is_load_lem}
use Rattle.conjunct.specs.Word.{node_of}
use Rattle.conjunct.proofs.Words.{some_word}
use Rattle.conjunct.proofs.mentions_array.Goals as goal

pub returns : goal.returns
returns c =
    any_from_yields_List (λ w. is_load_lem c.args.array c.args.len (node_of w)) _ _ _ c.any.ensures.ran (YieldsList-from_slice (take c.args.n c.args.w.now) (cc)) (λ x b q k. search (rules, tests))
    ∙ some_word (is_load_lem c.args.array c.args.len) (take c.args.n c.args.w.now)
