-- `conjunct::replace_all` meets its contract: a load by the variable.
use Rattle.std.proofs.Common.{◌≡◌, ◌∙◌, ap, cond, rules}
use Rattle.model.specs.Conjunct.{on_atom_lem}
use Rattle.model.specs.Walk.{swap_all}
use Rattle.model.specs.Touch.{is_load_lem}
use Rattle.conjunct.specs.Word.{node_of}
use Rattle.conjunct.proofs.Swaps.{load_by_lem, load_word}
use Rattle.conjunct.proofs.replace_all.Goals as goal

pub returns : goal.returns
unfolding swap_all
returns c = λ x ty p. c.change_each.ensures (on_atom_lem (load_by_lem c.args.array c.args.len x ty)) (λ w y q.
    let h : y ≡ cond (is_load_lem c.args.array c.args.len (node_of w)) c.args.v w = search rules in
    ap node_of h ∙ load_word c.args.array c.args.len x ty c.args.v w p)
