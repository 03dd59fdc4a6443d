-- `conjunct::replace_one` meets its contract: the atom by the variable.
use Rattle.std.proofs.Common.{◌≡◌, ◌∙◌, ap, cond, eqb, rules, tests}
use Rattle.model.specs.Conjunct.{on_atom_lem}
use Rattle.model.specs.Walk.{swap}
use Rattle.conjunct.specs.Word.{node_of}
use Rattle.conjunct.proofs.Swaps.{atom_by_lem, atom_word}
use Rattle.conjunct.proofs.replace_one.Goals as goal

pub returns : goal.returns
unfolding swap
returns c = λ b x ty p e. c.change_each.ensures (on_atom_lem (atom_by_lem b x ty)) (λ w y q.
    let h : y ≡ cond (eqb w c.args.a) c.args.v w = search (rules, tests) in
    ap node_of h ∙ atom_word b x ty c.args.a c.args.v w p e)
