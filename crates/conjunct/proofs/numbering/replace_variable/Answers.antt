-- `conjunct::numbering::replace_variable` meets its contract: a loop that changes words (`Words.Changed`), the variable by the one node.
use mathlib.Core.List.{List}
use mathlib.Core.Path.{◌≡◌, sym, ap, ◌∙◌}
use Prim.Native.Nat.{ℕ}
use native.Mathlib.Omega.{arith}
use lib.ListN.{length, take, get_or}
use lib.Seq.{take-length}
use Rattle.std.proofs.Common.{rules, tests}
use Rattle.model.specs.Conjunct.{same_source_lem}
use Rattle.conjunct.specs.Behind.{variable_by, renumber_passing}
use Rattle.conjunct.specs.Word.{source_of, node_of, nodes_of_lem}
use Rattle.conjunct.proofs.Swaps.{variable_word}
use Rattle.conjunct.proofs.numbering.Replacing.{replaced_done, replaced_plain, exchanged, one_plain, exchanged_source}
use Rattle.conjunct.proofs.numbering.replace_variable.Goals as goal

taken-whole : (l : List ℕ) (n : ℕ) → length l ≡ n → nodes_of_lem l ≡ nodes_of_lem (take n l)
taken-whole l n e = ap nodes_of_lem (sym (take-length l) ∙ ap (λ k. take k l) e)

pub renumber_source-requires : goal.renumber_source-requires
renumber_source-requires c =
    record { conjunct = record { few = search rules; there = search rules }; source = sym c.is_atom.ensures ∙ c.if-is_atom.true; space = search rules }

pub returns-then-is_atom : goal.returns-then-is_atom
returns-then-is_atom c =
    let r = c.renumber_source in
    let a = c.args in
    let p = c.requires in
    let ws = a.words.now in
    let three : length a.r.nodes ≡ 3 = search rules in
    let s = same_source_lem (source_of (get_or a.r.nodes 0 0)) in
    let whole : take (length ws) ws ≡ ws = take-length ws in
    let kept = c.change_each.auto.w in
    let u = get_or a.r.nodes 0 0 in
    -- all words are changed, one by one
    let each = c.change_each.ensures (variable_by a.x (node_of u)) (λ w y q. variable_word a.x u w y (search (rules, tests, c.variable-v.ensures))) in
    let nodes = taken-whole c.change_each.new.w (length ws) c.change_each.auto.w ∙ each in
    let changed = nodes ∙ exchanged a.x a.r p.one three (take (length ws) ws) in
    -- with the atoms of the one source numbered anew all are numbered
    let numbered =
    ap (renumber_passing s) (sym (taken-whole c.change_each.new.w (length ws) kept))
    ∙ exchanged_source a.x a.r p.one three (sym c.is_atom.ensures ∙ c.if-is_atom.true)
    (take (length ws) ws) (rw whole p.numbered) (nodes_of_lem c.change_each.new.w) nodes in
    rw (← whole) (replaced_done ws (length ws) a.x a.r (omega arith) (rw whole p.numbered) p.fresh
    (nodes_of_lem c.change_each.new.w) (nodes_of_lem r.new.words) changed
    (taken-whole r.new.words (length ws) (r.auto.words ∙ kept) ∙ r.ensures ∙ numbered))

pub returns-else-is_atom : goal.returns-else-is_atom
returns-else-is_atom c =
    let a = c.args in
    let p = c.requires in
    let ws = a.words.now in
    let three : length a.r.nodes ≡ 3 = search rules in
    let whole : take (length ws) ws ≡ ws = take-length ws in
    let u = get_or a.r.nodes 0 0 in
    -- all words are changed, one by one
    let each = c.change_each.ensures (variable_by a.x (node_of u)) (λ w y q. variable_word a.x u w y (search (rules, tests, c.variable-v.ensures))) in
    let nodes = taken-whole c.change_each.new.w (length ws) c.change_each.auto.w ∙ each in
    let changed = nodes ∙ exchanged a.x a.r p.one three (take (length ws) ws) in
    rw (← whole) (replaced_plain ws (length ws) a.x a.r (omega arith) (rw whole p.numbered) p.fresh
    (nodes_of_lem c.change_each.new.w) changed (one_plain a.x a.r p.one three (sym c.is_atom.ensures ∙ c.if-is_atom.false)))
