-- `conjunct::numbering::substitute` meets its contract.
use mathlib.Core.List.{flat_map}
use mathlib.Core.Path.{◌≡◌, refl, sym, ap, ◌∙◌}
use native.Mathlib.Omega.{arith}
use lib.ListN.{length, get_or, length-set}
use lib.Seq.{length-take-le}
use borrow.Author.Rules.{rules}
use Rattle.conjunct.proofs.numbering.Plain.{none-taken}
use Rattle.conjunct.proofs.numbering.Replacing.{piece-there, piece-other, more_there, more_other, replaced_over, replaced_done, replaced_plain}
use Rattle.conjunct.specs.Behind.{right_words}
use Rattle.conjunct.specs.Value.{conj_of}
use Rattle.conjunct.specs.Word.{nodes_of_lem}
use Rattle.conjunct.proofs.numbering.substitute.Goals as goal

pub loop-i-init : goal.loop-i-init
unfolding flat_map
loop-i-init c = (search rules, search rules, search rules, refl, refl)

pub returns-then-m-k-gt-MOST_NODES : goal.returns-then-m-k-gt-MOST_NODES
returns-then-m-k-gt-MOST_NODES c =
    let a = c.args in
    let p = c.requires in
    let lp = c.loop-i in
    let three : length a.r.nodes ≡ 3 = search rules in
    let v = sym c.is_variable.ensures ∙ c.if-is_variable.true in
    replaced_over a.e.now a.n a.x a.r p.there p.numbered p.fresh lp.i lp.m a.r.len lp.out
    (omega arith) (omega arith) lp.invariant.4
    (ap length (piece-there a.x (right_words a.r) (get_or a.e.now lp.i 0) v)
    ∙ length-take-le a.r.len a.r.nodes (omega (arith, three)))
    (omega arith)

pub loop-i-preserved-then-is_variable : goal.loop-i-preserved-then-is_variable
loop-i-preserved-then-is_variable c =
    let a = c.args in
    let lp = c.loop-i in
    let v = sym c.is_variable.ensures ∙ c.if-is_variable.true in
    let q = c.put in (
      lp.invariant.0,
      omega arith,
      lp.invariant.2,
      q.auto.out ∙ lp.invariant.3,
      q.ensures ∙ rw lp.invariant.4 (sym (more_there a.x (right_words a.r) a.e.now lp.i (omega arith) v)),
    )

pub returns-then-m-ge-MOST_NODES : goal.returns-then-m-ge-MOST_NODES
returns-then-m-ge-MOST_NODES c =
    let a = c.args in
    let p = c.requires in
    let lp = c.loop-i in
    let v = sym c.is_variable.ensures ∙ c.if-is_variable.false in
    replaced_over a.e.now a.n a.x a.r p.there p.numbered p.fresh lp.i lp.m 1 lp.out (omega arith) (omega arith) lp.invariant.4
    (ap length (piece-other a.x (right_words a.r) (get_or a.e.now lp.i 0) v)) (omega arith)

pub loop-i-preserved : goal.loop-i-preserved
loop-i-preserved c =
    let a = c.args in
    let lp = c.loop-i in
    let v = sym c.is_variable.ensures ∙ c.if-is_variable.false in (
      lp.invariant.0,
      omega arith,
      lp.invariant.2,
      length-set lp.out lp.m (get_or a.e.now lp.i 0) ∙ lp.invariant.3,
      more_other a.x (right_words a.r) a.e.now lp.i (omega arith) lp.out lp.m (omega arith) lp.invariant.4 v,
    )

pub returns-then-not-has_atom : goal.returns-then-not-has_atom
returns-then-not-has_atom c =
    let a = c.args in
    let p = c.requires in
    let lp = c.loop-i in
    let plain = none-taken a.r.len a.r.nodes (sym c.has_atom.ensures ∙ c.if-not-has_atom.true) in
    let e : lp.i ≡ a.n = omega arith in (
      lp.invariant.1,
      replaced_plain a.e.now a.n a.x a.r p.there p.numbered p.fresh (conj_of lp.out lp.m) (ap nodes_of_lem (rw e at lp.invariant.4)) plain,
    )

pub returns : goal.returns
returns c =
    let a = c.args in
    let p = c.requires in
    let lp = c.loop-i in
    let q = c.renumber in
    let e : lp.i ≡ a.n = omega arith in (
      lp.invariant.1,
      replaced_done a.e.now a.n a.x a.r p.there p.numbered p.fresh (conj_of lp.out lp.m) (conj_of q.new.words lp.m) (ap nodes_of_lem (rw e at lp.invariant.4))
          q.ensures,
    )
