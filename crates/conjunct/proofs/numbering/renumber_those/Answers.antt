-- `conjunct::numbering::renumber_those` meets its contract: the first i words are numbered, and the atoms that passed are held, and no others.
use mathlib.Core.Path.{◌≡◌, refl, subst}
use Prim.Native.Nat.{◌<◌}
use native.Mathlib.Omega.{arith}
use lib.ListN.{length, get_or}
use Rattle.model.specs.Conjunct.{AtAtom}
use Rattle.model.specs.Lists.{every}
use Rattle.conjunct.specs.Word.{node_of}
use Rattle.conjunct.proofs.numbering.Renumbered.{numbering_none, numbering_next, numbering_past}
use Rattle.conjunct.proofs.numbering.renumber_those.Goals as goal

pub loop-i-init : goal.loop-i-init
unfolding every
loop-i-init g c = record { few = omega arith; atoms = refl; numbered = λ P k. numbering_none P c.args.words.now c.args.seen.now }

pub note-p-requires : goal.note-p-requires
note-p-requires g c = let lp = c.loop-i in (omega arith, record { room = omega arith; atoms = lp.invariant.atoms })

pub loop-i-preserved-then-not-passes : goal.loop-i-preserved-then-not-passes
loop-i-preserved-then-not-passes g c =
    let lp = c.loop-i in
    let w = get_or lp.words lp.i 0 in
    let h : lp.i < length lp.words = omega arith in
    let k : lp.i < length c.args.words.now = omega arith in
    record {
      few = omega arith;
      atoms = lp.invariant.atoms;
      numbered = λ P e.
          numbering_past P lp.words c.args.words.now lp.seen lp.m lp.i h k (lp.invariant.numbered P e)
          (subst (λ b. AtAtom (λ a. P a.src ≡ b) (node_of w)) c.if-not-passes.true (e w c.passes.result c.passes.ensures));
    }

pub loop-i-preserved : goal.loop-i-preserved
loop-i-preserved g c =
    let lp = c.loop-i in
    let p = c.note-p in
    let w = get_or lp.words lp.i 0 in
    let h : lp.i < length lp.words = omega arith in
    let k : lp.i < length c.args.words.now = omega arith in
    record {
      few = omega (arith, p.ensures.count);
      atoms = p.ensures.all;
      numbered = λ P e.
          numbering_next P lp.words c.args.words.now lp.seen lp.m lp.i h k (lp.invariant.numbered P e)
          (subst (λ b. AtAtom (λ a. P a.src ≡ b) (node_of w)) c.if-not-passes.false (e w c.passes.result c.passes.ensures)) p.new.seen p.result p.ensures;
    }

pub returns : goal.returns
returns g c = λ P e.
    let lp = c.loop-i in
    let end : lp.i ≡ c.args.n = omega arith in
    rw end at (lp.invariant.numbered P e).done
