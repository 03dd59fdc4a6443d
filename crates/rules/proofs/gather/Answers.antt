-- `rules::gather` meets its contract: after k turns the room has what the first k conjuncts come to.
use mathlib.Core.List.{List}
use mathlib.Core.Path.{refl, ◌∙◌}
use Prim.Native.Nat.{ℕ, ◌<◌}
use native.Mathlib.Omega.{arith}
use lib.ListN.{length}
use Rattle.model.specs.Conjunct.{Conj}
use Rattle.model.specs.Walk.{before}
use Rattle.code_table.specs.Statements.{instr_of}
use Rattle.conjunct.specs.Value.{conj_of}
use Rattle.sets.proofs.Rows.{within_trans}
use Rattle.sets.specs.Region.{set_of}
use Rattle.rules.proofs.Gathering.{gather_none, gathered_canon, own-numbered, gathered_more, gathered_refused}
use Rattle.rules.proofs.Gathering.{store_premise, rule_refused, rule_done}
use Rattle.refusals.specs.Answers.{number_of}
use Rattle.rules.specs.Adding.{NoneLong}
use Rattle.std.proofs.lemmas.Result.{err_from_is_err_and}
use Rattle.rules.proofs.gather.Goals as goal
use Rattle.rules.proofs.gather.Goals.{After-get-n}

-- ---- a turn of the loop

-- what a conjunct comes to, whatever the label, and the conjunct of this turn
abbrev comes_to : After-get-n → ℕ → Conj → List Conj
comes_to c label = before label (instr_of c.args.d)

abbrev this : After-get-n → Conj
this c = conj_of c.get-n.new.out c.get-n.result

few : (c : After-get-n) → c.loop-k.k < length (set_of c.args.s.now c.args.b)
few c = omega (arith, c.loop-k-test.true, c.size-count.ensures.0)

pub loop-k-init : goal.loop-k-init
loop-k-init c =
    let a = c.args in (
      λ i h. refl,
      λ label. c.requires.0.empty ∙ gather_none (before label (instr_of a.d)) (set_of a.s.now a.b),
    )

pub add_before-requires : goal.add_before-requires
add_before-requires c =
    let t = (goal.at.add_before-requires c).After-get-n in
    let a = c.args in
    let p = c.requires.0 in
    let lp = c.loop-k in
    let e = c.get-n in
    record {
      given = record {
        room = record {
          there = omega (arith, lp.auto.s, p.there);
          canon = gathered_canon (comes_to t 0) (set_of a.s.now a.b) (set_of lp.s a.room) lp.k (lp.invariant.1 0);
        };
        few = e.ensures.0;
        there = omega (arith, e.ensures.0, e.auto.out, lp.auto.e, c.requires.1.conjunct);
        buffers = (omega (arith, lp.auto.out, c.requires.1.others.0), omega (arith, lp.auto.seen, c.requires.1.others.1));
      };
      statement = p.statement;
      numbered =
          own-numbered (comes_to t 0) a.s.now lp.s lp.s a.b a.room lp.k (this t)
          p.apart p.there lp.auto.s lp.invariant.0 (few t) e.ensures.1 p.numbered;
    }

pub loop-k-preserved : goal.loop-k-preserved
loop-k-preserved c =
    let t = (goal.at.loop-k-preserved c).After-get-n in
    let a = c.args in
    let p = c.requires.0 in
    let lp = c.loop-k in
    let e = c.get-n in (
      within_trans a.room a.s.now lp.s c.add_before.new.s lp.invariant.0 c.add_before.ensures.1,
      λ label. gathered_more (comes_to t label) a.s.now lp.s c.add_before.new.s a.b a.room lp.k (this t) p.apart p.there lp.auto.s
          lp.invariant.0 (few t) e.ensures.1 NoneLong (lp.invariant.1 label) (c.in_ok-add_before.ensures.0 label),
    )

pub returns-in_err-add_before : goal.returns-in_err-add_before
returns-in_err-add_before c =
    let t = (goal.at.returns-in_err-add_before c).After-get-n in
    let a = c.args in
    let p = c.requires.0 in
    let lp = c.loop-k in
    let e = c.get-n in
    let n = c.in_err-add_before.field-0.0 in let gone = err_from_is_err_and c.from_residual.result c.from_residual.ensures.1 in rw (gone.1, gone.2) (
      λ label. rule_refused label (instr_of a.d) (set_of a.s.now a.b) (number_of n)
          (gathered_refused (comes_to t label) a.s.now lp.s c.add_before.new.s a.b a.room lp.k (this t) p.apart p.there lp.auto.s
          lp.invariant.0 (few t) e.ensures.1 NoneLong (lp.invariant.1 label) n (c.in_err-add_before.ensures.0 label)
          (store_premise a.d label a.s.now a.b p.statement.store)),
      within_trans a.room a.s.now lp.s c.add_before.new.s lp.invariant.0 c.add_before.ensures.1,
    )

pub returns : goal.returns
returns c =
    let a = c.args in
    (λ label. rule_done label (instr_of a.d) (set_of a.s.now a.b) c.loop-k.s a.room c.loop-k.k (omega (arith, c.size-count.ensures.0)) (c.loop-k.invariant.1 label), c.loop-k.invariant.0)
