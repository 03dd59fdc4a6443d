-- `analysis::join_next` meets its contract.
use mathlib.Core.Logic.{inl, inr}
use mathlib.Core.Path.{◌∙◌}
use Prim.Native.Nat.{◌+◌, ◌≤◌}
use native.Mathlib.Omega.{arith}
use lib.ListN.{length}
use Rattle.sets.specs.Region.{region_words, set_of}
use Rattle.analysis.proofs.Uniting.{start-canon, joined-over, joined-done, joined-tidy}
use Rattle.analysis.proofs.join_next.Goals as goal

pub union-requires : goal.union-requires
union-requires c =
    let p = c.requires in
    let k = c.start_set.auto.s in
    let canon = start-canon (set_of c.args.s.now (c.args.b + region_words)) (set_of c.start_set.new.s (c.args.b + region_words)) c.start_set.ensures.0 in
    record { regions = record { first = omega (arith, p.0, k); second = omega (arith, p.0, k); apart = inr (omega arith) }; canon = canon }

pub returns-then-not-union : goal.returns-then-not-union
returns-then-not-union c =
    let a = c.args in
    record {
      does =
          joined-over a.s.now c.start_set.new.s a.b c.start_set.auto.s (omega (arith, c.requires.0)) c.start_set.ensures.1 c.start_set.ensures.0 c.union.new.s c.union.result
          c.if-not-union.true c.union.ensures.0;
      tidy = λ e. cc;
      below = λ i h. c.union.ensures.1 i (inl (omega arith)) ∙ c.start_set.ensures.1 i (omega arith);
    }

pub returns : goal.returns
returns c =
    let a = c.args in
    let p = c.requires in
    let fits : a.b + region_words ≤ length a.s.now = omega (arith, p.0) in
    record {
      does =
          joined-done a.s.now c.start_set.new.s a.b c.start_set.auto.s fits c.start_set.ensures.1 c.start_set.ensures.0 c.union.new.s c.copy.new.s c.union.result
          c.if-not-union.false c.union.ensures.0 c.copy.ensures.0;
      tidy = λ e.
          joined-tidy a.s.now c.start_set.new.s a.b c.start_set.auto.s fits c.start_set.ensures.1 c.start_set.ensures.0 c.union.new.s c.copy.new.s c.union.result
          c.if-not-union.false c.union.ensures.0 c.copy.ensures.0 p.1;
      below = λ i h. c.copy.ensures.1 i (inl h) ∙ c.union.ensures.1 i (inl (omega arith)) ∙ c.start_set.ensures.1 i (omega arith);
    }
