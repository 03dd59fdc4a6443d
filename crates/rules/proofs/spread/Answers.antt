-- `rules::spread` meets its contract: the set is gathered in the region after its own, and copied back.
use mathlib.Core.Logic.{inl, inr}
use mathlib.Core.Path.{◌≡◌, sym, ap, subst, ◌∙◌}
use Prim.Native.Nat.{◌+◌}
use native.Mathlib.Omega.{arith}
use Rattle.model.specs.Lists.{All}
use Rattle.model.specs.Refusals.{ok}
use Rattle.model.specs.Walk.{back}
use Rattle.model.specs.TidySets.{Numbered}
use Rattle.code_table.specs.Statements.{instr_of}
use Rattle.sets.proofs.Rows.{frame}
use Rattle.sets.specs.Region.{set_of, region_words}
use Rattle.std.proofs.lemmas.Result.{err_from_is_err_and}
use Rattle.rules.proofs.spread.Goals as goal
use Rattle.rules.proofs.spread.Goals.{After-clear}

-- the set that the rule is for is as it was
same : (c : After-clear) → set_of c.clear.new.s c.args.b ≡ set_of c.args.s.now c.args.b
same c =
    let a = c.args in
    frame a.s.now c.clear.new.s (a.b + region_words) a.b c.clear.auto.s (omega arith) (inr (omega arith)) c.clear.ensures.1

pub gather_all-requires : goal.gather_all-requires
gather_all-requires c =
    let p = c.requires in
    record {
      apart = omega arith;
      there = omega (arith, c.clear.auto.s);
      empty = c.clear.ensures.0;
      statement = p.1;
      numbered = subst (All Numbered) (sym (same (goal.at.gather_all-requires c).After-clear)) p.0.numbered;
    }

pub returns : goal.returns
returns c =
    let a = c.args in (
      λ label. ap (back label (instr_of a.d)) (sym (same (goal.at.returns c).After-clear)) ∙ c.in_ok-gather_all.ensures.0 label ∙ ap ok (sym c.copy.ensures.0),
      λ i h. c.copy.ensures.1 i (inl h) ∙ c.gather_all.ensures.1 i (inl (omega arith)) ∙ c.clear.ensures.1 i (inl (omega arith)),
    )

pub returns-in_err-gather_all : goal.returns-in_err-gather_all
returns-in_err-gather_all c =
    let a = c.args in let gone = err_from_is_err_and c.from_residual.result c.from_residual.ensures.1 in rw (gone.1, gone.2) (
      λ label. ap (back label (instr_of a.d)) (sym (same (goal.at.returns-in_err-gather_all c).After-clear)) ∙ c.in_err-gather_all.ensures.0 label,
      λ i h. c.gather_all.ensures.1 i (inl (omega arith)) ∙ c.clear.ensures.1 i (inl (omega arith)),
    )
