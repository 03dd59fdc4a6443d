-- `rules::add_before` meets its contract: a conjunct without a load stays, and one with loads comes to the subsets.
use mathlib.Core.List.{[], ◌∷◌, map}
use mathlib.Core.Path.{◌≡◌, sym, subst, ◌∙◌}
use Prim.Native.Nat.{ℕ}
use Rattle.model.proofs.Walks.Skip.{before-none}
use Rattle.model.specs.Conjunct.{renumber}
use Rattle.model.specs.Walk.{before}
use Rattle.code_table.specs.Statements.{instr_of}
use Rattle.conjunct.specs.Value.{conj_of}
use Rattle.rules.proofs.ByKind.{writes-store, before-cells}
use Rattle.rules.specs.Adding.{NoneLong, Added}
use Rattle.rules.proofs.add_before.Goals as goal
use Rattle.rules.proofs.add_before.Goals.{Then-not-mentions_array}

-- a conjunct without a load comes to itself
unchanged : (c : Then-not-mentions_array) (label : ℕ)
    → let a = c.args in
    let e = conj_of a.e.now a.n in
    map renumber (before label (instr_of a.d) e) ≡ e ∷ []
unchanged c label =
    let a = c.args in
    let e = conj_of a.e.now a.n in
    let none = sym c.mentions_array.ensures ∙ c.if-not-mentions_array.true in
    before-none label (instr_of a.d) e (sym (writes-store a.d e c.requires.statement.store) ∙ none) c.requires.numbered

pub returns-then-not-mentions_array : goal.returns-then-not-mentions_array
returns-then-not-mentions_array c =
    let a = c.args in (
      λ label. subst (λ R. Added c.insert.result NoneLong R a.room a.s.now c.insert.new.s) (sym (unchanged (goal.at.returns-then-not-mentions_array c).Then-not-mentions_array label)) c.insert.ensures.0,
      c.insert.ensures.1,
    )

pub returns : goal.returns
returns c =
    let a = c.args in (
      λ label. subst (λ R. Added c.store_subsets.result NoneLong R a.room a.s.now c.store_subsets.new.s)
          (before-cells a.d label (conj_of a.e.now a.n) c.requires.statement.store c.requires.statement.several)
          (c.store_subsets.ensures.0 a.d.c a.d.ty c.variable.ensures),
      c.store_subsets.ensures.1,
    )
