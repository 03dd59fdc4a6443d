-- The first pass over the conjuncts, which looks at the numbers of combinations: what is told of the conjuncts before, together
-- with the answer for those that are left, is the answer for all. Where a blank field is found, that decides; too many
-- combinations are only noted, since a blank field may follow.
use mathlib.Core.Path.{◌≡◌, refl, ◌∙◌}
use mathlib.Core.Bool.{Bool, true, false, not, ◌&&◌}
use mathlib.Core.List.{[], ◌∷◌}
use Prim.Native.Nat.{ℕ, ◌+◌}
use lib.ListN.{drop}
use Rattle.model.specs.Lists.{every}
use Rattle.model.specs.Conjunct.{Conj, Conjuncts}
use Rattle.model.specs.Input.{Input}
use Rattle.model.specs.Filter.{few_combinations, has_readings}
use Rattle.model.specs.Refusals.{ok, refused, blank_field, too_many_combinations}
use Rattle.filter.specs.Verdict.{combined}

-- of the first i conjuncts none reads a blank field, and many says whether one of them has too many combinations
pub record ToldTo (I : Input) (S : Conjuncts) (i : ℕ) (many : Bool) : Type 0 where
  pub readings : every (has_readings I) S ≡ every (has_readings I) (drop i S)
  pub combinations : every (few_combinations I) S ≡ (not many && every (few_combinations I) (drop i S))

pub told_at-start : (I : Input) (S : Conjuncts) → ToldTo I S 0 false
told_at-start I S = record { readings = refl; combinations = refl }

and-false : (b : Bool) → (b && false) ≡ false
and-false true = refl
and-false false = refl

module _ (I : Input) (S : Conjuncts) (i : ℕ) (many : Bool) (so_far : ToldTo I S i many) where
  -- the next is e
  module _ (e : Conj) (next : drop i S ≡ e ∷ drop (i + 1) S) where
    pub told_blank : has_readings I e ≡ false → refused blank_field ≡ combined I S
    unfolding every combined
    told_blank blank = rw so_far.readings (rw (next, blank))

    module _ (full : has_readings I e ≡ true) where
      pub told_many : few_combinations I e ≡ false → ToldTo I S (i + 1) true
      unfolding every
      told_many above = record {
        readings = so_far.readings ∙ rw (next, full);
        combinations = so_far.combinations
            ∙ rw (next, above) (and-false (not many));
      }

      pub told_few : few_combinations I e ≡ true → ToldTo I S (i + 1) many
      unfolding every
      told_few within = record { readings = so_far.readings ∙ rw (next, full); combinations = so_far.combinations ∙ rw (next, within) }

  -- there is no next
  module _ (none : drop i S ≡ []) where
    pub told_too_many : many ≡ true → refused too_many_combinations ≡ combined I S
    unfolding every combined
    told_too_many e = rw (so_far.readings, so_far.combinations) (rw (none, e))

    pub told_within : many ≡ false → ok tt ≡ combined I S
    unfolding every combined
    told_within e = rw (so_far.readings, so_far.combinations) (rw (none, e))
