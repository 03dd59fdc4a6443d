-- Demand 2: the filter passes an input exactly where no choice of readings overflows at a step of a conjunct, and holds
-- it back exactly where one does.
use mathlib.Core.Path.{◌≡◌, refl, ap, sym, ◌∙◌}
use mathlib.Core.Bool.{Bool, true, false, cond}
use mathlib.Core.List.{List}
use Prim.Native.Nat.{ℕ}
use native.Mathlib.Omega.{arith}
use Rattle.model.specs.Lists.{every}
use Rattle.model.specs.Refusals.{ok}
use Rattle.model.specs.Condition.{Condition, read_condition}
use Rattle.model.specs.Input.{Input, read_input}
use Rattle.model.specs.Filter.{holds, few_combinations, has_readings, pass_number, held_number, filter_input}
use Rattle.model.specs.Demands.{Demand2}
use Rattle.model.proofs.Filters.Choosing.{read_of_fields, holds_safe, safe_holds, held-overflows, overflows-held}
use Rattle.model.proofs.Basics.Every.{every-all, all-every, every_some, some-every}
use Rattle.model.proofs.Basics.Lists.{all_imp, all_imp₂, some_imp, some_imp₂}
use Rattle.model.proofs.Basics.Results.{ok_eq}

-- ---- the numbers of the answer

pub is_pass : (b : Bool) → cond b pass_number held_number ≡ pass_number → b ≡ true
is_pass true e = refl
is_pass false e = absurd (omega arith)

pub is_held : (b : Bool) → cond b pass_number held_number ≡ held_number → b ≡ false
is_held true e = absurd (omega arith)
is_held false e = refl

-- ---- the theorem

-- with a reading in every field that is read, and within the limit, the answer is the test of every conjunct
pub filter_answer : (condition input : List ℕ) (C : Condition) (I : Input) → read_condition condition ≡ ok C → read_input C.fields input ≡ ok I
    → every (has_readings I) C.conjuncts ≡ true → every (few_combinations I) C.conjuncts ≡ true
    → filter_input condition input ≡ ok (cond (every (holds I) C.conjuncts) pass_number held_number)
unfolding filter_input
filter_answer condition input C I c i full few = rw (c, i, full, few)

pub filter_exact : Demand2
filter_exact condition input C I c i full few =
    let S = C.conjuncts in
    let all = every (holds I) S in
    let answer = cond all pass_number held_number in
    let is = filter_answer condition input C I c i full few in
    let fields = read_of_fields condition C c in (
      (
        λ p. all_imp (holds_safe I) S (every-all (holds I) S (is_pass all (ok_eq answer pass_number (sym is ∙ p)))),
        λ s. is ∙ ap (λ b. ok (cond b pass_number held_number)) (all-every (holds I) S (all_imp₂ (safe_holds I) S fields s)),
      ),
      (
        λ p. some_imp₂ (held-overflows I) S fields (every_some (holds I) S (is_held all (ok_eq answer held_number (sym is ∙ p)))),
        λ o. is ∙ ap (λ b. ok (cond b pass_number held_number)) (some-every (holds I) S (some_imp (overflows-held I) S o)),
      ),
    )
