-- The verdict with its cause, and the filter: an input passes exactly where there is no first failure, and is held where there is one.
use mathlib.Core.Path.{◌≡◌, refl, sym, ap, ap₂, ◌∙◌}
use mathlib.Core.Bool.{Bool, true, false, ◌&&◌, cond}
use mathlib.Core.List.{List, [], ◌∷◌}
use Prim.Native.Nat.{ℕ}
use Rattle.arith.specs.declared.Cause.{Cause}
use Rattle.arith.specs.Step.{Outcome, value, overflow, passes}
use Rattle.model.specs.Lists.{every}
use Rattle.model.proofs.Basics.Results.{check-mapped}
use Rattle.model.specs.Refusals.{Out, ok, refused, ◌>>=◌, check, mapped, too_many_combinations, blank_field}
use Rattle.model.specs.Conjunct.{Conj, Conjuncts, atoms}
use Rattle.model.specs.Condition.{Condition, read_condition}
use Rattle.model.specs.Input.{Input, read_input}
use Rattle.model.specs.Filter.{evaluate, value_in, combinations_of, holds, has_readings, few_combinations, pass_number, held_number, filter_input}
use Rattle.model.specs.Failure.{Found, nothing, found, first, cause_in, failure_in, verdict, answer_number}
use Rattle.model.proofs.Basics.Every.{every-same}
use Rattle.model.proofs.Filters.Firsts.{is_nothing, first-nothing}

-- ---- the first failure

pub cause-nothing : (o : Outcome) → is_nothing (cause_in o) ≡ passes o
unfolding is_nothing
cause-nothing (value z) = refl
cause-nothing (overflow c) = refl

pub failure_holds : (I : Input) (e : Conj) → is_nothing (failure_in I e) ≡ holds I e
unfolding failure_in holds
failure_holds I e =
    first-nothing (λ zs. cause_in (evaluate (value_in (atoms e) zs) e [])) (combinations_of I e)
    ∙ every-same (λ zs. is_nothing (cause_in (evaluate (value_in (atoms e) zs) e []))) (λ zs. passes (evaluate (value_in (atoms e) zs) e []))
    (λ zs. cause-nothing (evaluate (value_in (atoms e) zs) e [])) (combinations_of I e)

pub failures_hold : (I : Input) (S : Conjuncts) → is_nothing (first (failure_in I) S) ≡ every (holds I) S
failures_hold I S = first-nothing (failure_in I) S ∙ every-same (λ e. is_nothing (failure_in I e)) (holds I) (failure_holds I) S

-- ---- pass and hold

answer-number : (f : Found Cause) → answer_number f ≡ cond (is_nothing f) pass_number held_number
unfolding is_nothing
answer-number nothing = refl
answer-number (found c) = refl

bind_mapped : {A B C : Type 0} (f : B → C) (o : Out A) (g : A → Out B) (h : A → Out C) → ((a : A) → mapped f (g a) ≡ h a) → mapped f (o >>= g) ≡ (o >>= h)
bind_mapped f (ok a) g h e = e a
bind_mapped f (refused n) g h e = refl

-- they do not move: the verdict without its cause is the filter's answer
pub verdict_filter : (condition input : List ℕ) → mapped answer_number (verdict condition input) ≡ filter_input condition input
unfolding verdict filter_input
verdict_filter condition input =
    bind_mapped answer_number (read_condition condition) _ _ λ C. bind_mapped answer_number (read_input C.fields input) _ _ λ I.
    let S = C.conjuncts in
    let few = every (few_combinations I) S in
    check-mapped answer_number (every (has_readings I) S) blank_field (check few too_many_combinations (ok (first (failure_in I) S)))
    ∙ ap (check (every (has_readings I) S) blank_field) (
    check-mapped answer_number few too_many_combinations (ok (first (failure_in I) S))
    ∙ ap (λ n. check few too_many_combinations (ok n)) (answer-number (first (failure_in I) S) ∙ ap (λ b. cond b pass_number held_number) (failures_hold I S))
    )

-- what a verdict says of the filter's answer
pub verdict-answer : (condition input : List ℕ) (o : Out (Found Cause)) → o ≡ verdict condition input → filter_input condition input ≡ mapped answer_number o
verdict-answer condition input o e = sym (verdict_filter condition input) ∙ ap (mapped answer_number) (sym e)
