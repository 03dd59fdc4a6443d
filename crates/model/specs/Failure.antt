-- Why an input is held (document 02, card 2): the cause of the first failure. Conjuncts go in file order, combinations in theirs, and within a
-- combination the first step in postfix order counts, since an evaluation stops there.
use Rattle.std.specs.Prelude.{List, [], ◌∷◌, ℕ, ◌+◌, ◌*◌}
use Rattle.arith.specs.declared.Cause.{Cause}
use Rattle.arith.specs.declared.Cause.TheVariants.{Above, Below, NoDivisor}
use Rattle.arith.specs.Step.{Outcome, value, overflow}
use Rattle.model.specs.Lists.{every}
use Rattle.model.specs.Refusals.{Out, ok, ◌>>=◌, check, too_many_combinations, blank_field}
use Rattle.model.specs.Conjunct.{Conj, atoms}
use Rattle.model.specs.Condition.{read_condition}
use Rattle.model.specs.Input.{Input, read_input}
use Rattle.model.specs.Filter.{evaluate, value_in, combinations_of, has_readings, few_combinations, pass_number, held_number}

-- ---- the first

-- something found, or nothing
pub data Found (A : Type 0) : Type 0 where
  nothing : Found A
  found : A → Found A

-- the first, or else the second
abbrev pub or_else : {A : Type 0} → Found A → Found A → Found A
or_else nothing b = b
or_else (found a) b = found a

-- what f finds first in a list
unfoldable pub first : {A B : Type 0} → (A → Found B) → List A → Found B
first f [] = nothing
first f (x ∷ xs) = or_else (f x) (first f xs)

-- ---- the first failure

-- the cause, where an evaluation stopped at a step
abbrev pub cause_in : Outcome → Found Cause
cause_in (value z) = nothing
cause_in (overflow c) = found c

-- of a conjunct: its combinations in their order
unfoldable pub failure_in : Input → Conj → Found Cause
failure_in I e = first (λ zs. cause_in (evaluate (value_in (atoms e) zs) e [])) (combinations_of I e)

-- of two files, after the filter's refusals: nothing where the input passes, the cause where it is held
unfoldable pub verdict : List ℕ → List ℕ → Out (Found Cause)
verdict condition input =
    read_condition condition >>= λ C. read_input C.fields input >>= λ I.
    check (every (has_readings I) C.conjuncts) blank_field
    (check (every (few_combinations I) C.conjuncts) too_many_combinations
    (ok (first (failure_in I) C.conjuncts)))

-- ---- numbers

-- 1 too big, 2 too small, 3 no divisor
abbrev pub cause_number : Cause → ℕ
cause_number Above = 1
cause_number Below = 2
cause_number NoDivisor = 3

-- whether it passes or is held
abbrev pub answer_number : Found Cause → ℕ
answer_number nothing = pass_number
answer_number (found c) = held_number

-- the same with the cause, 256 times its number
abbrev pub verdict_number : Found Cause → ℕ
verdict_number nothing = pass_number
verdict_number (found c) = held_number + 256 * cause_number c
