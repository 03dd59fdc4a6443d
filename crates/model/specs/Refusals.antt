-- Results and refusals: document 01, "Causes of refusal". The operations give the numbers by these names.
use Rattle.std.specs.Prelude.{Bool, true, false, ℕ}

-- a result, or the number of a refusal
pub data Out (A : Type 0) : Type 0 where
  ok : A → Out A
  refused : ℕ → Out A

infixl 10 ◌>>=◌
-- the first refusal counts
abbrev pub ◌>>=◌ : {A B : Type 0} → Out A → (A → Out B) → Out B
ok a >>= f = f a
refused n >>= f = refused n

-- a part of the result, or the same refusal
abbrev pub mapped : {A B : Type 0} → (A → B) → Out A → Out B
mapped f (ok a) = ok (f a)
mapped f (refused n) = refused n

-- go on where the test passes
abbrev pub check : {A : Type 0} → Bool → ℕ → Out A → Out A
check true n o = o
check false n o = refused n

-- the same result, or another refusal
abbrev pub instead : {A : Type 0} → ℕ → Out A → Out A
instead n (ok a) = ok a
instead n (refused m) = refused n

-- condition output or scratch shorter than documented
abbrev pub lent_too_short : ℕ
lent_too_short = 1

-- program too long, or section table wrong
abbrev pub wrong_sections : ℕ
wrong_sections = 2

-- a section has too many entries
abbrev pub too_many_entries : ℕ
too_many_entries = 3

-- type code above 7, array length or zero byte wrong
abbrev pub wrong_types : ℕ
wrong_types = 4

-- kind, operand or unused byte wrong
abbrev pub wrong_statement : ℕ
wrong_statement = 5

-- types disagree
abbrev pub types_disagree : ℕ
types_disagree = 6

-- immediate outside its type
abbrev pub wrong_immediate : ℕ
wrong_immediate = 7

-- blocks unmatched or too deep
abbrev pub wrong_blocks : ℕ
wrong_blocks = 8

-- a conjunct over 120 nodes
abbrev pub too_many_nodes : ℕ
too_many_nodes = 9

-- a set over 64 conjuncts
abbrev pub too_many_conjuncts : ℕ
too_many_conjuncts = 10

-- no S(k) equal to S(k-1) up to 16
abbrev pub never_settles : ℕ
never_settles = 11

-- condition not in its form
abbrev pub wrong_condition : ℕ
wrong_condition = 12

-- input not in its form
abbrev pub wrong_input : ℕ
wrong_input = 13

-- more than 1,048,576 combinations
abbrev pub too_many_combinations : ℕ
too_many_combinations = 14

-- a field that some conjunct reads has no readings
abbrev pub blank_field : ℕ
blank_field = 15

-- a procedure stands late or inside another, uses or shares variables that it may not, has none or fewer than its parameters, calls
-- itself or a later one; or the inlined program is too long or too deep
abbrev pub wrong_procedures : ℕ
wrong_procedures = 16
