-- What an answer that may be a refusal stands for in the model.
use Rattle.std.specs.Prelude.{ℕ, Result, Ok, Err}
use Rattle.model.specs.Refusals.{Out, ok, refused, lent_too_short, wrong_sections, too_many_entries, wrong_types, wrong_statement, types_disagree}
use Rattle.model.specs.Refusals.{wrong_immediate, wrong_blocks, too_many_nodes, too_many_conjuncts, never_settles, wrong_condition, wrong_input}
use Rattle.model.specs.Refusals.{too_many_combinations, blank_field, wrong_procedures}
use Rattle.refusals.specs.declared.Refusal.{Refusal}
use Rattle.refusals.specs.declared.Refusal.TheVariants.{LentTooShort, WrongSections, TooManyEntries, WrongTypes, WrongStatement, TypesDisagree}
use Rattle.refusals.specs.declared.Refusal.TheVariants.{WrongImmediate, WrongBlocks, TooManyNodes, TooManyConjuncts, NeverSettles, WrongCondition}
use Rattle.refusals.specs.declared.Refusal.TheVariants.{WrongInput, TooManyCombinations, BlankField, WrongProcedures}

-- the number of a refusal
abbrev pub number_of : Refusal → ℕ
number_of LentTooShort = lent_too_short
number_of WrongSections = wrong_sections
number_of TooManyEntries = too_many_entries
number_of WrongTypes = wrong_types
number_of WrongStatement = wrong_statement
number_of TypesDisagree = types_disagree
number_of WrongImmediate = wrong_immediate
number_of WrongBlocks = wrong_blocks
number_of TooManyNodes = too_many_nodes
number_of TooManyConjuncts = too_many_conjuncts
number_of NeverSettles = never_settles
number_of WrongCondition = wrong_condition
number_of WrongInput = wrong_input
number_of TooManyCombinations = too_many_combinations
number_of BlankField = blank_field
number_of WrongProcedures = wrong_procedures

-- a result, seen by a function, or the number of the refusal
abbrev pub out_of : {A B : Type 0} → (A → B) → Result A Refusal → Out B
out_of f (Ok a) = ok (f a)
out_of f (Err r) = refused (number_of r)
