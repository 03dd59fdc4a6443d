-- The variables that a statement names, as the code holds them: the first of five.
use Rattle.std.specs.Prelude.{◌≡◌, Bool, ◌&&◌, List, ℕ, ◌+◌, ◌≤◌, leb, ltb, take}
use Rattle.model.specs.Sizes.{most_parameters}
use Rattle.program.specs.declared.own_variables.Names.{Names}

-- the most variables that a statement names: the target of a call and its arguments
abbrev pub most_names : ℕ
most_names = most_parameters + 1

-- the names
abbrev pub names_of : Names → List ℕ
names_of n = take n.count n.five

-- the names are those of a list
pub record NamesAre (n : Names) (xs : List ℕ) : Type 0 where
  pub same : names_of n ≡ xs
  pub few : n.count ≤ most_names

-- is the variable one of `count` from `first` on?
abbrev pub within : (first count : ℕ) → ℕ → Bool
within first count x = leb first x && ltb x (first + count)
