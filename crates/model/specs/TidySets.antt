-- What the sets of an analysis are: canonical, numbered, and within the limits; and what is a member of a set.
use Rattle.std.specs.Prelude.{◌≡◌, ◌⊎◌, false, [], ◌∷◌, ◌≤◌, length}
use Prim.Native.Nat.{Ordering}
use Rattle.model.specs.Conjunct.{Conj, Conjuncts, order, long, renumber}
use Rattle.model.specs.Lists.{All}
use Rattle.model.specs.Sizes.{most_conjuncts}

-- d stands before e
abbrev pub Less : Conj → Conj → Type 0
Less d e = order d e ≡ Ordering.lt

-- a canonical set: strictly rising
abbrev pub Canon : Conjuncts → Type 0
Canon [] = Unit {0}
Canon (e ∷ S) = All (Less e) S × Canon S

-- x is a conjunct of the set
abbrev pub Mem : Conj → Conjuncts → Type 0
Mem x [] = ⊥
Mem x (e ∷ S) = (x ≡ e) ⊎ Mem x S

-- every conjunct of R is one of S
abbrev pub Sub : Conjuncts → Conjuncts → Type 0
Sub R S = (x : Conj) → Mem x R → Mem x S

-- numbered as a rule leaves it
abbrev pub Numbered : Conj → Type 0
Numbered e = renumber e ≡ e

-- within the limits
pub record Fine (S : Conjuncts) : Type 0 where
  pub short : long S ≡ false
  pub few : length S ≤ most_conjuncts

-- what the sets of an analysis are
pub record Tidy (S : Conjuncts) : Type 0 where
  pub canon : Canon S
  pub numbered : All Numbered S
  pub fine : Fine S
