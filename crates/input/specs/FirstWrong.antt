-- Which pair of an input is the first that is wrong (document 02, card 3).
use Rattle.std.specs.Prelude.{◌≡◌, List, ℕ, zero, suc, ◌+◌, ◌*◌, ◌%◌, ◌≤◌, ◌<◌, length, get_or, Option, Some, None, Result, Ok, Err}
use Rattle.model.specs.Sizes.{most_readings}
use Rattle.model.specs.Bytes.{Pair, pair_at}
use Rattle.model.specs.Input.{width}

-- where a pair's part ends
abbrev pub end_of : Pair → ℕ
end_of p = p.offset + p.len

-- a pair begins where it is to, has a length right for its field's type, and does not run past a file of this size
pub record PairRight (ty : ℕ) (p : Pair) (start size : ℕ) : Type 0 where
  pub begins : p.offset ≡ start
  pub whole : p.len % width ty ≡ 0
  pub few : p.len ≤ most_readings * width ty
  pub inside : end_of p ≤ size

-- where a field's part is to begin: the first behind the table, each other where the one before ends
abbrev pub start_of : ℕ → List ℕ → ℕ → ℕ
start_of fields s zero = 8 * fields
start_of fields s (suc f) = end_of (pair_at s (8 * f))

-- the pair of a field is right
abbrev pub RightAt : List ℕ → List ℕ → ℕ → Type 0
RightAt types s f = PairRight (get_or types f 0) (pair_at s (8 * f)) (start_of (length types) s f) (length s)

-- so is the pair of every field before this one
abbrev pub RightBefore : List ℕ → List ℕ → ℕ → Type 0
RightBefore types s n = (f : ℕ) → f < n → RightAt types s f

-- what is said of one pair: it is right, and where its part ends; or it is wrong
abbrev pub PartIs : ℕ → Pair → ℕ → ℕ → Option ℕ → Type 0
PartIs ty p start size (Some e) = PairRight ty p start size × (e ≡ end_of p)
PartIs ty p start size None = PairRight ty p start size → ⊥

-- what is said of all: every pair is right, and where the last one ends; or one is wrong, and every one before it right
abbrev pub PairsAre : List ℕ → List ℕ → Result ℕ ℕ → Type 0
PairsAre types s (Ok e) = RightBefore types s (length types) × (e ≡ start_of (length types) s (length types))
PairsAre types s (Err f) = (f < length types) × (RightAt types s f → ⊥) × RightBefore types s f
