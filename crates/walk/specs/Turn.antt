-- One statement or block of a piece of program, and what the working functions of a walk leave in the regions: the set D of the
-- region at b, and two regions after it.
use Rattle.std.specs.Prelude.{◌≡◌, Bool, List, ℕ, ◌+◌, ◌*◌, ◌≤◌, length, Result}
use Rattle.model.specs.Code.{Code, done, step, branch, loop, Stmt, plain, if, else, end, while}
use Rattle.model.specs.Conjunct.{Conjuncts}
use Rattle.model.specs.Refusals.{Out}
use Rattle.model.specs.Nesting.{Nested}
use Rattle.model.specs.TidySets.{Tidy}
use Rattle.model.specs.Walk.{joined}
use Rattle.sets.specs.Region.{region_words, set_of, TwoRegions}
use Rattle.refusals.specs.Answers.{out_of}
use Rattle.refusals.specs.declared.Refusal.{Refusal}
use Rattle.rules.specs.Answers.{Answer, answered, Below}
use Rattle.walk.specs.Light.{Next, settled, again, next_of, walk_by, loop_by}
use Rattle.walk.specs.Piece.{Lies, Piece}
use Rattle.walk.specs.declared.Round.TheVariants.{Settled, Again}
use Rattle.walk.specs.declared.Round.{Round}

-- where the statement or the block begins that ends at the label i
abbrev pub first_of : Stmt → (ℕ → ℕ) → ℕ → ℕ
first_of (plain x) mate i = i
first_of (if v) mate i = mate i
first_of else mate i = mate i
first_of end mate i = mate i
first_of (while v) mate i = mate i

-- one statement or block, and nothing after it
abbrev pub Sole : Code → Type 0
Sole done = ⊥
Sole (step l x rest) = rest ≡ done
Sole (branch l v y n rest) = rest ≡ done
Sole (loop l v body rest) = rest ≡ done

-- one statement or block lies on these labels, its blocks nested at most `depth` deep
pub record Single (s : List ℕ) (depth p q : ℕ) : Type 0 where
  pub code : Code
  pub lies : Lies s code p q
  pub nested : Nested depth code
  pub sole : Sole code

-- the two branches of an if lie on the labels from p up to e and from e + 1 up to f
pub record TwoPieces (s : List ℕ) (depth p e f : ℕ) : Type 0 where
  pub first : Piece s depth p e
  pub other : Piece s depth (e + 1) f

-- the branches of an if on the labels from p up to e and from e + 1 up to f, on the region at b, that answered r and took s to t
abbrev pub Branches : (light : Bool) → Answer → (p e f b : ℕ) → (s t : List ℕ) → Type 0
Branches light r p e f b s t =
    ((y n : Code) → Lies s y p e → Lies s n (e + 1) f → joined (walk_by light y) (walk_by light n) (set_of s b) ≡ answered r (set_of t b)) × Below b s t

-- the rounds of a while whose body lies on the labels from p up to q: what they come to is in the region after that at b, which stays
pub record Rounded (light : Bool) (r : Answer) (p q b : ℕ) (s t : List ℕ) : Type 0 where
  pub given : (c : Code) → Lies s c p q → loop_by light c (set_of s b) ≡ answered r (set_of t (b + region_words))
  pub same : set_of t b ≡ set_of s b
  pub below : Below b s t

-- the same, where it is in the region at b
abbrev pub Loops : (light : Bool) → Answer → (p q b : ℕ) → (s t : List ℕ) → Type 0
Loops light r p q b s t = ((c : Code) → Lies s c p q → loop_by light c (set_of s b) ≡ answered r (set_of t b)) × Below b s t

-- ---- what the working functions are given

-- two regions apart with tidy sets, of which the first takes the union
pub record Uniting (s : List ℕ) (to from : ℕ) : Type 0 where
  pub apart : TwoRegions s to from
  pub added : Tidy (set_of s from)
  pub own : Tidy (set_of s to)

-- so many regions from that at b on, with tidy sets in two of them
pub record TwoTidy (regions : ℕ) (s : List ℕ) (b one other : ℕ) : Type 0 where
  pub room : b + regions * region_words ≤ length s
  pub tidy_one : Tidy (set_of s one)
  pub tidy-other : Tidy (set_of s other)

-- ---- what the working functions leave: s became t

-- before the first branch of an if
pub record BranchOpened (b : ℕ) (s t : List ℕ) : Type 0 where
  pub second : set_of t (b + 2 * region_words) ≡ set_of s b
  pub same : set_of t b ≡ set_of s b
  pub below : Below b s t

-- between its branches
pub record BranchSwitched (b : ℕ) (s t : List ℕ) : Type 0 where
  pub first : set_of t (b + region_words) ≡ set_of s (b + 2 * region_words)
  pub second : set_of t (b + 2 * region_words) ≡ set_of s b
  pub below : Below b s t

-- before the rounds of a while
pub record RoundsOpened (b : ℕ) (s t : List ℕ) : Type 0 where
  pub same : set_of t b ≡ set_of s b
  pub first : set_of t (b + region_words) ≡ set_of s b
  pub second : set_of t (b + 2 * region_words) ≡ set_of s b
  pub below : Below b s t

-- before the end of a round: the set that the while began with, that of the round, and what the body gave
pub record Closing (b : ℕ) (s : List ℕ) : Type 0 where
  pub room : b + 4 * region_words ≤ length s
  pub start : Tidy (set_of s b)
  pub round : Tidy (set_of s (b + region_words))
  pub given : Tidy (set_of s (b + 2 * region_words))

-- what comes after a round, by the sets in the two regions after that at b
abbrev pub next_by : (S X : Conjuncts) → Round → Next
next_by S X Settled = settled S
next_by S X Again = again S X

-- what the end of a round says of these sets
abbrev pub closed_as : Result Round Refusal → (S X : Conjuncts) → Out Next
closed_as r S X = out_of (next_by S X) r

-- the end of a round, light or not
pub record Closed (light : Bool) (r : Result Round Refusal) (b : ℕ) (s t : List ℕ) : Type 0 where
  pub next : next_of light (set_of s b) (set_of s (b + region_words)) (set_of s (b + 2 * region_words))
      ≡ closed_as r (set_of t (b + region_words)) (set_of t (b + 2 * region_words))
  pub same : set_of t b ≡ set_of s b
  pub below : Below b s t
