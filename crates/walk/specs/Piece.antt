-- A piece of program by its labels, in words that begin with the code table: what a walk is given, and what it leaves.
use Rattle.std.specs.Prelude.{Bool, List, ◌≡◌, ℕ, ◌+◌, ◌*◌, ◌≤◌, length}
use Rattle.model.specs.Code.{Code, Stmt}
use Rattle.model.specs.Nesting.{Nested}
use Rattle.model.specs.Placement.{Laid}
use Rattle.model.specs.TidySets.{Tidy}
use Rattle.model.specs.Walk.{walk}
use Rattle.code_table.specs.Table.{table_words, stmts, mates, Knows}
use Rattle.sets.specs.Region.{region_words, set_of}
use Rattle.footprint.specs.Footprints.{CoversSet}
use Rattle.footprint.specs.declared.Footprint.{Footprint}
use Rattle.rules.specs.Answers.{Answer, answered, Below}
use Rattle.walk.specs.Light.{walk_by}

-- the piece c lies on the labels from p up to q
abbrev pub Lies : List ℕ → Code → ℕ → ℕ → Type 0
Lies s c p q = Laid (stmts s) (mates s) c p q

-- some piece lies on these labels, its blocks nested at most `depth` deep
pub record Piece (s : List ℕ) (depth p q : ℕ) : Type 0 where
  pub code : Code
  pub lies : Lies s code p q
  pub nested : Nested depth code

-- the words are ready for work on the set of the region at b: all statements up to the label q are known, the blocks that may still be
-- entered are at most `most`, the region lies behind the table, there are regions to work in, and the set is tidy
pub record Ready (most regions : ℕ) (s : List ℕ) (depth b q : ℕ) : Type 0 where
  pub knows : Knows q s
  pub shallow : depth ≤ most
  pub behind : table_words ≤ b
  pub room : b + (2 * depth + regions) * region_words ≤ length s
  pub tidy : Tidy (set_of s b)

-- the same, with flags that cover the set
pub record Flagged (m : Footprint) (most regions : ℕ) (s : List ℕ) (depth b q : ℕ) : Type 0 where
  pub ready : Ready most regions s depth b q
  pub covers : CoversSet m (set_of s b)

-- the walk, light or not, of the piece on the labels from p up to q, on the region at b, that answered r and took s to t
abbrev pub WalkedBy : (light : Bool) → (ℕ → Stmt) → (ℕ → ℕ) → Answer → (p q b : ℕ) → (s t : List ℕ) → Type 0
WalkedBy light stmt mate r p q b s t = ((c : Code) → Laid stmt mate c p q → walk_by light c (set_of s b) ≡ answered r (set_of t b)) × Below b s t

-- the walk by the definition
abbrev pub Walked : (ℕ → Stmt) → (ℕ → ℕ) → Answer → (p q b : ℕ) → (s t : List ℕ) → Type 0
Walked stmt mate r p q b s t = ((c : Code) → Laid stmt mate c p q → walk c (set_of s b) ≡ answered r (set_of t b)) × Below b s t
