-- From a statement to the program's start, out of the blocks that enclose it, by a code table k.
use Rattle.std.specs.Prelude.{List, ◌≡◌, ℕ, ◌+◌, ◌*◌, ◌≤◌, ◌<◌, length, Ok, Some}
use Rattle.model.specs.Code.{Code}
use Rattle.model.specs.Conjunct.{Conjuncts}
use Rattle.model.specs.Enclosing.{Enclosing, walk_out_lem}
use Rattle.model.specs.Refusals.{Out, ◌>>=◌}
use Rattle.model.specs.Sizes.{most_nested}
use Rattle.model.specs.TidySets.{Tidy}
use Rattle.model.specs.Walk.{walk}
use Rattle.code_table.specs.Table.{table_words, table_of, stmt_in, mate_in, KnownBelow, stmts, mates, Knows}
use Rattle.sets.specs.Region.{region_words, set_of}
use Rattle.rules.specs.Answers.{Answer, answered, Below}
use Rattle.walk.specs.Piece.{Piece}
use Rattle.enclosing.specs.Blocks.{Innermost}

-- the blocks that enclose the label i, of n statements; the statements of the innermost end at q
abbrev pub EnclosedIn : List ℕ → (n i q : ℕ) → Type 0
EnclosedIn k n i q = Enclosing (stmt_in k) (mate_in k) n i q

-- the set at the program's start, from a set before the label
abbrev pub walked_out : (k : List ℕ) (n i q : ℕ) → EnclosedIn k n i q → Conjuncts → Out Conjuncts
walked_out k n i q w S = walk_out_lem (stmt_in k) (mate_in k) n w S

-- the label i of a program of n statements stands in a block, or at the top
pub record Enclosed (k : List ℕ) (n i : ℕ) : Type 0 where
  pub known : KnownBelow n k
  pub end : ℕ
  pub blocks : EnclosedIn k n i end
  pub inside : i < end

-- from the set S before the label i the walk out of all its blocks comes to the answer a with the set T
abbrev pub WalksOut : List ℕ → (n i : ℕ) → Conjuncts → Answer → Conjuncts → Type 0
WalksOut k n i S a T = (q : ℕ) (w : EnclosedIn k n i q) → i < q → walked_out k n i q w S ≡ answered a T

-- the walk goes on from the label r
abbrev pub GoesOnFrom : List ℕ → (n r : ℕ) → Out Conjuncts → Out Conjuncts → Type 0
GoesOnFrom k n r end now = (z : ℕ) × (u : EnclosedIn k n r z) × (r < z) × (end ≡ (now >>= walked_out k n r z u))

-- from the set S before the label i the walk goes on from the label r with the answer a and the set T
abbrev pub LeavesBlock : List ℕ → (n i r : ℕ) → Conjuncts → Answer → Conjuncts → Type 0
LeavesBlock k n i r S a T = (q : ℕ) (w : EnclosedIn k n i q) → i < q → GoesOnFrom k n r (walked_out k n i q w S) (answered a T)

-- the walk of a piece c, and then that of a piece d
abbrev pub walk_both_lem : Code → Code → Conjuncts → Out Conjuncts
walk_both_lem c d S = walk c S >>= walk d

-- ---- the words

-- a tidy set in the region at b, behind the table, and ten regions to work in
pub record Workable (s : List ℕ) (b : ℕ) : Type 0 where
  pub behind : table_words ≤ b
  pub room : b + 10 * region_words ≤ length s
  pub tidy : Tidy (set_of s b)

-- words to work in, and two pieces of known statements, on the labels from p up to i and from r up to q
pub record TwoPieces (s : List ℕ) (b p i r q : ℕ) : Type 0 where
  pub words : Workable s b
  pub first-known : Knows i s
  pub second-known : Knows q s
  pub first : Piece s most_nested p i
  pub second : Piece s most_nested r q

-- words to work in, a label i of a program with its number of statements, and the innermost block around it, which begins at r
pub record InBlock (s : List ℕ) (b i r : ℕ) : Type 0 where
  pub words : Workable s b
  pub statements : ℕ
  pub enclosed : Enclosed (table_of 0 s) statements i
  pub innermost : Innermost (stmts s) (mates s) i (Some r)

-- the words s became t with the answer a: what is said of the sets is so, the set is tidy again, and nothing before the region differs
pub record Moved (F : Type 0) (a : Answer) (b : ℕ) (s t : List ℕ) : Type 0 where
  pub does : F
  pub tidy : a ≡ Ok tt → Tidy (set_of t b)
  pub below : Below b s t
