-- The union of the sites' sets, site by site.
use Rattle.std.specs.Prelude.{List, [], ◌∷◌, ◌≡◌, ℕ, ◌+◌, ◌≤◌, ◌<◌, length, Ok}
use Rattle.model.specs.Code.{assign, store, site, Stmt, plain, if, else, end, while}
use Rattle.model.specs.Conjunct.{Conjuncts, union_of, limits, var}
use Rattle.model.specs.Refusals.{Out, ok, ◌>>=◌}
use Rattle.model.specs.Sizes.{most_nested}
use Rattle.model.specs.Walk.{start, join}
use Rattle.model.specs.Enclosing.{From}
use Rattle.model.specs.TidySets.{Sub, Tidy}
use Rattle.code_table.specs.Statements.{variable_numbers}
use Rattle.code_table.specs.Table.{table_of, stmt_in, mate_in, KnownBelow}
use Rattle.sets.specs.Region.{set_of, region_words}
use Rattle.rules.specs.Answers.{Answer, answered}
use Rattle.walk.specs.Piece.{Piece}
use Rattle.enclosing.specs.Enclosing.{EnclosedIn, Enclosed, walked_out}
use Rattle.analysis.specs.Deriving.{union_at, analysis_words}

-- how many variables have a hint of their last site
abbrev pub hints : ℕ
hints = 64

-- the union so far R, with the set S of one site at the program's start
abbrev pub joined_to : Conjuncts → Conjuncts → Out Conjuncts
joined_to R S = start S >>= λ Z. limits (union_of R Z)

-- the sites from the label i on come to the results L, of n statements, by a code table k
abbrev pub SitesFrom : List ℕ → (n i : ℕ) → List (Out Conjuncts) → Type 0
SitesFrom k n i L = From (stmt_in k) (mate_in k) n i L

-- from the union R the site at the label i, on a variable x of a type, comes to the answer a with the union Q
abbrev pub Sited : List ℕ → (n i x ty : ℕ) → Conjuncts → Answer → Conjuncts → Type 0
Sited k n i x ty R a Q = (q : ℕ) (w : EnclosedIn k n i q) → i < q → (walked_out k n i q w ((var x ty ∷ []) ∷ []) >>= joined_to R) ≡ answered a Q

-- ---- a site that repeats an earlier one

-- a plain statement that does not write the variable x
abbrev pub Keeps : ℕ → Stmt → Type 0
Keeps x (plain (assign a ty r)) = a ≡ x → ⊥
Keeps x (plain (store t k i y ty)) = Unit {0}
Keeps x (plain (site a ty)) = Unit {0}
Keeps x (if v) = ⊥
Keeps x else = ⊥
Keeps x end = ⊥
Keeps x (while v) = ⊥

-- the statements on the labels from p up to q are such
abbrev pub KeptFrom : List ℕ → (p q x : ℕ) → Type 0
KeptFrom k p q x = (l : ℕ) → p ≤ l → l < q → Keeps x (stmt_in k l)

-- a site with the label i, on a variable x of a type, repeats the one with the label j
pub record Repeats (k : List ℕ) (j i x ty : ℕ) : Type 0 where
  pub earlier : j < i
  pub is-site : stmt_in k j ≡ plain (site x ty)
  pub kept : KeptFrom k (j + 1) i x

-- ---- the union so far

-- of every site before the label i, the set at the program's start is in R
abbrev pub AllJoined : List ℕ → (n i : ℕ) → Conjuncts → Type 0
AllJoined k n i R =
    (j q x ty : ℕ) (w : EnclosedIn k n j q) → j < i → j < q → stmt_in k j ≡ plain (site x ty)
    → (Z : Conjuncts) × ((walked_out k n j q w ((var x ty ∷ []) ∷ []) >>= start) ≡ ok Z) × Sub Z R

-- what is left of the sites L from the label i on goes on from the next label with the answer a and the union Q
pub record GoesOn (k : List ℕ) (n i : ℕ) (R : Conjuncts) (a : Answer) (Q : Conjuncts) (L : List (Out Conjuncts)) : Type 0 where
  pub later : List (Out Conjuncts)
  pub sites : SitesFrom k n (i + 1) later
  pub same : join R L ≡ (answered a Q >>= λ U. join U later)
  pub joined : a ≡ Ok tt → AllJoined k n (i + 1) Q

-- the label i is passed, from the union R, in which all sites before it are joined
abbrev pub PassedLabel : List ℕ → (n i : ℕ) → Conjuncts → Answer → Conjuncts → Type 0
PassedLabel k n i R a Q = AllJoined k n i R → (L : List (Out Conjuncts)) → SitesFrom k n i L → GoesOn k n i R a Q L

-- ---- the words

-- scratch with its words, and a tidy union so far
pub record Uniting (s : List ℕ) : Type 0 where
  pub room : analysis_words ≤ length s
  pub tidy : Tidy (set_of s union_at)

-- the region at b, and after it an empty room
pub record EmptyRoom (s : List ℕ) (b room : ℕ) : Type 0 where
  pub apart : b + region_words ≤ room
  pub there : room + region_words ≤ length s
  pub empty : set_of s room ≡ []

-- a union so far, and a site at the label i, on a variable x of a type, in a program with its number of statements
pub record SiteIn (s : List ℕ) (i x ty : ℕ) : Type 0 where
  pub words : Uniting s
  pub variable : x < variable_numbers
  pub type : ty < 8
  pub statements : ℕ
  pub enclosed : Enclosed (table_of 0 s) statements i

-- a union so far, and a label i of a program with its number of statements, and with what the sites from that label on come to
pub record LabelIn (s : List ℕ) (i : ℕ) : Type 0 where
  pub words : Uniting s
  pub statements : ℕ
  pub known : KnownBelow statements (table_of 0 s)
  pub inside : i < statements
  pub results : List (Out Conjuncts)
  pub sites : SitesFrom (table_of 0 s) statements i results

-- scratch with its words, and in its table the n known statements of a program
pub record ProgramIn (s : List ℕ) (n : ℕ) : Type 0 where
  pub room : analysis_words ≤ length s
  pub known : KnownBelow n (table_of 0 s)
  pub piece : Piece s most_nested 0 n
