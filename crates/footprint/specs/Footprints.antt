-- What flags of variables and arrays say of conjuncts, which statements they spare, and which bring nothing that they do not flag.
use Rattle.std.specs.Prelude.{◌≡◌, false, List, ◌⊎◌, ℕ, ◌+◌, ◌%◌, ◌≤◌, ◌<◌, length, get_or}
use Rattle.model.specs.Code.{Right, number, copy, calc, change, read, load, Instr, assign, store, site, Stmt, plain, if, else, end, while}
use Rattle.model.specs.Conjunct.{Conj, Conjuncts}
use Rattle.model.specs.Lists.{All}
use Rattle.model.specs.Sizes.{most_arrays, most_rows}
use Rattle.model.specs.Touch.{is_var, is_load_lem, some}
use Rattle.code_table.specs.Table.{table_words}
use Rattle.sets.specs.Region.{region_words, set_of}
use Rattle.footprint.specs.declared.Footprint.{Footprint}

-- how many flags of variables there are
abbrev pub variable_flags : ℕ
variable_flags = 64

-- the flag of the variable x, by its number modulo their count, is off
abbrev pub FreeVariable : Footprint → ℕ → Type 0
FreeVariable m x = get_or m.variables (x % variable_flags) false ≡ false

-- the flag of the array t is off
abbrev pub FreeArray : Footprint → ℕ → Type 0
FreeArray m t = (t < most_arrays) × (get_or m.arrays t false ≡ false)

-- no variable whose flag is off stands in the conjunct, and no array whose flag is off is loaded from in it, whatever its length
pub record Covers (m : Footprint) (e : Conj) : Type 0 where
  pub variables : (x : ℕ) → FreeVariable m x → some (is_var x) e ≡ false
  pub arrays : (t k : ℕ) → FreeArray m t → some (is_load_lem t k) e ≡ false

-- the same of every conjunct of a set
abbrev pub CoversSet : Footprint → Conjuncts → Type 0
CoversSet m S = All (Covers m) S

-- a flag that is off in n is off in m
pub record Extends (m n : Footprint) : Type 0 where
  pub variables : (x : ℕ) → FreeVariable n x → FreeVariable m x
  pub arrays : (t : ℕ) → FreeArray n t → FreeArray m t

-- the words have the code table, and the labels from p up to q are some of it
pub record Labels (s : List ℕ) (p q : ℕ) : Type 0 where
  pub table : table_words ≤ length s
  pub rising : p ≤ q
  pub most : q ≤ most_rows

-- the words have the region at b, and the flags cover its set
pub record CoversRegion (m : Footprint) (s : List ℕ) (b : ℕ) : Type 0 where
  pub there : b + region_words ≤ length s
  pub covers : CoversSet m (set_of s b)

-- ---- what statements bring

-- the flag of the variable x is on
abbrev pub FlagsVariable : Footprint → ℕ → Type 0
FlagsVariable m x = FreeVariable m x → ⊥

-- the flag of the array t, if it has one, is on
abbrev pub FlagsArray : Footprint → ℕ → Type 0
FlagsArray m t = FreeArray m t → ⊥

-- the flags of what the right side speaks of are on
abbrev pub FlagsRight : Footprint → Right → Type 0
FlagsRight m (number i) = Unit {0}
FlagsRight m (copy b) = FlagsVariable m b
FlagsRight m (calc o b c) = FlagsVariable m b × FlagsVariable m c
FlagsRight m (change b u) = FlagsVariable m b
FlagsRight m (read f) = Unit {0}
FlagsRight m (load t k i) = FlagsArray m t

-- the flags of what the statement's rule may bring into a set are on
abbrev pub Flags : Footprint → Stmt → Type 0
Flags m (plain (assign a ty r)) = FlagsRight m r
Flags m (plain (store t k i x ty)) = FlagsVariable m x
Flags m (plain (site a ty)) = Unit {0}
Flags m (if v) = Unit {0}
Flags m else = Unit {0}
Flags m end = Unit {0}
Flags m (while v) = Unit {0}

-- the same of every statement on the labels from p up to q
abbrev pub FlagsAll : Footprint → (ℕ → Stmt) → ℕ → ℕ → Type 0
FlagsAll m stmt p q = (i : ℕ) → p ≤ i → i < q → Flags m (stmt i)

-- flags r for a set S that the walk of these statements made of one that m covers: they cover it, or they are those of m with what the
-- statements may bring
abbrev pub Follows : (m r : Footprint) → (ℕ → Stmt) → (p q : ℕ) → Conjuncts → Type 0
Follows m r stmt p q S = CoversSet r S ⊎ (Extends m r × FlagsAll r stmt p q)

-- ---- what statements change

-- the flag of what the statement changes, if it changes anything, is off
abbrev pub Spares : Footprint → Stmt → Type 0
Spares m (plain (assign a ty r)) = FreeVariable m a
Spares m (plain (store t k i x ty)) = FreeArray m t
Spares m (plain (site a ty)) = Unit {0}
Spares m (if v) = Unit {0}
Spares m else = Unit {0}
Spares m end = Unit {0}
Spares m (while v) = Unit {0}

-- the flags spare every statement on the labels from p up to q
abbrev pub SparedAll : Footprint → (ℕ → Stmt) → ℕ → ℕ → Type 0
SparedAll m stmt p q = (i : ℕ) → p ≤ i → i < q → Spares m (stmt i)

-- the same, and each of these statements is plain
pub record PlainAndSpared (m : Footprint) (stmt : ℕ → Stmt) (p q : ℕ) : Type 0 where
  pub each-plain : (i : ℕ) → p ≤ i → i < q → (x : Instr) × (stmt i ≡ plain x)
  pub spared : SparedAll m stmt p q

-- so far back from r, but not past p
pub record BackTo (m : Footprint) (stmt : ℕ → Stmt) (p r l : ℕ) : Type 0 where
  pub least : p ≤ l
  pub most : l ≤ r
  pub passed : PlainAndSpared m stmt l r
