-- Blocks by the labels where they begin and end.
use Rattle.std.specs.Prelude.{ℕ, ◌≤◌, ◌<◌, Option, Some, None}
use Rattle.model.specs.Code.{Stmt, plain, if, else, end, while}

-- the end of the block that a statement at s begins: an if's mate is its else, and that one's mate the end; 0 where none begins
abbrev pub block_end_lem : Stmt → (ℕ → ℕ) → ℕ → ℕ
block_end_lem (plain x) mate s = 0
block_end_lem (if v) mate s = mate (mate s)
block_end_lem else mate s = 0
block_end_lem end mate s = 0
block_end_lem (while v) mate s = mate s

-- no block that begins at a label from a on, before i, ends after i
abbrev pub NoneFrom : (ℕ → Stmt) → (ℕ → ℕ) → ℕ → ℕ → Type 0
NoneFrom stmt mate i a = (s : ℕ) → a ≤ s → s < i → block_end_lem (stmt s) mate s ≤ i

-- the last block that begins before i and ends after it, or there is none
abbrev pub Innermost : (ℕ → Stmt) → (ℕ → ℕ) → ℕ → Option ℕ → Type 0
Innermost stmt mate i (Some r) = (r < i) × (i < block_end_lem (stmt r) mate r) × ((s : ℕ) → r < s → s < i → block_end_lem (stmt s) mate s ≤ i)
Innermost stmt mate i None = NoneFrom stmt mate i 0
