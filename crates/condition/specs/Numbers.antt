-- Numbers of the condition file beside the model's sizes: codes of types and kinds of nodes, and the cells of the reader's stack.
use Rattle.std.specs.Prelude.{ℕ}

abbrev pub type_codes : ℕ
type_codes = 8

-- ---- kinds of nodes: constants and readings, four operations, conversions

abbrev pub sum_kind : ℕ
sum_kind = 2

abbrev pub conversion_kind : ℕ
conversion_kind = 6

-- how many kinds a file may hold
abbrev pub file_kinds : ℕ
file_kinds = 7

-- ---- the reader

-- cells for the types of the values that are worked out, not fewer than the longest conjunct has nodes
abbrev pub stack_cells : ℕ
stack_cells = 128
