-- The limit that a choice file asks for: document 01, "Sheet, gate and run".
use Rattle.std.specs.Prelude.{cond, List, ℕ, eqb}
use Rattle.model.specs.Bytes.{u32_at}

-- the bytes of the limit
abbrev pub limit_size : ℕ
limit_size = 4

-- the limit that 0 stands for
abbrev pub usual_limit : ℕ
usual_limit = 10000

-- the first bytes, of which missing ones count as 0
unfoldable pub limit_in : List ℕ → ℕ
limit_in s = cond (eqb (u32_at s 0) 0) usual_limit (u32_at s 0)
