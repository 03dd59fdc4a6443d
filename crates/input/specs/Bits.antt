-- What a number of bits holds, by its limits, and the readings of a field's part (document 02, card 5).
use Rattle.std.specs.Prelude.{◌≡◌, cond, List, ℕ, ◌-◌, ◌/◌, ◌^◌, ℤ, length}
use Rattle.arith.specs.Types.{signed}
use Rattle.model.specs.Bytes.{entries}
use Rattle.model.specs.Input.{width, reading_at_lem}
use Rattle.input.specs.declared.Limits.{Limits}

-- how far so many bits go below 0, and how far above: two's complement for a signed type
unfoldable pub bits_depth : (ty bits : ℕ) → ℕ
bits_depth ty bits = cond (signed ty) (2 ^ (bits - 1)) 0

unfoldable pub bits_height : (ty bits : ℕ) → ℕ
bits_height ty bits = cond (signed ty) (2 ^ (bits - 1) - 1) (2 ^ bits - 1)

-- these are the limits
pub record LimitsAre (ty bits : ℕ) (l : Limits) : Type 0 where
  pub depth : l.low ≡ bits_depth ty bits
  pub height : l.high ≡ bits_height ty bits

-- the readings of a field's part
abbrev pub part_readings : ℕ → List ℕ → List ℤ
part_readings ty part = entries (reading_at_lem ty) (width ty) part 0 (length part / width ty)
