-- Byte strings: little-endian numbers, parts, and tables of offset and length. A byte string is a list of numbers.
use Rattle.std.specs.Prelude.{Bool, ◌&&◌, List, [], ◌∷◌, ◌++◌, ℕ, zero, suc, ◌+◌, ◌*◌, ◌/◌, ◌%◌, eqb, get_or, take, drop}
use Rattle.model.specs.Sizes.{pair_size_lem}

-- the byte at a place, 0 past the end
abbrev pub byte_at : List ℕ → ℕ → ℕ
byte_at s a = get_or s a 0

-- the number of 2 bytes from a on
abbrev pub u16_at : List ℕ → ℕ → ℕ
u16_at s a = byte_at s a + 256 * byte_at s (a + 1)

-- the number of 4 bytes from a on
abbrev pub u32_at : List ℕ → ℕ → ℕ
u32_at s a = byte_at s a + 256 * (byte_at s (a + 1) + 256 * (byte_at s (a + 2) + 256 * byte_at s (a + 3)))

-- the number of 8 bytes from a on
abbrev pub u64_at : List ℕ → ℕ → ℕ
u64_at s a = u32_at s a + 4294967296 * u32_at s (a + 4)

-- the 2 bytes of a number below 2^16
unfoldable pub bytes2 : ℕ → List ℕ
bytes2 v = v % 256 ∷ v / 256 ∷ []

-- the 4 bytes of a number below 2^32
unfoldable pub bytes4 : ℕ → List ℕ
bytes4 v = v % 256 ∷ v / 256 % 256 ∷ v / 65536 % 256 ∷ v / 16777216 ∷ []

-- the 8 bytes of a number below 2^64
unfoldable pub bytes8 : ℕ → List ℕ
bytes8 v = bytes4 (v % 4294967296) ++ bytes4 (v / 4294967296)

-- the n bytes from a on
abbrev pub part : List ℕ → ℕ → ℕ → List ℕ
part s a n = take n (drop a s)

-- a pair of offset and length
pub record Pair : Type 0 where
  pub offset : ℕ
  pub len : ℕ

-- the pair at a place: 4 bytes each
abbrev pub pair_at : List ℕ → ℕ → Pair
pair_at s a = record { offset = u32_at s a; len = u32_at s (a + 4) }

-- n entries of a size from a on
unfoldable pub entries : {A : Type 0} → (List ℕ → ℕ → A) → ℕ → List ℕ → ℕ → ℕ → List A
entries at size s a zero = []
entries at size s a (suc n) = at s a ∷ entries at size s (a + size) n

-- n pairs from a on
abbrev pub pairs_at : List ℕ → ℕ → ℕ → List Pair
pairs_at s a n = entries pair_at pair_size_lem s a n

-- the first part begins at `start`, each other where the one before ends, and the last ends at `end`
unfoldable pub chained : ℕ → List Pair → ℕ → Bool
chained start [] end = eqb start end
chained start (p ∷ ps) end = eqb p.offset start && chained (start + p.len) ps end
