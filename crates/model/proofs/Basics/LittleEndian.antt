-- The bytes of a number, read back, give the number.
use mathlib.Core.Path.{◌≡◌, ◌∙◌, ap₂}
use mathlib.Core.List.{List, ◌++◌}
use Prim.Native.Nat.{ℕ, ◌+◌, ◌*◌, ◌%◌, ◌/◌}
use native.Mathlib.Omega.{arith}
use Rattle.model.specs.Bytes.{u16_at, u32_at, u64_at, bytes2, bytes4, bytes8}

pub two_back : (v : ℕ) → v % 256 + 256 * (v / 256) ≡ v
two_back v = omega arith

pub four_back : (v : ℕ) → v % 256 + 256 * (v / 256 % 256 + 256 * (v / 65536 % 256 + 256 * (v / 16777216))) ≡ v
four_back v = omega arith

halves_back : (v : ℕ) → v % 4294967296 + 4294967296 * (v / 4294967296) ≡ v
halves_back v = omega arith

pub u16_bytes2 : (v : ℕ) (s : List ℕ) → u16_at (bytes2 v ++ s) 0 ≡ v
unfolding bytes2
u16_bytes2 v s = two_back v

pub u32_bytes4 : (v : ℕ) (s : List ℕ) → u32_at (bytes4 v ++ s) 0 ≡ v
unfolding bytes4
u32_bytes4 v s = four_back v

pub u64_bytes8 : (v : ℕ) (s : List ℕ) → u64_at (bytes8 v ++ s) 0 ≡ v
unfolding bytes8 bytes4
u64_bytes8 v s = ap₂ (λ a b. a + 4294967296 * b) (four_back (v % 4294967296)) (four_back (v / 4294967296)) ∙ halves_back v
