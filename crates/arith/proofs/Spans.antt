-- A type of b bits has 2 ^ b values, and b is at most 64.
use Rattle.std.proofs.Common.{◌≡◌, ℕ, ◌+◌, ◌-◌, ◌*◌, ◌%◌, ◌^◌, ◌<◌, ◌≤◌, Bool, true, false, cond, arith, pow_pos, pow_mono, pow-add}
use lib.Pow.{mod-mod-pow}
use Rattle.arith.specs.Types.{bits, signed, depth, height}

some_bits : (t : ℕ) → 0 < bits t
unfolding bits
some_bits t = omega (arith, pow_pos (t % 4))

pub bits_le : (t : ℕ) → bits t ≤ 64
unfolding bits
bits_le t = omega (arith, pow_mono {i = t % 4} {j = 3} (omega arith))

pub span : (t : ℕ) → depth t + height t + 1 ≡ 2 ^ bits t
unfolding depth height
span t = go (signed t)
  where
    e : bits t - 1 + 1 ≡ bits t
    e = omega (arith, some_bits t)

    double : 2 ^ bits t ≡ 2 ^ (bits t - 1) * 2
    double = rw e at (pow-add 2 (bits t - 1) 1)

    go : (s : Bool) → cond s (2 ^ (bits t - 1)) 0 + cond s (2 ^ (bits t - 1) - 1) (2 ^ bits t - 1) + 1 ≡ 2 ^ bits t
    go true = omega (arith, double, pow_pos (bits t - 1))
    go false = omega (arith, pow_pos (bits t))

pub span_le : (t : ℕ) → 2 ^ bits t ≤ 2 ^ 64
span_le t = pow_mono (bits_le t)

-- the type's lowest bits of a number are those of its lowest 64
pub low_bits : (t m : ℕ) → m % 2 ^ 64 % 2 ^ bits t ≡ m % 2 ^ bits t
low_bits t m =
    let e : 64 - bits t + bits t ≡ 64 = omega (arith, bits_le t) in
    rw e at (mod-mod-pow m (64 - bits t) (bits t))
