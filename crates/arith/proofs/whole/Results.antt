-- What each operation's answer holds, from the numbers that the code computes; and a held number against a limit.
use Rattle.std.proofs.Common.{◌≡◌, ℕ, ◌^◌, ◌<◌, Bool, true, false, leb, ℤ, sym, ◌∙◌, mod-eq_of_lt, arith, leb-false, leb-true}
use borrow.Author.Tests.{lt-leb}
use Rattle.arith.specs.declared.whole.Whole.{Whole}
use Rattle.arith.specs.Whole.{of_sign, Holds}

-- a magnitude of at most 64 bits
pub small : (n : Bool) (m : ℕ) {z : ℤ} → m < 2 ^ 64 → z ≡ of_sign n m → Holds (record { neg = n; over = false; low = m }) z
small n m h e = record { mag = m; is = e; low = sym (mod-eq_of_lt h); over = sym (lt-leb (2 ^ 64) m h) }

-- ---- a held number against a type's limit

module _ (w : Whole) {z : ℤ} (h : Holds w z) (l : ℕ) (hl : l < 2 ^ 64) where
  pub far : w.over ≡ true → false ≡ leb h.mag l
  far e = sym (lt-leb h.mag l (omega (arith, leb-true (2 ^ 64) h.mag (sym h.over ∙ e))))

  pub near : w.over ≡ false → h.mag ≡ w.low
  near e = omega (arith, leb-false (2 ^ 64) h.mag (sym h.over ∙ e), h.low)
