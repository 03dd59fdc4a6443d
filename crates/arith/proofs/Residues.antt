-- Remainders by M: of a sum, of what takes a number to a multiple of M, and of a whole number.
use Rattle.std.proofs.Common.{◌≡◌, ℕ, zero, suc, ◌+◌, ◌-◌, ◌%◌, ◌<◌, ◌≤◌, Bool, true, false, ltb, pos, neg_ℤ, sym, refl, ap, ◌∙◌, mod-lt, mod-eq_of_lt, arith, ltb-false, ltb-true}
use native.Mathlib.Nat.{add-mod, add-mod_right, mod_self, zero-mod}
use Rattle.arith.specs.Step.{residue}

pub past_mod : (a M : ℕ) → M ≤ a → a < M + M → a % M ≡ a - M
past_mod a M h k =
    let e : a ≡ a - M + M = omega arith in
    ap (λ (n : ℕ). n % M) e ∙ add-mod_right (a - M) M ∙ mod-eq_of_lt {n = a - M} {m = M} (omega arith)

-- what takes s to a multiple of M has the remainder of M less that of s
pub opposite_mod : (M : ℕ) → 0 < M → (x s : ℕ) → (x + s) % M ≡ 0 → x % M ≡ (M - s % M) % M
opposite_mod M hM x s e = go (ltb (a + b) M) refl
  where
    a : ℕ
    a = x % M

    b : ℕ
    b = s % M

    ha : a < M
    ha = mod-lt x hM

    hb : b < M
    hb = mod-lt s hM

    sum : (a + b) % M ≡ 0
    sum = sym (add-mod x s M) ∙ e

    go : (t : Bool) → ltb (a + b) M ≡ t → a ≡ (M - b) % M
    go true t =
        let z : a + b ≡ 0 = sym (mod-eq_of_lt (ltb-true (a + b) M t)) ∙ sum in
        let q : M - b ≡ M = omega arith in
        rw (q, mod_self) (omega arith)
    go false t =
        let h = ltb-false (a + b) M t in
        let z : a + b - M ≡ 0 = sym (past_mod (a + b) M h (omega (arith, ha, hb))) ∙ sum in
        let q : M - b ≡ a = omega (arith, ha, hb) in
        rw q (sym (mod-eq_of_lt ha))

pub residue_neg : (M m : ℕ) → residue M (neg_ℤ (pos m)) ≡ (M - m % M) % M
residue_neg M zero = let e : M - 0 ≡ M = omega arith in simp (zero-mod, e, mod_self)
residue_neg M (suc m) = refl
