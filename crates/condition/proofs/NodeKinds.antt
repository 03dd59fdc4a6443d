-- A case for each kind of a node: 0 a constant, 1 a reading, 2 to 5 the operations, 6 a conversion, and no kind from 7 on.
use Prim.Native.Nat.{ℕ, zero, suc, ◌≤◌, ◌<◌}
use native.Mathlib.Omega.{arith}

-- what is read as a node: from 6 on a conversion
pub by_node-kind : (P : ℕ → Type 0) → P 0 → P 1 → P 2 → P 3 → P 4 → P 5 → ((k : ℕ) → P (suc (suc (suc (suc (suc (suc k))))))) → (k : ℕ) → P k
by_node-kind P p0 p1 p2 p3 p4 p5 on zero = p0
by_node-kind P p0 p1 p2 p3 p4 p5 on (suc zero) = p1
by_node-kind P p0 p1 p2 p3 p4 p5 on (suc (suc zero)) = p2
by_node-kind P p0 p1 p2 p3 p4 p5 on (suc (suc (suc zero))) = p3
by_node-kind P p0 p1 p2 p3 p4 p5 on (suc (suc (suc (suc zero)))) = p4
by_node-kind P p0 p1 p2 p3 p4 p5 on (suc (suc (suc (suc (suc zero))))) = p5
by_node-kind P p0 p1 p2 p3 p4 p5 on (suc (suc (suc (suc (suc (suc k)))))) = on k

-- what has the form of a node: none from 7 on
pub by_node-form : (P : ℕ → Type 0) → P 0 → P 1 → P 2 → P 3 → P 4 → P 5 → P 6 → ((k : ℕ) → P (suc (suc (suc (suc (suc (suc (suc k))))))))
    → (k : ℕ) → P k
by_node-form P p0 p1 p2 p3 p4 p5 p6 on = by_node-kind P p0 p1 p2 p3 p4 p5 from_six
  where
    from_six : (k : ℕ) → P (suc (suc (suc (suc (suc (suc k))))))
    from_six zero = p6
    from_six (suc k) = on k

module _ (P : ℕ → Type 0) where
  -- the operations alone
  pub by_operation : P 2 → P 3 → P 4 → P 5 → (k : ℕ) → 2 ≤ k → k < 6 → P k
  by_operation p2 p3 p4 p5 =
      by_node-kind (λ k. 2 ≤ k → k < 6 → P k) (λ h l. absurd (omega arith)) (λ h l. absurd (omega arith)) (λ h l. p2) (λ h l. p3)
      (λ h l. p4) (λ h l. p5)
      (λ k h l. absurd (omega arith))

  -- the operations and the conversion
  pub by_step : P 2 → P 3 → P 4 → P 5 → P 6 → (k : ℕ) → 2 ≤ k → k < 7 → P k
  by_step p2 p3 p4 p5 p6 =
      by_node-form (λ k. 2 ≤ k → k < 7 → P k) (λ h l. absurd (omega arith)) (λ h l. absurd (omega arith)) (λ h l. p2) (λ h l. p3)
      (λ h l. p4) (λ h l. p5)
      (λ h l. p6) (λ k h l. absurd (omega arith))

  -- and what else is read as a conversion
  pub by_step-kind : P 2 → P 3 → P 4 → P 5 → ((k : ℕ) → P (suc (suc (suc (suc (suc (suc k))))))) → (k : ℕ) → 2 ≤ k → P k
  by_step-kind p2 p3 p4 p5 on =
      by_node-kind (λ k. 2 ≤ k → P k) (λ h. absurd (omega arith)) (λ h. absurd (omega arith)) (λ h. p2) (λ h. p3) (λ h. p4) (λ h. p5) (λ k h. on k)

  -- what is read as a conversion
  pub by_conversion : ((k : ℕ) → P (suc (suc (suc (suc (suc (suc k))))))) → (k : ℕ) → 6 ≤ k → P k
  by_conversion on =
      by_node-kind (λ k. 6 ≤ k → P k) (λ h. absurd (omega arith)) (λ h. absurd (omega arith)) (λ h. absurd (omega arith)) (λ h. absurd (omega arith))
      (λ h. absurd (omega arith)) (λ h. absurd (omega arith)) (λ k h. on k)

  -- what has no form
  pub by_none : ((k : ℕ) → P (suc (suc (suc (suc (suc (suc (suc k)))))))) → (k : ℕ) → 7 ≤ k → P k
  by_none on =
      by_node-form (λ k. 7 ≤ k → P k) (λ h. absurd (omega arith)) (λ h. absurd (omega arith)) (λ h. absurd (omega arith)) (λ h. absurd (omega arith))
      (λ h. absurd (omega arith)) (λ h. absurd (omega arith)) (λ h. absurd (omega arith)) (λ k h. on k)
