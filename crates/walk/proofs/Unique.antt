-- Two pieces of program that lie on the same labels are equal.
use mathlib.Core.Path.{◌≡◌, refl, sym, ap, subst, ◌∙◌}
use mathlib.Core.Bool.{true, false, true≢false}
use Prim.Native.Nat.{ℕ, suc, ◌≤◌}
use native.Mathlib.Omega.{arith}
use Rattle.model.specs.Code.{Instr, Code, done, step, branch, loop, Stmt, plain, if, else, end, while}
use Rattle.model.specs.Placement.{Laid}
use Rattle.model.proofs.Walks.Laid.{laid_le}

pub plain-if : (s : Stmt) (x : Instr) (v : ℕ) → s ≡ plain x → s ≡ if v → ⊥
plain-if s x v p q = let z : true ≡ false = cc in true≢false z

pub plain-while : (s : Stmt) (x : Instr) (v : ℕ) → s ≡ plain x → s ≡ while v → ⊥
plain-while s x v p q = let z : true ≡ false = cc in true≢false z

pub if-while : (s : Stmt) (u v : ℕ) → s ≡ if u → s ≡ while v → ⊥
if-while s u v p q = let z : true ≡ false = cc in true≢false z

pub plain-else : (s : Stmt) (x : Instr) → s ≡ plain x → s ≡ else → ⊥
plain-else s x p q = let z : true ≡ false = cc in true≢false z

pub plain_end : (s : Stmt) (x : Instr) → s ≡ plain x → s ≡ end → ⊥
plain_end s x p q = let z : true ≡ false = cc in true≢false z

pub if-else : (s : Stmt) (v : ℕ) → s ≡ if v → s ≡ else → ⊥
if-else s v p q = let z : true ≡ false = cc in true≢false z

pub if-end : (s : Stmt) (v : ℕ) → s ≡ if v → s ≡ end → ⊥
if-end s v p q = let z : true ≡ false = cc in true≢false z

pub while-else : (s : Stmt) (v : ℕ) → s ≡ while v → s ≡ else → ⊥
while-else s v p q = let z : true ≡ false = cc in true≢false z

pub while-end : (s : Stmt) (v : ℕ) → s ≡ while v → s ≡ end → ⊥
while-end s v p q = let z : true ≡ false = cc in true≢false z

pub same-plain : (s : Stmt) (x y : Instr) → s ≡ plain x → s ≡ plain y → x ≡ y
same-plain s x y p q = cc

same_if : (s : Stmt) (u v : ℕ) → s ≡ if u → s ≡ if v → u ≡ v
same_if s u v p q = cc

same-while : (s : Stmt) (u v : ℕ) → s ≡ while u → s ≡ while v → u ≡ v
same-while s u v p q = cc

module _ (stmt : ℕ → Stmt) (m : ℕ → ℕ) where
  -- a piece that lies on labels has none only where it is nothing
  laid-step : (l : ℕ) (x : Instr) (rest : Code) (p q : ℕ) → Laid stmt m (step l x rest) p q → suc p ≤ q
  laid-step l x rest p q h = laid_le stmt m rest (suc p) q h.2

  laid-branch : (l v : ℕ) (y n rest : Code) (p q : ℕ) → Laid stmt m (branch l v y n rest) p q → suc p ≤ q
  laid-branch l v y n rest p q h =
      let k = h.1 in
      omega (arith, laid_le stmt m y (suc p) k.0 k.3, laid_le stmt m n (suc k.0) k.1 k.4, laid_le stmt m rest (suc k.1) q k.5)

  laid-loop : (l v : ℕ) (body rest : Code) (p q : ℕ) → Laid stmt m (loop l v body rest) p q → suc p ≤ q
  laid-loop l v body rest p q h =
      let k = h.1 in
      omega (arith, laid_le stmt m body (suc p) k.0 k.2, laid_le stmt m rest (suc k.0) q k.3)

  pub laid_unique : (c d : Code) (p q : ℕ) → Laid stmt m c p q → Laid stmt m d p q → c ≡ d
  laid_unique done done p q h k = refl
  laid_unique done (step l x rest) p q h k = absurd (omega (arith, laid-step l x rest p q k))
  laid_unique done (branch l v y n rest) p q h k = absurd (omega (arith, laid-branch l v y n rest p q k))
  laid_unique done (loop l v body rest) p q h k = absurd (omega (arith, laid-loop l v body rest p q k))
  laid_unique (step l x rest) done p q h k = absurd (omega (arith, laid-step l x rest p q h))
  laid_unique (step l x rest) (step l' x' rest') p q h k =
      let a = laid_unique rest rest' (suc p) q h.2 k.2 in
      let b = same-plain (stmt p) x x' h.1 k.1 in
      let e = sym h.0 ∙ k.0 in
      λ i. step (e i) (b i) (a i)
  laid_unique (step l x rest) (branch l' v y n rest') p q h k = absurd (plain-if (stmt p) x v h.1 k.1.2.is-if)
  laid_unique (step l x rest) (loop l' v body rest') p q h k = absurd (plain-while (stmt p) x v h.1 k.1.1.is-while)
  laid_unique (branch l v y n rest) done p q h k = absurd (omega (arith, laid-branch l v y n rest p q h))
  laid_unique (branch l v y n rest) (step l' x rest') p q h k = absurd (plain-if (stmt p) x v k.1 h.1.2.is-if)
  laid_unique (branch l v y n rest) (branch l' v' y' n' rest') p q h k =
      let g = h.1 in
      let g' = k.1 in
      let i₁ = g.2 in
      let i₂ = g'.2 in
      let e : g'.0 ≡ g.0 = sym i₂.to_else ∙ i₁.to_else in
      let f : g'.1 ≡ g.1 = sym i₂.to_end ∙ ap m e ∙ i₁.to_end in
      let a = laid_unique y y' (suc p) g.0 g.3 (subst (Laid stmt m y' (suc p)) e g'.3) in
      let b = laid_unique n n' (suc g.0) g.1 g.4 (subst (λ z. Laid stmt m n' (suc z) g.1) e (subst (Laid stmt m n' (suc g'.0)) f g'.4)) in
      let r = laid_unique rest rest' (suc g.1) q g.5 (subst (λ z. Laid stmt m rest' (suc z) q) f g'.5) in
      let w = same_if (stmt p) v v' i₁.is-if i₂.is-if in
      let z = sym h.0 ∙ k.0 in
      λ i. branch (z i) (w i) (a i) (b i) (r i)
  laid_unique (branch l v y n rest) (loop l' v' body rest') p q h k = absurd (if-while (stmt p) v v' h.1.2.is-if k.1.1.is-while)
  laid_unique (loop l v body rest) done p q h k = absurd (omega (arith, laid-loop l v body rest p q h))
  laid_unique (loop l v body rest) (step l' x rest') p q h k = absurd (plain-while (stmt p) x v k.1 h.1.1.is-while)
  laid_unique (loop l v body rest) (branch l' v' y n rest') p q h k = absurd (if-while (stmt p) v' v k.1.2.is-if h.1.1.is-while)
  laid_unique (loop l v body rest) (loop l' v' body' rest') p q h k =
      let g = h.1 in
      let g' = k.1 in
      let f : g'.0 ≡ g.0 = sym g'.1.to_end ∙ g.1.to_end in
      let a = laid_unique body body' (suc p) g.0 g.2 (subst (Laid stmt m body' (suc p)) f g'.2) in
      let r = laid_unique rest rest' (suc g.0) q g.3 (subst (λ z. Laid stmt m rest' (suc z) q) f g'.3) in
      let w = same-while (stmt p) v v' g.1.is-while g'.1.is-while in
      let z = sym h.0 ∙ k.0 in
      λ i. loop (z i) (w i) (a i) (r i)
