-- A single statement or block by the statement at its first label: the parts that a walk goes into, and its own walk.
use mathlib.Core.Bool.{Bool}
use mathlib.Core.Path.{◌≡◌, sym, ap, subst, ◌∙◌}
use Prim.Native.Nat.{ℕ, zero, suc, ◌+◌, ◌-◌, ◌≤◌, ◌<◌}
use native.Mathlib.Omega.{arith}
use native.Mathlib.Numerals.{add-one}
use Rattle.model.specs.Code.{Instr, Code, done, step, branch, loop, Stmt, plain, if, else, end, while}
use Rattle.model.specs.Conjunct.{Conjuncts}
use Rattle.model.specs.Walk.{back, joined}
use Rattle.model.specs.Nesting.{Nested}
use Rattle.model.specs.Placement.{Laid}
use Rattle.model.proofs.Walks.Laid.{laid_le}
use Rattle.walk.specs.Light.{walk_by, loop_by}
use Rattle.walk.specs.Turn.{Sole}
use Rattle.walk.proofs.Ways.{by_step, by_branch, by_loop}
use Rattle.walk.proofs.Unique.{laid_unique, plain-if, plain-while, if-while, same-plain, plain-else, plain_end, if-else, if-end, while-else, while-end}

module _ (stmt : ℕ → Stmt) (mate : ℕ → ℕ) where
  -- an if on the labels from p up to q: its branches
  pub record Branching (depth p q : ℕ) : Type 0 where
    pub first : Code
    pub other : Code
    pub first-lies : Laid stmt mate first (p + 1) (mate p)
    pub other-lies : Laid stmt mate other (mate p + 1) (q - 1)
    pub first-nested : Nested (depth - 1) first
    pub other-nested : Nested (depth - 1) other
    pub deep : 1 ≤ depth
    pub some : p < q
    pub walked : (light : Bool) (d : Code) (S : Conjuncts) → Laid stmt mate d p q
        → walk_by light d S ≡ joined (walk_by light first) (walk_by light other) S

  -- a while on the labels from p up to q: its body
  pub record Looping (depth p q : ℕ) : Type 0 where
    pub body : Code
    pub lies : Laid stmt mate body (p + 1) (q - 1)
    pub nested : Nested (depth - 1) body
    pub deep : 1 ≤ depth
    pub some : p < q
    pub walked : (light : Bool) (d : Code) (S : Conjuncts) → Laid stmt mate d p q → walk_by light d S ≡ loop_by light body S

  -- the statement at the first label of a piece is an if, a while or plain
  pub begins : (c : Code) (p q : ℕ) → Laid stmt mate c p q → Sole c → (stmt p ≡ else → ⊥) × (stmt p ≡ end → ⊥)
  begins done p q h s = absurd s
  begins (step l x rest) p q h s = (λ e. plain-else (stmt p) x h.1 e, λ e. plain_end (stmt p) x h.1 e)
  begins (branch l v y n rest) p q h s = (λ e. if-else (stmt p) v h.1.2.is-if e, λ e. if-end (stmt p) v h.1.2.is-if e)
  begins (loop l v body rest) p q h s = (λ e. while-else (stmt p) v h.1.1.is-while e, λ e. while-end (stmt p) v h.1.1.is-while e)

  -- nothing after it
  rest-none : (rest : Code) (p q : ℕ) → Laid stmt mate rest p q → rest ≡ done → p ≡ q
  rest-none rest p q h e = subst (λ x. Laid stmt mate x p q) e h

  pub single-some : (c : Code) (p q : ℕ) → Laid stmt mate c p q → Sole c → p < q
  single-some done p q h s = absurd s
  single-some (step l x rest) p q h s = laid_le stmt mate rest (suc p) q h.2
  single-some (branch l v y n rest) p q h s =
      let k = h.1 in
      omega (arith, laid_le stmt mate y (suc p) k.0 k.3, laid_le stmt mate n (suc k.0) k.1 k.4, laid_le stmt mate rest (suc k.1) q k.5)
  single-some (loop l v body rest) p q h s =
      let k = h.1 in
      omega (arith, laid_le stmt mate body (suc p) k.0 k.2, laid_le stmt mate rest (suc k.0) q k.3)

  pub single_step : (c : Code) (p q : ℕ) → Laid stmt mate c p q → Sole c → (x : Instr) → stmt p ≡ plain x → (light : Bool) (d : Code) (S : Conjuncts)
      → Laid stmt mate d p q → walk_by light d S ≡ back p x S
  single_step done p q h s x e light d S k = absurd s
  single_step (step l y rest) p q h s x e light d S k =
      let a = laid_unique stmt mate d (step l y rest) p q k h in
      let b : step l y rest ≡ step p x done = λ i. step (sym h.0 i) (same-plain (stmt p) y x h.1 e i) (s i) in
      ap (λ z. walk_by light z S) (a ∙ b) ∙ by_step light p x S
  single_step (branch l v y n rest) p q h s x e light d S k = absurd (plain-if (stmt p) x v e h.1.2.is-if)
  single_step (loop l v body rest) p q h s x e light d S k = absurd (plain-while (stmt p) x v e h.1.1.is-while)

  pub single-if : (depth : ℕ) (c : Code) (p q : ℕ) → Laid stmt mate c p q → Nested depth c → Sole c → (v : ℕ) → stmt p ≡ if v → Branching depth p q
  single-if depth done p q h n s v e = absurd s
  single-if depth (step l x rest) p q h n s v e = absurd (plain-if (stmt p) x v h.1 e)
  single-if zero (branch l w y o rest) p q h n s v e = absurd n
  single-if (suc d) (branch l w y o rest) p q h n s v e =
      let k = h.1 in
      let m = k.0 in
      let f = k.1 in
      let at = k.2 in
      let last = rest-none rest (suc f) q k.5 s in
      let end' : q - 1 ≡ f = omega arith in
      let below : suc d - 1 ≡ d = omega arith in
      record {
        first = y;
        other = o;
        first-lies = subst (λ z. Laid stmt mate y z (mate p)) (sym (add-one p)) (subst (Laid stmt mate y (suc p)) (sym at.to_else) k.3);
        other-lies = subst (λ z. Laid stmt mate o z (q - 1)) (sym (add-one (mate p) ∙ ap suc at.to_else)) (subst (Laid stmt mate o (suc m)) (sym end') k.4);
        first-nested = subst (λ z. Nested z y) (sym below) n.0;
        other-nested = subst (λ z. Nested z o) (sym below) n.1;
        deep = omega arith;
        some = single-some (branch l w y o rest) p q h s;
        walked = λ light g S z.
            ap (λ a. walk_by light a S) (laid_unique stmt mate g (branch l w y o rest) p q z h ∙ ap (branch l w y o) s) ∙ by_branch light l w y o S;
      }
  single-if depth (loop l w body rest) p q h n s v e = absurd (if-while (stmt p) v w e h.1.1.is-while)

  pub single-while : (depth : ℕ) (c : Code) (p q : ℕ) → Laid stmt mate c p q → Nested depth c → Sole c → (v : ℕ) → stmt p ≡ while v → Looping depth p q
  single-while depth done p q h n s v e = absurd s
  single-while depth (step l x rest) p q h n s v e = absurd (plain-while (stmt p) x v h.1 e)
  single-while depth (branch l w y o rest) p q h n s v e = absurd (if-while (stmt p) w v h.1.2.is-if e)
  single-while zero (loop l w body rest) p q h n s v e = absurd n
  single-while (suc d) (loop l w body rest) p q h n s v e =
      let k = h.1 in
      let last = rest-none rest (suc k.0) q k.3 s in
      let end' : q - 1 ≡ k.0 = omega arith in
      let below : suc d - 1 ≡ d = omega arith in
      record {
        body = body;
        lies = subst (λ z. Laid stmt mate body z (q - 1)) (sym (add-one p)) (subst (Laid stmt mate body (suc p)) (sym end') k.2);
        nested = subst (λ z. Nested z body) (sym below) n.0;
        deep = omega arith;
        some = single-some (loop l w body rest) p q h s;
        walked = λ light g S z.
            ap (λ a. walk_by light a S) (laid_unique stmt mate g (loop l w body rest) p q z h ∙ ap (loop l w body) s) ∙ by_loop light l w body S;
      }
