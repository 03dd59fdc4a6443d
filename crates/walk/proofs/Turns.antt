-- One statement or block of a piece of program, walked from its end: the laws of each kind of turn.
use mathlib.Core.Bool.{Bool}
use mathlib.Core.Path.{◌≡◌, refl, sym, ap, subst, ◌∙◌}
use Prim.Native.Nat.{ℕ, zero, suc, ◌+◌, ◌-◌, ◌≤◌, ◌<◌}
use native.Mathlib.Omega.{arith}
use Rattle.model.specs.Code.{Instr, Code, done, step, branch, loop, Stmt, plain, end}
use Rattle.model.specs.Conjunct.{Conjuncts}
use Rattle.model.specs.Refusals.{ok, refused, ◌>>=◌}
use Rattle.model.specs.Run.{append}
use Rattle.model.specs.Nesting.{Nested}
use Rattle.model.specs.Placement.{IfAt, WhileAt, Laid}
use Rattle.model.specs.TidySets.{Tidy}
use Rattle.model.proofs.Walks.Depth.{nested-append}
use Rattle.model.proofs.Walks.Laid.{laid_le, Last, last-plain, last-if, last-while, laid-last}
use Rattle.model.proofs.Basics.Results.{gives_ok}
use Rattle.footprint.specs.Footprints.{CoversSet, SparedAll, PlainAndSpared}
use Rattle.footprint.specs.declared.Footprint.{Footprint}
use Rattle.footprint.proofs.Skipped.{quiet-touches}
use Rattle.walk.specs.Light.{walk_by}
use Rattle.walk.specs.Turn.{first_of, Sole}
use Rattle.walk.proofs.Entered.{single-some}
use Rattle.walk.proofs.Unique.{laid_unique}
use Rattle.walk.proofs.Ways.{by_done, by_append, by_skip}
use Rattle.walk.proofs.Kept.{by_tidy}

module _ (light : Bool) (stmt : ℕ → Stmt) (mate : ℕ → ℕ) where
  -- ---- the last statement or block

  -- what stands before the last statement or block of a piece, and that one, from l on
  pub record Parted (c : Code) (p l r : ℕ) : Type 0 where
    pub front : Code
    pub last : Code
    pub whole : c ≡ append front last
    pub front-lies : Laid stmt mate front p l
    pub last-lies : Laid stmt mate last l r
    pub sole : Sole last

  first_plain : (s : Stmt) (x : Instr) (i : ℕ) → s ≡ plain x → first_of s mate i ≡ i
  first_plain s x i e = rw e

  first-end : (s : Stmt) (i : ℕ) → s ≡ end → first_of s mate i ≡ mate i
  first-end s i e = rw e

  parted : (c : Code) (p l r : ℕ) → Laid stmt mate c p r → p < r → l ≡ first_of (stmt (r - 1)) mate (r - 1) → Parted c p l r
  parted c p l r h b e = go (laid-last stmt mate c p r h b)
    where
      go : Last stmt mate c p r → Parted c p l r
      go (last-plain d i x s w g k) =
          let n : r - 1 ≡ i = omega arith in
          let a : l ≡ i = e ∙ ap (λ j. first_of (stmt j) mate j) n ∙ first_plain (stmt i) x i g in
          record {
            front = d;
            last = step i x done;
            whole = w;
            front-lies = subst (Laid stmt mate d p) (sym a) k;
            last-lies = (a, subst (λ j. stmt j ≡ plain x) (sym a) g, subst (λ j. suc j ≡ r) (sym a) (sym s));
            sole = refl;
          }
      go (last-if d i v y n m f s w at k₁ k₂ k₃) =
          let j : r - 1 ≡ f = omega arith in
          let a : l ≡ i = e ∙ ap (λ z. first_of (stmt z) mate z) j ∙ first-end (stmt f) f at.is-end ∙ at.to_if in
          record {
            front = d;
            last = branch i v y n done;
            whole = w;
            front-lies = subst (Laid stmt mate d p) (sym a) k₁;
            last-lies = (a, (m, f, subst (λ z. IfAt stmt mate z v m f) (sym a) at, subst (λ z. Laid stmt mate y (suc z) m) (sym a) k₂, k₃, sym s));
            sole = refl;
          }
      go (last-while d i v body f s w at k₁ k₂) =
          let j : r - 1 ≡ f = omega arith in
          let a : l ≡ i = e ∙ ap (λ z. first_of (stmt z) mate z) j ∙ first-end (stmt f) f at.is-end ∙ at.to_while in
          record {
            front = d;
            last = loop i v body done;
            whole = w;
            front-lies = subst (Laid stmt mate d p) (sym a) k₁;
            last-lies = (a, (f, subst (λ z. WhileAt stmt mate z v f) (sym a) at, subst (λ z. Laid stmt mate body (suc z) f) (sym a) k₂, sym s));
            sole = refl;
          }

  -- ---- the walk so far

  -- the walk of the piece on the labels from p up to q on S₀ is that of what is left, up to r, on S
  pub record Stands (depth p q r : ℕ) (S₀ S : Conjuncts) : Type 0 where
    pub left : Code
    pub lies : Laid stmt mate left p r
    pub nested : Nested depth left
    pub same : (c : Code) → Laid stmt mate c p q → walk_by light c S₀ ≡ walk_by light left S
    pub tidy : Tidy S

  pub stands-first : (depth p q : ℕ) (S : Conjuncts) (c : Code) → Laid stmt mate c p q → Nested depth c → Tidy S → Stands depth p q q S S
  stands-first depth p q S c h n t = record {
    left = c;
    lies = h;
    nested = n;
    same = λ d k. ap (λ x. walk_by light x S) (laid_unique stmt mate d c p q k h);
    tidy = t;
  }

  pub stands-done : (depth p q r : ℕ) (S₀ S : Conjuncts) → Stands depth p q r S₀ S → r ≤ p → (c : Code) → Laid stmt mate c p q → walk_by light c S₀ ≡ ok S
  stands-done depth p q r S₀ S h b c k =
      let e : p ≡ r = omega (arith, laid_le stmt mate h.left p r h.lies) in
      h.same c k ∙ ap (λ x. walk_by light x S) (laid_unique stmt mate h.left done p r h.lies e) ∙ by_done light S

  module _ (depth p q l r : ℕ) (S₀ S : Conjuncts) (h : Stands depth p q r S₀ S) (b : p < r) (first : l ≡ first_of (stmt (r - 1)) mate (r - 1)) where
    parts : Parted h.left p l r
    parts = parted h.left p l r h.lies b first

    nested-parts : Nested depth parts.front × Nested depth parts.last
    nested-parts = nested-append depth parts.front parts.last (subst (Nested depth) parts.whole h.nested)

    -- the last statement or block, which is due
    pub stands-due : (w : Code) × Laid stmt mate w l r × Nested depth w × Sole w
    stands-due = (parts.last, parts.last-lies, nested-parts.1, parts.sole)

    pub stands_bounds : (p ≤ l) × (l < r)
    stands_bounds = (laid_le stmt mate parts.front p l parts.front-lies, single-some stmt mate parts.last l r parts.last-lies parts.sole)

    left-walk : walk_by light h.left S ≡ (walk_by light parts.last S >>= walk_by light parts.front)
    left-walk = ap (λ x. walk_by light x S) parts.whole ∙ by_append light parts.front parts.last S

    pub stands-turned : (S' : Conjuncts) → ((w : Code) → Laid stmt mate w l r → walk_by light w S ≡ ok S') → Stands depth p q l S₀ S'
    stands-turned S' k =
        let e = k parts.last parts.last-lies in
        record {
          left = parts.front;
          lies = parts.front-lies;
          nested = nested-parts.0;
          same = λ c g. h.same c g ∙ left-walk ∙ ap (◌>>= walk_by light parts.front) e;
          tidy = gives_ok Tidy (walk_by light parts.last S) S' e (by_tidy light parts.last S h.tidy);
        }

    pub stands-refused : (n : ℕ) → ((w : Code) → Laid stmt mate w l r → walk_by light w S ≡ refused n) → (c : Code) → Laid stmt mate c p q → walk_by light c S₀ ≡ refused n
    stands-refused n k c g = h.same c g ∙ left-walk ∙ ap (◌>>= walk_by light parts.front) (k parts.last parts.last-lies)

    -- it changes nothing that the set speaks of
    pub stands-passed : (m : Footprint) → CoversSet m S → SparedAll m stmt l r → Stands depth p q l S₀ S
    stands-passed m s k = stands-turned S (λ w g. by_skip light w S (quiet-touches m S s stmt mate w l r g k) h.tidy)

  -- the statements from l on, one by one from the last
  pub stands-over : (depth p q l r : ℕ) (S₀ S : Conjuncts) → Stands depth p q r S₀ S → (m : Footprint) → CoversSet m S → p ≤ l → l ≤ r → PlainAndSpared m stmt l r → Stands depth p q l S₀ S
  stands-over depth p q l r S₀ S h m s b e k = go (r - l) r (omega arith) h k
    where
      go : (n i : ℕ) → i ≡ n + l → Stands depth p q i S₀ S → PlainAndSpared m stmt l i → Stands depth p q l S₀ S
      go zero i a g w = let e : i ≡ l = omega arith in subst (λ j. Stands depth p q j S₀ S) e g
      go (suc n) i a g w =
          let x = w.each-plain (i - 1) (omega arith) (omega arith) in
          let last = stands-passed depth p q (i - 1) i S₀ S g (omega arith) (sym (first_plain (stmt (i - 1)) x.0 (i - 1) x.1)) m s (λ j c d. w.spared j (omega arith) d) in
          go n (i - 1) (omega arith) last (record { each-plain = λ j c d. w.each-plain j c (omega arith); spared = λ j c d. w.spared j c (omega arith) })
