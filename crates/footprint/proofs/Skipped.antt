-- A piece of program whose statements the flags of a set spare touches nothing of the set.
use mathlib.Core.Path.{◌≡◌, refl, sym, subst}
use mathlib.Core.Bool.{false}
use mathlib.Core.List.{[], ◌∷◌}
use Prim.Native.Nat.{ℕ, suc, ◌+◌, ◌-◌, ◌≤◌, ◌<◌}
use native.Mathlib.Decide.{dec_lt}
use native.Mathlib.Omega.{arith}
use Rattle.model.specs.Code.{Instr, assign, store, site, Code, done, step, branch, loop, Stmt, plain}
use Rattle.model.specs.Conjunct.{Conjuncts}
use Rattle.model.specs.Kinds.{Kind, a_number, a_copy, an_operation, a_conversion, a_read, a_load, a_store, a_site, an_if, an_else, an_end, a_while, a_procedure, a_call, no_kind_lem, kind_of}
use Rattle.model.specs.Placement.{Laid}
use Rattle.model.specs.Touch.{some, writes, touches}
use Rattle.model.proofs.Files.KindNumbers.{IsNumber, kind-number, operation-most}
use Rattle.model.proofs.Walks.Laid.{laid_le}
use Rattle.code_table.specs.declared.Decoded.{Decoded}
use Rattle.code_table.specs.Statements.{stmt_for, stmt_from}
use Rattle.footprint.specs.Footprints.{FreeVariable, FreeArray, CoversSet, Spares, SparedAll, PlainAndSpared}
use Rattle.footprint.specs.declared.Footprint.{Footprint}

-- ---- one statement, by its kind

module _ (m : Footprint) (d : Decoded) where
  -- it changes a variable
  pub spares-variable : d.kind < 9 → FreeVariable m d.a → Spares m (stmt_from d)
  unfolding stmt_from
  spares-variable h f = go (kind_of d.kind) (kind-number d.kind)
    where
      go : (k : Kind) → IsNumber k d.kind → Spares m (stmt_for k d)
      go a_number n = f
      go a_copy n = f
      go (an_operation o) n = f
      go a_conversion n = f
      go a_read n = f
      go a_load n = f
      go a_store n = absurd (omega arith)
      go a_site n = absurd (omega arith)
      go an_if n = absurd (omega arith)
      go an_else n = absurd (omega arith)
      go an_end n = absurd (omega arith)
      go a_while n = absurd (omega arith)
      go a_procedure n = absurd (omega arith)
      go a_call n = absurd (omega arith)
      go no_kind_lem n = absurd (omega arith)

  -- it changes an array
  pub spares-array : d.kind ≡ 9 → FreeArray m d.a → Spares m (stmt_from d)
  unfolding stmt_from kind_of
  spares-array e f = rw e f

  -- it changes nothing
  pub spares-nothing : 10 ≤ d.kind → Spares m (stmt_from d)
  unfolding stmt_from
  spares-nothing h = go (kind_of d.kind) (kind-number d.kind)
    where
      go : (k : Kind) → IsNumber k d.kind → Spares m (stmt_for k d)
      go a_number n = absurd (omega arith)
      go a_copy n = absurd (omega arith)
      go (an_operation o) n = absurd (omega (arith, operation-most o))
      go a_conversion n = absurd (omega arith)
      go a_read n = absurd (omega arith)
      go a_load n = absurd (omega arith)
      go a_store n = absurd (omega arith)
      go a_site n = tt
      go an_if n = tt
      go an_else n = tt
      go an_end n = tt
      go a_while n = tt
      go a_procedure n = tt
      go a_call n = tt
      go no_kind_lem n = tt

pub quiet_next : (m : Footprint) (stmt : ℕ → Stmt) (p i : ℕ) → SparedAll m stmt p i → Spares m (stmt i) → SparedAll m stmt p (i + 1)
quiet_next m stmt p i h k j l b = go (dec_lt j i)
  where
    go : Dec (j < i) → Spares m (stmt j)
    go (yes g) = h j l g
    go (no g) = let e : j ≡ i = omega arith in subst (λ x. Spares m (stmt x)) (sym e) k

-- ---- statements passed over, from the last one back

module _ (m : Footprint) (stmt : ℕ → Stmt) where
  pub passed_none : (r : ℕ) → PlainAndSpared m stmt r r
  passed_none r = record { each-plain = λ i a b. absurd (omega arith); spared = λ i a b. absurd (omega arith) }

  pub passed-before : (l r : ℕ) → PlainAndSpared m stmt l r → (x : Instr) → stmt (l - 1) ≡ plain x → Spares m (stmt (l - 1)) → PlainAndSpared m stmt (l - 1) r
  passed-before l r h x e k = record {
    each-plain = λ i a b. first i a b (dec_lt i l);
    spared = λ i a b. other i a b (dec_lt i l);
  }
    where
      first : (i : ℕ) → l - 1 ≤ i → i < r → Dec (i < l) → (y : Instr) × (stmt i ≡ plain y)
      first i a b (yes g) = let n : i ≡ l - 1 = omega arith in (x, subst (λ j. stmt j ≡ plain x) (sym n) e)
      first i a b (no g) = h.each-plain i (omega arith) b

      other : (i : ℕ) → l - 1 ≤ i → i < r → Dec (i < l) → Spares m (stmt i)
      other i a b (yes g) = let n : i ≡ l - 1 = omega arith in subst (λ j. Spares m (stmt j)) (sym n) k
      other i a b (no g) = h.spared i (omega arith) b

-- ---- a piece

module _ (m : Footprint) (S : Conjuncts) (speaks : CoversSet m S) where
  none_written : (x : Instr) → Spares m (plain x) → (R : Conjuncts) → CoversSet m R → some (writes x) R ≡ false
  unfolding some writes
  none_written x f [] h = refl
  none_written (assign a ty r) f (e ∷ R) h = rw (h.0.variables a f) (none_written (assign a ty r) f R h.1)
  none_written (store t k i y ty) f (e ∷ R) h = rw (h.0.arrays t k f) (none_written (store t k i y ty) f R h.1)
  none_written (site a ty) f (e ∷ R) h = none_written (site a ty) f R h.1

  pub quiet-touches : (stmt : ℕ → Stmt) (mate : ℕ → ℕ) (c : Code) (p q : ℕ) → Laid stmt mate c p q → SparedAll m stmt p q → touches c S ≡ false
  unfolding touches
  quiet-touches stmt mate done p q h k = refl
  quiet-touches stmt mate (step l x rest) p q h k =
      let b = laid_le stmt mate rest (suc p) q h.2 in
      rw (none_written x (subst (Spares m) h.1 (k p (omega arith) (omega arith))) S speaks)
      (quiet-touches stmt mate rest (suc p) q h.2 (λ i g j. k i (omega arith) j))
  quiet-touches stmt mate (branch l v y n rest) p q h k =
      let g = h.1 in
      let b₁ = laid_le stmt mate y (suc p) g.0 g.3 in
      let b₂ = laid_le stmt mate n (suc g.0) g.1 g.4 in
      let b₃ = laid_le stmt mate rest (suc g.1) q g.5 in
      rw (quiet-touches stmt mate y (suc p) g.0 g.3 (λ i a b. k i (omega arith) (omega arith)), quiet-touches stmt mate n (suc g.0) g.1 g.4 (λ i a b. k i (omega arith) (omega arith)))
      (quiet-touches stmt mate rest (suc g.1) q g.5 (λ i a b. k i (omega arith) b))
  quiet-touches stmt mate (loop l v body rest) p q h k =
      let g = h.1 in
      let b₁ = laid_le stmt mate body (suc p) g.0 g.2 in
      let b₂ = laid_le stmt mate rest (suc g.0) q g.3 in
      rw (quiet-touches stmt mate body (suc p) g.0 g.2 (λ i a b. k i (omega arith) (omega arith)))
      (quiet-touches stmt mate rest (suc g.0) q g.3 (λ i a b. k i (omega arith) b))
