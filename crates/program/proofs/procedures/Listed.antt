-- The procedures of a table: one more is noted behind those that it has.
use mathlib.Core.Path.{◌≡◌, refl, ◌∙◌}
use mathlib.Core.Bool.{Bool, true, false}
use mathlib.Core.List.{List, [], ◌∷◌, ◌++◌}
use Prim.Native.Nat.{ℕ, zero, suc, ◌+◌, ◌*◌, ◌≤◌, ◌<◌}
use native.Mathlib.Numerals.{add-one}
use native.Mathlib.Omega.{arith}
use borrow.Author.Tests.{leb-true, leb-false}
use lib.Dec.{leb}
use lib.ListN.{length, get_or, set, length-set}
use lib.Seq.{get_or-set_same, get_or-set_other}
use Rattle.model.specs.Program.{Tables}
use Rattle.program.specs.Parts.{procedure_between, begin_in, end_in, procedures_in, Between}

-- only the words before 2 n count
procedures-same : (T : Tables) (t u : List ℕ) (n : ℕ) → ((j : ℕ) → j < 2 * n → get_or t j 0 ≡ get_or u j 0) → procedures_in T t n ≡ procedures_in T u n
unfolding procedures_in
procedures-same T t u zero h = refl
procedures-same T t u (suc n) h =
    let before = procedures-same T t u n (λ j k. h j (omega arith)) in
    let b = h (2 * n) (omega arith) in
    let e = h (2 * n + 1) (omega arith) in
    λ i. before i ++ (procedure_between T (b i) (e i) ∷ [])

-- ---- a procedure noted

module _ (T : Tables) (t : List ℕ) (n b e : ℕ) (room : 2 * n + 1 < length t) where
  abbrev noted : List ℕ
  noted = set (set t (2 * n) b) (2 * n + 1) e

  noted-begin : begin_in noted n ≡ b
  noted-begin = get_or-set_other (set t (2 * n) b) (2 * n + 1) (2 * n) e 0 (λ z. absurd (omega (arith, z))) ∙ get_or-set_same t (2 * n) b 0 (omega arith)

  noted-end : end_in noted n ≡ e
  noted-end = get_or-set_same (set t (2 * n) b) (2 * n + 1) e 0 (rw (length-set t (2 * n) b) room)

  noted-before : (j : ℕ) → j < 2 * n → get_or noted j 0 ≡ get_or t j 0
  noted-before j h =
      get_or-set_other (set t (2 * n) b) (2 * n + 1) j e 0 (λ z. absurd (omega (arith, z))) ∙ get_or-set_other t (2 * n) j b 0 (λ z. absurd (omega (arith, z)))

  pub procedures-noted : procedures_in T noted (n + 1) ≡ procedures_in T t n ++ (procedure_between T b e ∷ [])
  unfolding procedures_in
  procedures-noted = rw (add-one n) (λ i. procedures-same T noted t n noted-before i ++ (procedure_between T (noted-begin i) (noted-end i) ∷ []))

  pub each-noted : (l : ℕ) → ((p : ℕ) → p < n → Between T l (begin_in t p) (end_in t p)) → l ≤ e → Between T (e + 1) b e
      → (p : ℕ) → p < n + 1 → Between T (e + 1) (begin_in noted p) (end_in noted p)
  each-noted l each le last p h = go (leb n p) refl
    where
      go : (z : Bool) → leb n p ≡ z → Between T (e + 1) (begin_in noted p) (end_in noted p)
      go true z =
          let k = leb-true n p z in
          let same : p ≡ n = omega arith in
          rw (same, noted-begin, noted-end) last
      go false z =
          let k = leb-false n p z in
          let old = each p k in
          let e₁ = noted-before (2 * p) (omega arith) in
          let e₂ = noted-before (2 * p + 1) (omega arith) in
          rw (e₁, e₂) (record { begins = old.begins; later = old.later; before = omega (arith, old.before) })
