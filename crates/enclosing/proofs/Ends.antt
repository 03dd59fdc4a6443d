-- Where blocks end, by the kind of the statement where they begin; and the labels before a statement one by one.
use mathlib.Core.Path.{◌≡◌, refl}
use Prim.Native.Nat.{ℕ}
use native.Mathlib.Omega.{arith}
use Rattle.model.specs.Code.{while}
use Rattle.model.specs.Kinds.{Kind, a_number, a_copy, an_operation, a_conversion, a_read, a_load, a_store, a_site, an_if, an_else, an_end, a_while, a_procedure, a_call, no_kind_lem, kind_of}
use Rattle.model.proofs.Files.KindNumbers.{IsNumber, kind-number}
use Rattle.code_table.specs.declared.Decoded.{Decoded}
use Rattle.code_table.specs.Statements.{stmt_for, stmt_from}
use Rattle.enclosing.specs.Blocks.{block_end_lem}

module _ (d : Decoded) (mate : ℕ → ℕ) (s : ℕ) where
  pub if-ends : d.kind ≡ 11 → block_end_lem (stmt_from d) mate s ≡ mate (mate s)
  unfolding stmt_from kind_of
  if-ends k = rw k

  pub while-ends : d.kind ≡ 14 → block_end_lem (stmt_from d) mate s ≡ mate s
  unfolding stmt_from kind_of
  while-ends k = rw k

  pub none-ends : (d.kind ≡ 11 → ⊥) → (d.kind ≡ 14 → ⊥) → block_end_lem (stmt_from d) mate s ≡ 0
  unfolding stmt_from
  none-ends no-if no_while = go (kind_of d.kind) (kind-number d.kind)
    where
      go : (k : Kind) → IsNumber k d.kind → block_end_lem (stmt_for k d) mate s ≡ 0
      go a_number n = refl
      go a_copy n = refl
      go (an_operation o) n = refl
      go a_conversion n = refl
      go a_read n = refl
      go a_load n = refl
      go a_store n = refl
      go a_site n = refl
      go an_if n = absurd (no-if n)
      go an_else n = refl
      go an_end n = refl
      go a_while n = absurd (no_while n)
      go a_procedure n = refl
      go a_call n = refl
      go no_kind_lem n = refl

-- a statement of another kind begins no while
pub no_while : (d : Decoded) → (d.kind ≡ 14 → ⊥) → (v : ℕ) → stmt_from d ≡ while v → ⊥
unfolding stmt_from
no_while d other v = go (kind_of d.kind) (kind-number d.kind)
  where
    go : (k : Kind) → IsNumber k d.kind → stmt_for k d ≡ while v → ⊥
    go a_number n e = let z : ◌≡◌ {A = ℕ} 0 1 = cc in omega arith
    go a_copy n e = let z : ◌≡◌ {A = ℕ} 0 1 = cc in omega arith
    go (an_operation o) n e = let z : ◌≡◌ {A = ℕ} 0 1 = cc in omega arith
    go a_conversion n e = let z : ◌≡◌ {A = ℕ} 0 1 = cc in omega arith
    go a_read n e = let z : ◌≡◌ {A = ℕ} 0 1 = cc in omega arith
    go a_load n e = let z : ◌≡◌ {A = ℕ} 0 1 = cc in omega arith
    go a_store n e = let z : ◌≡◌ {A = ℕ} 0 1 = cc in omega arith
    go a_site n e = let z : ◌≡◌ {A = ℕ} 0 1 = cc in omega arith
    go an_if n e = let z : ◌≡◌ {A = ℕ} 0 1 = cc in omega arith
    go an_else n e = let z : ◌≡◌ {A = ℕ} 0 1 = cc in omega arith
    go an_end n e = let z : ◌≡◌ {A = ℕ} 0 1 = cc in omega arith
    go a_while n e = other n
    go a_procedure n e = let z : ◌≡◌ {A = ℕ} 0 1 = cc in omega arith
    go a_call n e = let z : ◌≡◌ {A = ℕ} 0 1 = cc in omega arith
    go no_kind_lem n e = let z : ◌≡◌ {A = ℕ} 0 1 = cc in omega arith
