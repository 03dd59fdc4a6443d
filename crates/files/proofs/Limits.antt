-- The limit by its four bytes.
use mathlib.Core.Path.{◌≡◌, sym, ◌∙◌}
use mathlib.Core.List.{List}
use Prim.Native.Nat.{ℕ, ◌+◌, ◌*◌}
use borrow.Author.Tests.{eq-eqb, ne_eqb}
use Rattle.model.specs.Bytes.{byte_at, u32_at}
use Rattle.files.specs.Limit.{usual_limit, limit_in}

module _ (s : List ℕ) (a b c d : ℕ) (ea : a ≡ byte_at s 0) (eb : b ≡ byte_at s 1) (ec : c ≡ byte_at s 2) (ed : d ≡ byte_at s 3) where
  abbrev n : ℕ
  n = a + 256 * (b + 256 * (c + 256 * d))

  number_is : n ≡ u32_at s 0
  number_is = λ i. ea i + 256 * (eb i + 256 * (ec i + 256 * ed i))

  pub limit_none : n ≡ 0 → usual_limit ≡ limit_in s
  unfolding limit_in
  limit_none e = rw (eq-eqb (u32_at s 0) 0 (sym number_is ∙ e))

  pub limit_some : (n ≡ 0 → ⊥) → n ≡ limit_in s
  unfolding limit_in
  limit_some e = rw (ne_eqb (u32_at s 0) 0 (λ z. e (number_is ∙ z))) number_is
