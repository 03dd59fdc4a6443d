-- Which node a word stands for, by where it lies.
use mathlib.Core.Bool.{Bool, true, false}
use mathlib.Core.Path.{◌≡◌, refl}
use Prim.Native.Nat.{ℕ, ◌+◌, ◌-◌, ◌*◌, ◌/◌, ◌%◌, ◌<◌, ◌≤◌}
use native.Mathlib.Omega.{arith}
use lib.Dec.{ltb}
use borrow.Author.Tests.{lt-ltb, le-ltb, le-leb, lt-leb}
use Rattle.model.specs.Conjunct.{field, cell, const, atom, var, op, conv}
use Rattle.model.specs.Values.{Operation, add, sub, mul, div, operation_kind}
use Rattle.conjunct.specs.Word.{low4, mid2, is_atom_lem, source_of, number_of, plain_of, node_of, first_conversion, first_difference, first_load}
use Rattle.conjunct.specs.Word.{first_product, first_quotient, first_reading, first_sum, first_variable, place2, place3, place4, place6}
use Rattle.conjunct.specs.Word.{place7, load_kind}

-- below a number or not
data Side (w k : ℕ) : Type 0 where
  below : w < k → Side w k
  above : k ≤ w → Side w k

side : (w k : ℕ) → Side w k
side w k = go (ltb w k) refl
  where
    go : (b : Bool) → ltb w k ≡ b → Side w k
    go true p = below (borrow.Author.Tests.ltb-true w k p)
    go false p = above (borrow.Author.Tests.ltb-false w k p)

pub data Shape (w : ℕ) : Type 0 where
  number : w < first_reading → node_of w ≡ const (w / place4) (low4 w) → Shape w
  reading : first_reading ≤ w → w < first_sum → node_of w ≡ atom (record { src = field (mid2 w) (w / place6 % 256); n = low4 w }) → Shape w
  calc : (o : Operation) → operation_kind o * first_reading ≤ w → w < (operation_kind o + 1) * place7 → node_of w ≡ op o (w % place7) → Shape w
  change : first_conversion ≤ w → w < first_variable → node_of w ≡ conv (w % place7) → Shape w
  variable : first_variable ≤ w → w < first_load → node_of w ≡ var (low4 w) (w / place4 % place3) → Shape w
  load : first_load ≤ w
      → node_of w ≡ atom (record { src = cell (mid2 w) (w / place2 % 256) (w % place2) (w / place6 - load_kind); n = w / place3 % 256 }) → Shape w

module _ (w : ℕ) where
  pub atom-low : first_reading ≤ w → w < first_sum → is_atom_lem w ≡ true
  unfolding is_atom_lem
  atom-low l h = rw (lt-ltb w first_sum h, le-leb first_reading w l)

  pub atom-high : first_load ≤ w → is_atom_lem w ≡ true
  unfolding is_atom_lem
  atom-high l = rw (le-ltb w first_sum (omega arith), le-leb first_load w l)

  pub none-low : w < first_reading → is_atom_lem w ≡ false
  unfolding is_atom_lem
  none-low h = rw (lt-ltb w first_sum (omega arith), lt-leb first_reading w h)

  pub none-high : first_sum ≤ w → w < first_load → is_atom_lem w ≡ false
  unfolding is_atom_lem
  none-high l h = rw (le-ltb w first_sum l, lt-leb first_load w h)

  pub is_number : w < first_reading → node_of w ≡ const (w / place4) (low4 w)
  unfolding node_of plain_of
  is_number h = rw (none-low h, lt-ltb w first_reading h)

  pub is-reading : first_reading ≤ w → w < first_sum → node_of w ≡ atom (record { src = field (mid2 w) (w / place6 % 256); n = low4 w })
  unfolding node_of source_of number_of
  is-reading l h = rw (atom-low l h, lt-ltb w first_sum h)

  pub is-add : first_sum ≤ w → w < first_difference → node_of w ≡ op add (w % place7)
  unfolding node_of plain_of
  is-add l h = rw (none-high (omega arith) (omega arith), le-ltb w first_reading (omega arith), lt-ltb w first_difference h)

  pub is-sub : first_difference ≤ w → w < first_product → node_of w ≡ op sub (w % place7)
  unfolding node_of plain_of
  is-sub l h =
      rw (none-high (omega arith) (omega arith), le-ltb w first_reading (omega arith), le-ltb w first_difference (omega arith), lt-ltb w first_product h)

  pub is_mul : first_product ≤ w → w < first_quotient → node_of w ≡ op mul (w % place7)
  unfolding node_of plain_of
  is_mul l h =
      rw (
        none-high (omega arith) (omega arith),
        le-ltb w first_reading (omega arith),
        le-ltb w first_difference (omega arith),
        le-ltb w first_product (omega arith),
        lt-ltb w first_quotient h,
      )

  pub is-div : first_quotient ≤ w → w < first_conversion → node_of w ≡ op div (w % place7)
  unfolding node_of plain_of
  is-div l h =
      rw (
        none-high (omega arith) (omega arith),
        le-ltb w first_reading (omega arith),
        le-ltb w first_difference (omega arith),
        le-ltb w first_product (omega arith),
        le-ltb w first_quotient (omega arith),
        lt-ltb w first_conversion h,
      )

  pub is-change : first_conversion ≤ w → w < first_variable → node_of w ≡ conv (w % place7)
  unfolding node_of plain_of
  is-change l h =
      rw (
        none-high (omega arith) (omega arith),
        le-ltb w first_reading (omega arith),
        le-ltb w first_difference (omega arith),
        le-ltb w first_product (omega arith),
        le-ltb w first_quotient (omega arith),
        le-ltb w first_conversion (omega arith),
        lt-ltb w first_variable h,
      )

  pub is-variable : first_variable ≤ w → w < first_load → node_of w ≡ var (low4 w) (w / place4 % place3)
  unfolding node_of plain_of
  is-variable l h =
      rw (
        none-high (omega arith) h,
        le-ltb w first_reading (omega arith),
        le-ltb w first_difference (omega arith),
        le-ltb w first_product (omega arith),
        le-ltb w first_quotient (omega arith),
        le-ltb w first_conversion (omega arith),
        le-ltb w first_variable l,
      )

  pub is-load : first_load ≤ w
      → node_of w ≡ atom (record { src = cell (mid2 w) (w / place2 % 256) (w % place2) (w / place6 - load_kind); n = w / place3 % 256 })
  unfolding node_of source_of number_of
  is-load l = rw (atom-high l, le-ltb w first_sum (omega arith))

  pub shape : Shape w
  shape = s1 (side w place7)
    where
      s8 : first_variable ≤ w → Side w first_load → Shape w
      s8 l (below h) = variable l h (is-variable l h)
      s8 l (above h) = load h (is-load h)

      s7 : first_conversion ≤ w → Side w first_variable → Shape w
      s7 l (below h) = change l h (is-change l h)
      s7 l (above h) = s8 h (side w first_load)

      s6 : first_quotient ≤ w → Side w first_conversion → Shape w
      s6 l (below h) = calc div l h (is-div l h)
      s6 l (above h) = s7 h (side w first_variable)

      s5 : first_product ≤ w → Side w first_quotient → Shape w
      s5 l (below h) = calc mul l h (is_mul l h)
      s5 l (above h) = s6 h (side w first_conversion)

      s4 : first_difference ≤ w → Side w first_product → Shape w
      s4 l (below h) = calc sub l h (is-sub l h)
      s4 l (above h) = s5 h (side w first_quotient)

      s3 : first_sum ≤ w → Side w first_difference → Shape w
      s3 l (below h) = calc add l h (is-add l h)
      s3 l (above h) = s4 h (side w first_product)

      s2 : first_reading ≤ w → Side w first_sum → Shape w
      s2 l (below h) = reading l h (is-reading l h)
      s2 l (above h) = s3 h (side w first_difference)

      s1 : Side w place7 → Shape w
      s1 (below h) = number h (is_number h)
      s1 (above h) = s2 h (side w first_sum)
