-- What the tests of a word say of its node, and what a node becomes at the program's start.
use mathlib.Core.Bool.{false, ◌&&◌}
use mathlib.Core.Path.{◌≡◌}
use Prim.Native.Nat.{ℕ, ◌-◌, ◌*◌, ◌/◌, ◌%◌, ◌<◌, ◌≤◌, ◌^◌}
use native.Mathlib.Omega.{arith}
use lib.Dec.{eqb}
use Rattle.model.specs.Walk.{on_array, zeroed}
use Rattle.model.specs.Touch.{is_var, is_load_lem}
use Rattle.conjunct.proofs.node.Made.{made-zero}
use Rattle.conjunct.proofs.node.Shapes.{Shape, number, reading, calc, change, variable, load, shape, is-variable, is-load}
use Rattle.conjunct.specs.Word.{low4, node_of, first_load, first_variable, place2, place3, place4, place6, load_kind}

module _ (w : ℕ) where
  -- below the variables
  pub low-variable : (x : ℕ) → w < first_variable → false ≡ is_var x (node_of w)
  low-variable x h = go (shape w)
    where
      go : Shape w → false ≡ is_var x (node_of w)
      go (number k e) = rw e
      go (reading l k e) = rw e
      go (calc o l k e) = rw e
      go (change l k e) = rw e
      go (variable l k e) = absurd (omega arith)
      go (load l e) = absurd (omega arith)

  pub high-variable : (x : ℕ) → first_load ≤ w → false ≡ is_var x (node_of w)
  high-variable x h = rw (is-load w h)

  pub at-variable : (x : ℕ) → first_variable ≤ w → w < first_load → eqb (low4 w) x ≡ is_var x (node_of w)
  at-variable x l h = rw (is-variable w l h)

  pub low_load : (t k : ℕ) → w < first_load → false ≡ is_load_lem t k (node_of w)
  unfolding on_array
  low_load t k h = go (shape w)
    where
      go : Shape w → false ≡ is_load_lem t k (node_of w)
      go (number k e) = rw e
      go (reading l k e) = rw e
      go (calc o l k e) = rw e
      go (change l k e) = rw e
      go (variable l k e) = rw e
      go (load l e) = absurd (omega arith)

  pub at_load : (t k : ℕ) → first_load ≤ w → (eqb (w / place2 % 256) t && eqb (w % place2) k) ≡ is_load_lem t k (node_of w)
  unfolding on_array
  at_load t k h = rw (is-load w h)

  pub start-low : w < first_variable → node_of w ≡ zeroed (node_of w)
  unfolding zeroed
  start-low h = go (shape w)
    where
      go : Shape w → node_of w ≡ zeroed (node_of w)
      go (number k e) = rw e
      go (reading l k e) = rw e
      go (calc o l k e) = rw e
      go (change l k e) = rw e
      go (variable l k e) = absurd (omega arith)
      go (load l e) = absurd (omega arith)

  pub start-variable : first_variable ≤ w → w < first_load → node_of (w / place4 % place3 * place4) ≡ zeroed (node_of w)
  unfolding zeroed
  start-variable l h = rw (is-variable w l h) (made-zero (w / place4 % place3) (omega arith))

  pub start-load : first_load ≤ w → w < 2 ^ 64 → node_of ((w / place6 - load_kind) * place4) ≡ zeroed (node_of w)
  unfolding zeroed
  start-load l h = rw (is-load w l) (made-zero (w / place6 - load_kind) (omega arith))
