-- Two words without their types are equal if and only if, where the one is a variable, the other is the same variable.
use mathlib.Core.Bool.{true, true≢false}
use mathlib.Core.Path.{◌≡◌, refl, sym, ap, ◌∙◌}
use Prim.Native.Nat.{ℕ, ◌+◌, ◌-◌, ◌*◌, ◌/◌, ◌%◌, ◌<◌, ◌≤◌}
use native.Mathlib.Decide.{dec_lt}
use native.Mathlib.Omega.{arith}
use lib.Dec.{eqb}
use borrow.Author.Tests.{eqb-true, eqb-false, eq-eqb, ne_eqb}
use Rattle.model.proofs.Basics.Tests.{case}
use Rattle.model.specs.Conjunct.{var}
use Rattle.model.specs.Touch.{is_var}
use Rattle.conjunct.proofs.node.Made.{low4-back}
use Rattle.conjunct.proofs.node.Looked.{low-variable, high-variable, at-variable}
use Rattle.conjunct.specs.Word.{low4, node_of, first_load, first_variable, place2, place3, place4}

abbrev untyped : ℕ → ℕ
untyped w = w - w / place4 % place3 * place4

-- what counts 256 or more does not count in the lowest byte
above_three : (q k : ℕ) → (place3 * q + k) % 256 ≡ k % 256
above_three q k = omega arith

above_two : (q k : ℕ) → (place2 * q + k) % 256 ≡ k % 256
above_two q k = omega arith

above-one : (q k : ℕ) → (256 * q + k) % 256 ≡ k % 256
above-one q k = omega arith

-- the four low bytes alone, byte by byte
low_part : (v : ℕ) → low4 v ≡ low4 (v % place4)
low_part v =
    let m = v % place4 in
    let q = v / place4 in
    let a : v % 256 ≡ m % 256 = omega arith in
    let b : v / 256 % 256 ≡ m / 256 % 256 = let e : v / 256 ≡ place3 * q + m / 256 = omega arith in rw e (above_three q (m / 256)) in
    let c : v / place2 % 256 ≡ m / place2 % 256 = let e : v / place2 ≡ place2 * q + m / place2 = omega arith in rw e (above_two q (m / place2)) in
    let d : v / place3 % 256 ≡ m / place3 % 256 = let e : v / place3 ≡ 256 * q + m / place3 = omega arith in rw e (above-one q (m / place3)) in
    rw (a, b, c, d)

low-from : (v w : ℕ) → v % place4 ≡ w % place4 → low4 v ≡ low4 w
low-from v w e = low_part v ∙ ap low4 e ∙ sym (low_part w)

low-back : (v w : ℕ) → low4 v ≡ low4 w → v % place4 ≡ w % place4
low-back v w e =
    sym (low4-back 0 (v % place4) (omega arith)) ∙ ap (λ k. low4 (0 * place4 + k)) (sym (low_part v) ∙ e ∙ low_part w)
    ∙ low4-back 0 (w % place4) (omega arith)

-- a variable's word without its type
untyped_variable : (w : ℕ) → first_variable ≤ w → w < first_load → untyped w ≡ first_variable + w % place4
untyped_variable w l h = omega arith

module _ (w v x ty : ℕ) (is : node_of v ≡ var x ty) where
  there : is_var x (node_of v) ≡ true
  there = ap (is_var x) is ∙ eq-eqb x x refl

  least : first_variable ≤ v
  least = go (dec_lt v first_variable)
    where
      go : Dec (v < first_variable) → first_variable ≤ v
      go (yes h) = absurd (true≢false (sym there ∙ sym (low-variable v x h)))
      go (no h) = omega arith

  most : v < first_load
  most = go (dec_lt v first_load)
    where
      go : Dec (v < first_load) → v < first_load
      go (yes h) = h
      go (no h) = absurd (true≢false (sym there ∙ sym (high-variable v x (omega arith))))

  its_number : low4 v ≡ x
  its_number = eqb-true (low4 v) x (at-variable v x least most ∙ there)

  among_variables : first_variable ≤ w → w < first_load → eqb (untyped w) (untyped v) ≡ eqb (low4 w) x
  among_variables l h =
      case (eqb (untyped w) (untyped v)) (λ z. z ≡ eqb (low4 w) x)
      (λ p.
      let e = sym (untyped_variable w l h) ∙ eqb-true (untyped w) (untyped v) p ∙ untyped_variable v least most in
      sym (eq-eqb (low4 w) x (low-from w v (omega (arith, e)) ∙ its_number)))
      (λ p.
      let n = eqb-false (untyped w) (untyped v) p in
      sym (ne_eqb (low4 w) x (λ e.
      n (untyped_variable w l h ∙ ap (first_variable +◌) (low-back w v (e ∙ sym its_number)) ∙ sym (untyped_variable v least most)))))

  pub same-variable : eqb (untyped w) (untyped v) ≡ is_var x (node_of w)
  same-variable = go (dec_lt w first_variable) (dec_lt w first_load)
    where
      go : Dec (w < first_variable) → Dec (w < first_load) → eqb (untyped w) (untyped v) ≡ is_var x (node_of w)
      go (yes h) k = ne_eqb (untyped w) (untyped v) (λ e. omega (arith, e, least, most)) ∙ low-variable w x h
      go (no h) (yes k) = among_variables (omega arith) k ∙ at-variable w x (omega arith) k
      go (no h) (no k) = ne_eqb (untyped w) (untyped v) (λ e. omega (arith, e, least, most)) ∙ high-variable w x (omega arith)
