-- The combinations of values: how many there are, and the test of every one of them.
use mathlib.Core.Path.{◌≡◌, refl, sym, ap, ◌∙◌}
use mathlib.Core.Bool.{Bool, ◌&&◌}
use mathlib.Core.List.{List, [], ◌∷◌, map, flat_map}
use Prim.Native.Nat.{ℕ, zero, suc, ◌*◌}
use native.Mathlib.Nat.{zero-mul, mul-zero, suc-mul, add_comm}
use native.Mathlib.Omega.{arith}
use lib.Dec.{ltb}
use lib.IntN.{ℤ}
use lib.ListN.{length, length-append, length-map}
use borrow.Author.Tests.{lt-ltb}
use Rattle.model.specs.Lists.{every}
use Rattle.model.specs.Conjunct.{Atom, Conj, atoms}
use Rattle.model.specs.Input.{Input}
use Rattle.model.specs.Filter.{values_of, combinations, product_of, has_readings}
use Rattle.model.proofs.Basics.Every.{every_of_map, every_of_flat_map, every-same}

-- ---- the first list changes slowest

pub every-combinations : (p : List ℤ → Bool) (zs : List ℤ) (rest : List (List ℤ))
    → every p (combinations (zs ∷ rest)) ≡ every (λ z. every (λ w. p (z ∷ w)) (combinations rest)) zs
unfolding combinations
every-combinations p zs rest =
    every_of_flat_map p (λ z. map (z ∷◌) (combinations rest)) zs
    ∙ every-same (λ z. every p (map (z ∷◌) (combinations rest))) (λ z. every (λ w. p (z ∷ w)) (combinations rest)) (λ z. every_of_map p (z ∷◌) (combinations rest)) zs

-- ---- how many

length-flat_map : {A B : Type 0} (f : A → List B) (n : ℕ) → ((x : A) → length (f x) ≡ n) → (xs : List A) → length (flat_map f xs) ≡ length xs * n
unfolding flat_map
length-flat_map f n h [] = sym (zero-mul n)
length-flat_map f n h (x ∷ xs) = simp (length-append, h x, length-flat_map f n h xs, suc-mul, add_comm)

both_some : (n p : ℕ) → (ltb 0 n && ltb 0 p) ≡ ltb 0 (n * p)
both_some zero p = rw (zero-mul p)
both_some (suc n) zero = rw (lt-ltb 0 (suc n) (omega arith), mul-zero (suc n))
both_some (suc n) (suc p) =
    rw (lt-ltb 0 (suc n) (omega arith), lt-ltb 0 (suc p) (omega arith), lt-ltb 0 (suc n * suc p) (omega (arith, suc-mul n (suc p))))

module _ (I : Input) where
  -- the values of each atom
  abbrev pub values : List Atom → List (List ℤ)
  values ks = map (λ a. values_of I a.src) ks

  pub length-combinations : (ks : List Atom) → length (combinations (values ks)) ≡ product_of I ks
  unfolding combinations product_of
  length-combinations [] = refl
  length-combinations (a ∷ ks) =
      length-flat_map (λ z. map (z ∷◌) (combinations (values ks))) (product_of I ks)
      (λ z. length-map (combinations (values ks)) (z ∷◌) ∙ length-combinations ks) (values_of I a.src)

  some_of_each : (ks : List Atom) → every (λ a. ltb 0 (length (values_of I a.src))) ks ≡ ltb 0 (product_of I ks)
  unfolding every product_of
  some_of_each [] = refl
  some_of_each (a ∷ ks) =
      ap (ltb 0 (length (values_of I a.src)) &&◌) (some_of_each ks) ∙ both_some (length (values_of I a.src)) (product_of I ks)

  -- every field that the conjunct reads has a reading if and only if there is a combination
  pub readings-product : (e : Conj) → has_readings I e ≡ ltb 0 (product_of I (atoms e))
  unfolding has_readings
  readings-product e = some_of_each (atoms e)
