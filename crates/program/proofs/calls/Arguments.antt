-- The arguments of a call, byte by byte of the immediate.
use mathlib.Core.Path.{◌≡◌, refl}
use mathlib.Core.Bool.{Bool, true, ◌&&◌, and_assoc}
use mathlib.Core.List.{List, []}
use Prim.Native.Nat.{ℕ, zero, suc, ◌+◌, ◌-◌, ◌≤◌, ◌<◌}
use native.Mathlib.Numerals.{add-one}
use native.Mathlib.Omega.{arith}
use lib.Dec.{eqb}
use lib.ListN.{length, get_or, take, drop, drop_of_length-le}
use lib.Seq.{drop-cons, take-nil}
use Rattle.model.specs.Lists.{every}
use Rattle.model.specs.Bytes.{bytes4}
use Rattle.model.specs.Program.{Tables, variable_type_lem, all_alike}

-- ---- the first n elements pass one test, and the others another

module _ (f g : ℕ → Bool) where
  unfoldable pub parted : ℕ → List ℕ → Bool
  parted n xs = every f (take n xs) && every g (drop n xs)

  module _ (n : ℕ) (xs : List ℕ) (j : ℕ) (h : j < length xs) where
    pub parted_first : (x : ℕ) → x ≡ get_or xs j 0 → j < n → parted (n - j) (drop j xs) ≡ (f x && parted (n - (j + 1)) (drop (j + 1) xs))
    unfolding parted every
    parted_first x p k =
        let e : n - j ≡ suc (n - (j + 1)) = omega arith in
        rw (p, drop-cons xs j 0 h, e, add-one j)
        (and_assoc (f (get_or xs j 0)) (every f (take (n - suc j) (drop (suc j) xs))) (every g (drop (n - suc j) (drop (suc j) xs))))

    pub parted_other : (x : ℕ) → x ≡ get_or xs j 0 → n ≤ j → parted (n - j) (drop j xs) ≡ (g x && parted (n - (j + 1)) (drop (j + 1) xs))
    unfolding parted every
    parted_other x p k =
        let e : n - j ≡ 0 = omega arith in
        let e' : n - (j + 1) ≡ 0 = omega arith in
        rw (p, drop-cons xs j 0 h, e, e', add-one j)

  pub parted_past : (n : ℕ) (xs : List ℕ) (j : ℕ) → length xs ≤ j → parted (n - j) (drop j xs) ≡ true
  unfolding parted every
  parted_past n xs j h = rw (drop_of_length-le xs h) (nothing (n - j))
    where
      nothing : (m : ℕ) → (every f (take m []) && every g (drop m [])) ≡ true
      nothing zero = refl
      nothing (suc m) = refl

-- ---- they have the types of the variables from x on

module _ (T : Tables) (n : ℕ) (xs : List ℕ) (x j : ℕ) where
  -- the argument with number j, by the two types
  pub alike_next : (ty tx : ℕ) → ty ≡ variable_type_lem T (get_or xs j 0) → tx ≡ variable_type_lem T (x + j) → j < length xs → j < n
      → all_alike T (take (n - j) (drop j xs)) (x + j) ≡ (eqb ty tx && all_alike T (take (n - (j + 1)) (drop (j + 1) xs)) (x + (j + 1)))
  unfolding all_alike
  alike_next ty tx p q h k =
      let e : n - j ≡ suc (n - (j + 1)) = omega arith in
      let s : x + (j + 1) ≡ suc (x + j) = omega arith in
      rw (p, q, drop-cons xs j 0 h, e, s, add-one j)

  pub alike_all : n ≤ j → all_alike T (take (n - j) (drop j xs)) (x + j) ≡ true
  unfolding all_alike
  alike_all k = let e : n - j ≡ 0 = omega arith in rw e

  pub alike-past : length xs ≤ j → all_alike T (take (n - j) (drop j xs)) (x + j) ≡ true
  unfolding all_alike
  alike-past h = rw (drop_of_length-le xs h, take-nil {A = ℕ} (n - j))

-- the bytes of an immediate are four
pub four_bytes : (v : ℕ) → length (bytes4 v) ≡ 4
unfolding bytes4
four_bytes v = refl
