-- The test of every element of a list: over lists that are put together, and what its two answers say.
use mathlib.Core.Path.{◌≡◌, refl, sym, ap, ◌∙◌}
use mathlib.Core.Logic.{◌⊎◌, inl, inr}
use mathlib.Core.Bool.{Bool, true, false, ◌&&◌, and_assoc}
use mathlib.Core.List.{List, [], ◌∷◌, ◌++◌, map, flat_map, Memᴰ}
use Prim.Native.Nat.{ℕ, ◌<◌}
use lib.ListN.{length, get_or}
use Rattle.model.specs.Lists.{All, every}
use Rattle.model.specs.Demands.{Some}
use Rattle.model.proofs.Basics.Lists.{all_get_d, all_mem, some_mem}
use Rattle.model.proofs.Basics.Tests.{case, true→T, and_left, and_right}

-- ---- lists that are put together

module _ {A : Type 0} (p : A → Bool) where
  pub every_of_append : (xs ys : List A) → every p (xs ++ ys) ≡ (every p xs && every p ys)
  unfolding every
  every_of_append [] ys = refl
  every_of_append (x ∷ xs) ys = ap (p x &&◌) (every_of_append xs ys) ∙ sym (and_assoc (p x) (every p xs) (every p ys))

module _ {A B : Type 0} (p : B → Bool) where
  pub every_of_map : (f : A → B) (xs : List A) → every p (map f xs) ≡ every (λ x. p (f x)) xs
  unfolding every
  every_of_map f [] = refl
  every_of_map f (x ∷ xs) = ap (p (f x) &&◌) (every_of_map f xs)

  pub every_of_flat_map : (f : A → List B) (xs : List A) → every p (flat_map f xs) ≡ every (λ x. every p (f x)) xs
  unfolding every flat_map
  every_of_flat_map f [] = refl
  every_of_flat_map f (x ∷ xs) = every_of_append p (f x) (flat_map f xs) ∙ ap (every p (f x) &&◌) (every_of_flat_map f xs)

module _ {A : Type 0} (p q : A → Bool) where
  -- tests that answer alike
  pub every-same : ((x : A) → p x ≡ q x) → (xs : List A) → every p xs ≡ every q xs
  unfolding every
  every-same h [] = refl
  every-same h (x ∷ xs) = λ i. h x i && every-same h xs i

module _ {A : Type 0} (p : A → Bool) where
  -- ---- it passes

  pub every-all : (xs : List A) → every p xs ≡ true → All (λ x. p x ≡ true) xs
  unfolding every
  every-all [] h = tt
  every-all (x ∷ xs) h = (and_left (p x) (every p xs) h, every-all xs (and_right (p x) (every p xs) h))

  pub all-every : (xs : List A) → All (λ x. p x ≡ true) xs → every p xs ≡ true
  unfolding every
  all-every [] h = refl
  all-every (x ∷ xs) h = rw h.0 (all-every xs h.1)

  pub every-at : (d : A) (xs : List A) → every p xs ≡ true → (i : ℕ) → i < length xs → p (get_or xs i d) ≡ true
  every-at d xs h i l = all_get_d (λ x. p x ≡ true) xs i d (every-all xs h) l

  pub every_mem : (xs : List A) (x : A) → every p xs ≡ true → Memᴰ x xs → p x ≡ true
  every_mem xs x h m = all_mem (λ y. p y ≡ true) xs x (every-all xs h) m

  -- ---- it fails

  pub every_some : (xs : List A) → every p xs ≡ false → Some (λ x. p x ≡ false) xs
  unfolding every
  every_some [] h = absurd (true→T (sym h))
  every_some (x ∷ xs) h =
      case (p x) (λ z. (z && every p xs) ≡ false → (z ≡ false) ⊎ Some (λ y. p y ≡ false) xs) (λ q k. inr (every_some xs k)) (λ q k. inl refl) h

  pub some-every : (xs : List A) → Some (λ x. p x ≡ false) xs → every p xs ≡ false
  unfolding every
  some-every [] h = absurd h
  some-every (x ∷ xs) (inl h) = rw h
  some-every (x ∷ xs) (inr h) = case (p x) (λ z. (z && every p xs) ≡ false) (λ q. some-every xs h) (λ q. refl)

  pub every-not : (xs : List A) → every p xs ≡ false → (x : A) × Memᴰ x xs × (p x ≡ false)
  every-not xs h = some_mem (λ x. p x ≡ false) xs (every_some xs h)
