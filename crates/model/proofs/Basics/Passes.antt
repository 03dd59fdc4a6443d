-- A pass over a list, element by element: the test of the rest is the test of the whole.
use mathlib.Core.Path.{◌≡◌, refl, sym, ap, ◌∙◌}
use mathlib.Core.Bool.{Bool, true, false, ◌&&◌, and_assoc}
use mathlib.Core.List.{List}
use Prim.Native.Nat.{ℕ, ◌+◌, ◌≤◌, ◌<◌}
use native.Mathlib.Numerals.{add-one}
use lib.ListN.{length, get_or, drop, drop_of_length-le}
use lib.Seq.{drop-cons}
use Rattle.model.specs.Lists.{every}

and-true : (a : Bool) → (a && true) ≡ a
and-true true = refl
and-true false = refl

module _ {A : Type 0} (f : A → Bool) (d : A) (xs : List A) (i : ℕ) where
  pass_step : i < length xs → every f (drop i xs) ≡ (f (get_or xs i d) && every f (drop (i + 1) xs))
  unfolding every
  pass_step h = rw (add-one, drop-cons xs i d h)

  -- the test of a whole that is the test of the elements from i on
  pub rest-fails : i < length xs → (w : Bool) → w ≡ every f (drop i xs) → f (get_or xs i d) ≡ false → w ≡ false
  rest-fails h w e k = e ∙ pass_step h ∙ rw k

  pub rest_goes : i < length xs → (w : Bool) → w ≡ every f (drop i xs) → f (get_or xs i d) ≡ true → w ≡ every f (drop (i + 1) xs)
  rest_goes h w e k = e ∙ pass_step h ∙ rw k

  pub rest-ends : length xs ≤ i → (w : Bool) → w ≡ every f (drop i xs) → w ≡ true
  unfolding every
  rest-ends h w e = e ∙ rw (drop_of_length-le xs h)

  pub pass_fails : i < length xs → every f xs ≡ every f (drop i xs) → f (get_or xs i d) ≡ false → every f xs ≡ false
  pass_fails h w e = rest-fails h (every f xs) w e

  pub pass_goes : i < length xs → every f xs ≡ every f (drop i xs) → f (get_or xs i d) ≡ true → every f xs ≡ every f (drop (i + 1) xs)
  pass_goes h w e = rest_goes h (every f xs) w e

  pub pass_ends : length xs ≤ i → every f xs ≡ every f (drop i xs) → every f xs ≡ true
  pass_ends h w = rest-ends h (every f xs) w

  -- a pass that gathers the answers of a test in a flag
  pub pass_gathers : (a : Bool) → i < length xs → every f xs ≡ (a && every f (drop i xs)) → every f xs ≡ (a && f (get_or xs i d) && every f (drop (i + 1) xs))
  pass_gathers a h w = w ∙ ap (a &&◌) (pass_step h) ∙ sym (and_assoc a (f (get_or xs i d)) (every f (drop (i + 1) xs)))

  pub pass_gathered : (a : Bool) → length xs ≤ i → every f xs ≡ (a && every f (drop i xs)) → every f xs ≡ a
  unfolding every
  pass_gathered a h w = w ∙ ap (λ ys. a && every f ys) (drop_of_length-le xs h) ∙ and-true a
