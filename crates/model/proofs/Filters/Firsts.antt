-- What is found first in a list: in lists made of lists, at a place before which there is nothing, and that there is something at all.
use mathlib.Core.Path.{◌≡◌, refl, sym, ap, ◌∙◌}
use mathlib.Core.Bool.{Bool, true, false, ◌&&◌}
use mathlib.Core.List.{List, [], ◌∷◌, ◌++◌, map, flat_map}
use Prim.Native.Nat.{ℕ, zero, suc, ◌<◌}
use native.Mathlib.Omega.{arith}
use lib.IntN.{ℤ}
use lib.ListN.{length, get_or}
use Rattle.model.specs.Lists.{every}
use Rattle.model.specs.Filter.{combinations}
use Rattle.model.specs.Failure.{Found, nothing, found, or_else, first}
use Rattle.model.proofs.Basics.Tests.{true→T}

-- ---- something or nothing

unfoldable pub is_nothing : {A : Type 0} → Found A → Bool
is_nothing nothing = true
is_nothing (found a) = false

pub is-nothing : {A : Type 0} (a : Found A) → is_nothing a ≡ true → a ≡ nothing
unfolding is_nothing
is-nothing nothing h = refl
is-nothing (found a) h = absurd (true→T h)

or_nothing : {A : Type 0} (a b : Found A) → is_nothing (or_else a b) ≡ (is_nothing a && is_nothing b)
unfolding is_nothing
or_nothing nothing b = refl
or_nothing (found a) b = refl

pub first-nothing : {A B : Type 0} (f : A → Found B) (xs : List A) → is_nothing (first f xs) ≡ every (λ x. is_nothing (f x)) xs
unfolding first every is_nothing
first-nothing f [] = refl
first-nothing f (x ∷ xs) = or_nothing (f x) (first f xs) ∙ ap (is_nothing (f x) &&◌) (first-nothing f xs)

-- ---- lists made of lists

pub or_else-nothing : {A : Type 0} (a : Found A) → or_else a nothing ≡ a
or_else-nothing nothing = refl
or_else-nothing (found a) = refl

or_else_assoc : {A : Type 0} (a b c : Found A) → or_else (or_else a b) c ≡ or_else a (or_else b c)
or_else_assoc nothing b c = refl
or_else_assoc (found a) b c = refl

pub first-same : {A B : Type 0} (f g : A → Found B) → ((x : A) → f x ≡ g x) → (xs : List A) → first f xs ≡ first g xs
unfolding first
first-same f g h [] = refl
first-same f g h (x ∷ xs) = λ i. or_else (h x i) (first-same f g h xs i)

first-append : {A B : Type 0} (f : A → Found B) (xs ys : List A) → first f (xs ++ ys) ≡ or_else (first f xs) (first f ys)
unfolding first
first-append f [] ys = refl
first-append f (x ∷ xs) ys = ap (or_else (f x)) (first-append f xs ys) ∙ sym (or_else_assoc (f x) (first f xs) (first f ys))

first_of_map : {A B C : Type 0} (f : B → Found C) (g : A → B) (xs : List A) → first f (map g xs) ≡ first (λ x. f (g x)) xs
unfolding first
first_of_map f g [] = refl
first_of_map f g (x ∷ xs) = ap (or_else (f (g x))) (first_of_map f g xs)

first_of_flat_map : {A B C : Type 0} (f : B → Found C) (g : A → List B) (xs : List A) → first f (flat_map g xs) ≡ first (λ x. first f (g x)) xs
unfolding first flat_map
first_of_flat_map f g [] = refl
first_of_flat_map f g (x ∷ xs) = first-append f (g x) (flat_map g xs) ∙ ap (or_else (first f (g x))) (first_of_flat_map f g xs)

-- the first list's element changes slowest
pub first-combinations : {A : Type 0} (f : List ℤ → Found A) (zs : List ℤ) (rest : List (List ℤ))
    → first f (combinations (zs ∷ rest)) ≡ first (λ z. first (λ ws. f (z ∷ ws)) (combinations rest)) zs
unfolding combinations
first-combinations f zs rest =
    first_of_flat_map f (λ z. map (z ∷◌) (combinations rest)) zs
    ∙ first-same (λ z. first f (map (z ∷◌) (combinations rest))) (λ z. first (λ ws. f (z ∷ ws)) (combinations rest)) (λ z. first_of_map f (z ∷◌) (combinations rest)) zs

-- ---- at a place

pub first-at : {A B : Type 0} (f : A → Found B) (z : A) (b : B) (xs : List A) (d : ℕ) → d < length xs → ((c : ℕ) → c < d → f (get_or xs c z) ≡ nothing)
    → f (get_or xs d z) ≡ found b → first f xs ≡ found b
unfolding first
first-at f z b [] d l h k = absurd (omega arith)
first-at f z b (x ∷ xs) zero l h k = ap (λ a. or_else a (first f xs)) k
first-at f z b (x ∷ xs) (suc d) l h k =
    ap (λ a. or_else a (first f xs)) (h 0 (omega arith)) ∙ first-at f z b xs d (omega arith) (λ c m. h (suc c) (omega arith)) k
