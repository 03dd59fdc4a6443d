-- What holds of every element of a list, or of some element.
use mathlib.Core.Path.{◌≡◌, refl, sym, ap, subst}
use mathlib.Core.Logic.{inl, inr}
use mathlib.Core.List.{List, [], ◌∷◌, ◌++◌, map, Memᴰ}
use Prim.Native.Nat.{ℕ, zero, suc, ◌+◌, ◌<◌}
use native.Mathlib.Omega.{arith}
use lib.ListN.{length, get_or, drop}
use Rattle.model.specs.Lists.{All}
use Rattle.model.specs.Bytes.{entries}
use Rattle.model.specs.Demands.{Some}

module _ {A : Type 0} {P Q : A → Type 0} where
  pub all_imp : ((x : A) → P x → Q x) → (xs : List A) → All P xs → All Q xs
  all_imp f [] h = tt
  all_imp f (x ∷ xs) h = (f x h.0, all_imp f xs h.1)

  pub some_imp : ((x : A) → P x → Q x) → (xs : List A) → Some P xs → Some Q xs
  some_imp f [] h = absurd h
  some_imp f (x ∷ xs) (inl h) = inl (f x h)
  some_imp f (x ∷ xs) (inr h) = inr (some_imp f xs h)

module _ {A : Type 0} {P : A → Type 0} where
  pub all_of : ((x : A) → P x) → (xs : List A) → All P xs
  all_of f [] = tt
  all_of f (x ∷ xs) = (f x, all_of f xs)

module _ {A : Type 0} (P : A → Type 0) where
  pub all_left : (xs ys : List A) → All P (xs ++ ys) → All P xs
  all_left [] ys h = tt
  all_left (x ∷ xs) ys h = (h.0, all_left xs ys h.1)

  pub all_right : (xs ys : List A) → All P (xs ++ ys) → All P ys
  all_right [] ys h = h
  all_right (x ∷ xs) ys h = all_right xs ys h.1

  pub all_append : (xs ys : List A) → All P xs → All P ys → All P (xs ++ ys)
  all_append [] ys h k = k
  all_append (x ∷ xs) ys h k = (h.0, all_append xs ys h.1 k)

  -- at a place of the list
  pub all_get_d : (xs : List A) (i : ℕ) (d : A) → All P xs → i < length xs → P (get_or xs i d)
  all_get_d [] i d h k = absurd (omega arith)
  all_get_d (x ∷ xs) zero d h k = h.0
  all_get_d (x ∷ xs) (suc i) d h k = all_get_d xs i d h.1 (omega arith)

  -- at any place, where the default has the property too
  pub all-get_or_or : (xs : List A) (i : ℕ) (d : A) → All P xs → P d → P (get_or xs i d)
  all-get_or_or [] i d h k = k
  all-get_or_or (x ∷ xs) zero d h k = h.0
  all-get_or_or (x ∷ xs) (suc i) d h k = all-get_or_or xs i d h.1 k

  -- of the entries of a byte string
  pub entries-all : (at : List ℕ → ℕ → A) → ((s : List ℕ) (a : ℕ) → P (at s a)) → (size : ℕ) (s : List ℕ) (a n : ℕ) → All P (entries at size s a n)
  unfolding entries
  entries-all at h size s a zero = tt
  entries-all at h size s a (suc n) = (h s a, entries-all at h size s (a + size) n)

  pub all_mem : (xs : List A) (x : A) → All P xs → Memᴰ x xs → P x
  all_mem [] x h m = elim m [ ]
  all_mem (y ∷ xs) x h (Memᴰ.head e) = subst P (sym e) h.0
  all_mem (y ∷ xs) x h (Memᴰ.tail m) = all_mem xs x h.1 m

  pub some_mem : (xs : List A) → Some P xs → (x : A) × Memᴰ x xs × P x
  some_mem [] h = absurd h
  some_mem (x ∷ xs) (inl h) = (x, Memᴰ.head refl, h)
  some_mem (x ∷ xs) (inr h) = let r = some_mem xs h in (r.0, Memᴰ.tail r.1, r.2)

pub get_or_mem : {A : Type 0} (xs : List A) (i : ℕ) (d : A) → i < length xs → Memᴰ (get_or xs i d) xs
get_or_mem [] i d h = absurd (omega arith)
get_or_mem (x ∷ xs) zero d h = Memᴰ.head refl
get_or_mem (x ∷ xs) (suc i) d h = Memᴰ.tail (get_or_mem xs i d (omega arith))

module _ {A B : Type 0} (P : B → Type 0) (f : A → B) where
  pub all_map : (xs : List A) → All (λ x. P (f x)) xs → All P (map f xs)
  all_map [] h = tt
  all_map (x ∷ xs) h = (h.0, all_map xs h.1)

  pub all_unmap : (xs : List A) → All P (map f xs) → All (λ x. P (f x)) xs
  all_unmap [] h = tt
  all_unmap (x ∷ xs) h = (h.0, all_unmap xs h.1)

module _ {A : Type 0} {P Q R : A → Type 0} where
  pub all_imp₂ : ((x : A) → P x → Q x → R x) → (xs : List A) → All P xs → All Q xs → All R xs
  all_imp₂ f [] p q = tt
  all_imp₂ f (x ∷ xs) p q = (f x p.0 q.0, all_imp₂ f xs p.1 q.1)

  pub some_imp₂ : ((x : A) → P x → Q x → R x) → (xs : List A) → All P xs → Some Q xs → Some R xs
  some_imp₂ f [] p q = absurd q
  some_imp₂ f (x ∷ xs) p (inl q) = inl (f x p.0 q)
  some_imp₂ f (x ∷ xs) p (inr q) = inr (some_imp₂ f xs p.1 q)

pub all_imp₃ : {A : Type 0} {P Q R S : A → Type 0} → ((x : A) → P x → Q x → R x → S x) → (xs : List A) → All P xs → All Q xs → All R xs → All S xs
all_imp₃ f [] p q r = tt
all_imp₃ f (x ∷ xs) p q r = (f x p.0 q.0 r.0, all_imp₃ f xs p.1 q.1 r.1)

pub drop-map : {A B : Type 0} (f : A → B) (n : ℕ) (xs : List A) → drop n (map f xs) ≡ map f (drop n xs)
drop-map f zero xs = refl
drop-map f (suc n) [] = refl
drop-map f (suc n) (x ∷ xs) = drop-map f n xs

-- one more at the end
pub length_snoc : {A : Type 0} (xs : List A) (x : A) → length (xs ++ (x ∷ [])) ≡ suc (length xs)
length_snoc [] x = refl
length_snoc (y ∷ xs) x = ap suc (length_snoc xs x)
