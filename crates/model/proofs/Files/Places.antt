-- What stands in a byte string from a place on, and what readers of places find there.
use mathlib.Core.Path.{◌≡◌, refl, sym, ◌∙◌, ap, ap₂}
use mathlib.Core.List.{List, [], ◌∷◌, ◌++◌, map, flat_map, append_assoc}
use Prim.Native.Nat.{ℕ, ◌+◌, ◌*◌}
use native.Mathlib.Nat.{mul-zero, mul-suc}
use native.Mathlib.Omega.{arith}
use lib.ListN.{length, drop, length-append}
use lib.Seq.{drop-drop, drop-append_seam}
use Rattle.model.specs.Bytes.{entries}
use Rattle.model.specs.Lists.{All}

-- from the place a on, s is t
abbrev pub From : List ℕ → ℕ → List ℕ → Type 0
From s a t = drop a s ≡ t

-- behind what stands there
pub from-after : (s : List ℕ) (a : ℕ) (b t : List ℕ) (n : ℕ) → length b ≡ n → From s a (b ++ t) → From s (a + n) t
from-after s a b t n l h = sym (drop-drop n a s) ∙ rw (h, ← l) (drop-append_seam b t)

-- a reader that looks only from its place on
abbrev pub Local : {A : Type 0} → (List ℕ → ℕ → A) → Type 0
Local at = (s : List ℕ) (a : ℕ) → at s a ≡ at (drop a s) 0

pub local_from : {A : Type 0} (at : List ℕ → ℕ → A) → Local at → (s : List ℕ) (a : ℕ) (t : List ℕ) → From s a t → at s a ≡ at t 0
local_from at l s a t h = l s a ∙ ap (λ r. at r 0) h

-- things of n bytes each, one after the other
module _ {B : Type 0} (put : B → List ℕ) (n : ℕ) where
  pub length_things : (bs : List B) → All (λ b. length (put b) ≡ n) bs → length (flat_map put bs) ≡ n * length bs
  unfolding flat_map
  length_things [] h = sym (mul-zero n)
  length_things (b ∷ bs) h = rw (length-append, mul-suc) (omega (arith, length_things bs h.1))

  -- a reader that finds one of them finds them all
  module _ {A : Type 0} (at : List ℕ → ℕ → A) (get : B → A) where
    pub entries-read : Local at → (bs : List B) → All (λ b. length (put b) ≡ n) bs → All (λ b. (t : List ℕ) → at (put b ++ t) 0 ≡ get b) bs
        → (s : List ℕ) (a : ℕ) (t : List ℕ) → From s a (flat_map put bs ++ t) → entries at n s a (length bs) ≡ map get bs
    unfolding flat_map entries
    entries-read l [] h k s a t f = refl
    entries-read l (b ∷ bs) h k s a t f =
        let g : From s a (put b ++ (flat_map put bs ++ t)) = f ∙ append_assoc (put b) (flat_map put bs) t in
        ap₂ ◌∷◌ (local_from at l s a (put b ++ (flat_map put bs ++ t)) g ∙ k.0 (flat_map put bs ++ t))
        (entries-read l bs h.1 k.1 s (a + n) t (from-after s a (put b) (flat_map put bs ++ t) n h.0 g))
