-- What an insertion, a refusal or the next of several insertions has added to the set of a region.
use mathlib.Core.Bool.{Bool, true, false}
use mathlib.Core.List.{List, [], ◌∷◌, map}
use mathlib.Core.Path.{◌≡◌, sym, ap, ap₂, subst, ◌∙◌}
use Prim.Native.Nat.{ℕ, suc, ◌+◌, ◌^◌, ◌≤◌}
use native.Mathlib.Omega.{arith}
use lib.ListN.{length, get_or, take, drop, take-append-drop, length-map, get_or-map}
use lib.Seq.{drop-cons, drop-length}
use Rattle.model.specs.Conjunct.{Atom, Conj, Conjuncts, union_of, atoms, renumber}
use Rattle.model.specs.Walk.{loads, subsets}
use Rattle.model.proofs.Conjuncts.Canonical.{union_append, union_canon, union_right, union_left, sub-length}
use Rattle.model.proofs.Basics.Tests.{true→T}
use Rattle.model.specs.TidySets.{Canon, Mem, Sub}
use Rattle.sets.specs.Region.{set_of, Inserted}
use Rattle.rules.proofs.Distinct.{subsets-length, subsets-many, seven_many}
use Rattle.rules.proofs.Limiting.{limits_ten}
use Rattle.rules.specs.Adding.{NoneLong, Added}
use Rattle.refusals.specs.declared.Refusal.{Refusal}
use Rattle.refusals.specs.declared.Refusal.TheVariants.{TooManyConjuncts}
use Rattle.std.specs.Prelude.{Ok, Err}

-- ---- one conjunct

module _ (x : Conj) (b : ℕ) (s t : List ℕ) where
  pub added_in : (r : Bool) → r ≡ true → Inserted r b x s t → Added (Ok tt) NoneLong (x ∷ []) b s t
  unfolding union_of
  added_in true q i = i
  added_in false q i = absurd (true→T q)

  -- there was no room for it
  pub added_out : (r : Bool) → r ≡ false → Canon (set_of s b) → Inserted r b x s t → Added (Err TooManyConjuncts) NoneLong (x ∷ []) b s t
  unfolding union_of
  added_out true q d i = absurd (true→T (sym q))
  added_out false q d i =
      λ G c f p. limits_ten G p (omega (arith, i.1, sub-length (union_of (x ∷ []) (set_of s b)) G (union_canon (x ∷ []) (set_of s b) d) c f))

  -- a set that was canonical still is
  pub still_canon : Canon (set_of s b) → Added (Ok tt) NoneLong (x ∷ []) b s t → Canon (set_of t b)
  still_canon d i = subst Canon (sym i) (union_canon (x ∷ []) (set_of s b) d)

-- ---- several, from the last to the first

pub union_none : (F T : Conjuncts) (k : ℕ) → k ≡ length F → T ≡ union_of (drop k F) T
unfolding union_of
union_none F T k e =
    let z : drop k F ≡ [] = ap (λ j. drop j F) e ∙ drop-length F in
    rw z

union_next : (F T : Conjuncts) (k j : ℕ) → j + 1 ≡ k → k ≤ length F → union_of (get_or F j [] ∷ []) (union_of (drop k F) T) ≡ union_of (drop j F) T
unfolding union_of
union_next F T k j e h =
    let f : suc j ≡ k = omega arith in
    sym (ap (λ X. union_of X T) (drop-cons F j [] (omega arith) ∙ ap (λ i. get_or F j [] ∷ drop i F) f))

union_over : (F T : Conjuncts) (j : ℕ) → Sub (union_of (drop j F) T) (union_of F T)
union_over F T j x m =
    let p : union_of F T ≡ union_of (take j F) (union_of (drop j F) T) =
    ap (λ X. union_of X T) (sym (take-append-drop j F)) ∙ union_append (take j F) (drop j F) T in
    subst (Mem x) (sym p) (union_right x (take j F) (union_of (drop j F) T) m)

module _ (F : Conjuncts) (b : ℕ) (s₀ s t : List ℕ) (k j : ℕ) (x : Conj) (next : j + 1 ≡ k) (few : k ≤ length F)
    (this : x ≡ get_or F j []) (so : set_of s b ≡ union_of (drop k F) (set_of s₀ b)) where
  step : union_of (x ∷ []) (set_of s b) ≡ union_of (drop j F) (set_of s₀ b)
  step = ap₂ (λ e T. union_of (e ∷ []) T) this so ∙ union_next F (set_of s₀ b) k j next few

  pub turn_in : Added (Ok tt) NoneLong (x ∷ []) b s t → set_of t b ≡ union_of (drop j F) (set_of s₀ b)
  turn_in i = i ∙ step

  pub turn_out : (r : Refusal) → Added (Err r) NoneLong (x ∷ []) b s t → Added (Err r) NoneLong F b s₀ t
  turn_out r i = λ G c f p. i G c (λ y m. f y (union_over F (set_of s₀ b) j y (subst (Mem y) step m))) p

-- ---- the subsets

module _ (ks : List Atom) (x ty : ℕ) (e : Conj) where
  abbrev pub Chosen : Conjuncts
  Chosen = map renumber (subsets ks x ty e)

  pub chosen-length : length Chosen ≡ 2 ^ length ks
  chosen-length = length-map (subsets ks x ty e) renumber ∙ subsets-length x ty ks e

  pub chosen_at : (c : Conj) (j : ℕ) → c ≡ get_or (subsets ks x ty e) j [] → renumber c ≡ get_or Chosen j []
  unfolding renumber
  chosen_at c j h = ap renumber h ∙ sym (get_or-map renumber (subsets ks x ty e) j [])

module _ (t k x ty : ℕ) (e : Conj) where
  abbrev onto : List Atom
  onto = loads t k (atoms e)

  pub chosen-many : 7 ≤ length onto → (b : ℕ) (s u : List ℕ) → Added (Err TooManyConjuncts) NoneLong (Chosen onto x ty e) b s u
  chosen-many h b s u G c f p =
      limits_ten G p
      (omega (arith, seven_many (length onto) h, subsets-many t k x ty e G c (λ y m. f y (union_left y (Chosen onto x ty e) (set_of s b) m))))
