-- One site's set joined to the union so far, in regions.
use mathlib.Core.Bool.{Bool, true, false}
use mathlib.Core.List.{List, [], ◌∷◌}
use mathlib.Core.Path.{◌≡◌, sym, ap, ◌∙◌}
use Prim.Native.Nat.{ℕ, ◌+◌, ◌≤◌, ◌<◌}
use native.Mathlib.Omega.{arith}
use lib.ListN.{length, get_or}
use borrow.Author.Tests.{lt-ltb}
use Rattle.model.specs.Conjunct.{Conj, Conjuncts, with_conjunct, union_of, long, limits}
use Rattle.model.specs.Refusals.{ok, refused, ◌>>=◌, too_many_conjuncts}
use Rattle.model.specs.Sizes.{most_conjuncts}
use Rattle.model.specs.Walk.{start}
use Rattle.model.specs.TidySets.{Canon, Tidy}
use Rattle.model.proofs.Conjuncts.Canonical.{union_every}
use Rattle.model.proofs.Conjuncts.Limits.{fine-limits, all_short}
use Rattle.model.proofs.Basics.Results.{gives_ok}
use Rattle.model.proofs.Basics.Tests.{true→T}
use Rattle.model.proofs.Walks.Tidied.{start-tidy, union_tidy}
use Rattle.sets.specs.Region.{region_words, set_of, Inserted, Joined}
use Rattle.sets.proofs.Rows.{few-most, set-few, set_same}
use Rattle.rules.specs.Answers.{Below}
use Rattle.rules.proofs.Limiting.{set-short}
use Rattle.analysis.specs.Joining.{joined_to}
use Rattle.analysis.proofs.Starting.{Short}

-- the first conjunct of an empty region
pub inserted_first : (r : Bool) (s t : List ℕ) (b : ℕ) (d : Conj) → set_of s b ≡ [] → Inserted r b d s t → set_of t b ≡ d ∷ []
unfolding with_conjunct
inserted_first true s t b d e h = h ∙ ap (with_conjunct d) e
inserted_first false s t b d e h = absurd (omega (arith, h.1, ap (λ S. length (with_conjunct d S)) e))

-- a region below what has changed
pub region-below : (s t : List ℕ) (b n : ℕ) → length t ≡ length s → b + region_words ≤ n → b + region_words ≤ length s → Below n s t → set_of t b ≡ set_of s b
region-below s t b n e h k f = set_same s t b b k (omega arith) (λ x g. f (b + x) (omega (arith, few-most (get_or s b 0))))

-- ---- unions of what regions hold

module _ (s : List ℕ) (a b : ℕ) where
  abbrev both : Conjuncts
  both = union_of (set_of s a) (set_of s b)

  both-short : long both ≡ false
  both-short = all_short both (union_every Short (set_of s a) (set_of s b) (set-short s a) (set-short s b))

  union_fits : length both ≤ most_conjuncts → limits both ≡ ok both
  union_fits h = fine-limits both (record { short = both-short; few = h })

  union_over : most_conjuncts < length both → limits both ≡ refused too_many_conjuncts
  unfolding limits
  union_over h = rw (both-short, lt-ltb most_conjuncts (length both) h)

-- a set at the program's start is canonical
pub start-canon : (S Z : Conjuncts) → start S ≡ ok Z → Canon Z
start-canon S Z at-start = (gives_ok Tidy (start S) Z at-start (start-tidy S)).canon

-- ---- the union so far at b, the site's set after it

module _ (s t : List ℕ) (b : ℕ) (len : length t ≡ length s) (fits : b + region_words ≤ length s) (below : Below (b + region_words) s t)
    (at-start : start (set_of s (b + region_words)) ≡ ok (set_of t (b + region_words))) where
  started : joined_to (set_of s b) (set_of s (b + region_words)) ≡ limits (both t b (b + region_words))
  started =
      ap (λ o. o >>= λ Z. limits (union_of (set_of s b) Z)) at-start
      ∙ ap (λ R. limits (union_of R (set_of t (b + region_words)))) (sym (region-below s t b (b + region_words) len (omega arith) fits below))

  pub joined-over : (u : List ℕ) (r : Bool) → r ≡ false → Joined r b (b + region_words) t u → joined_to (set_of s b) (set_of s (b + region_words)) ≡ refused too_many_conjuncts
  joined-over u true e h = absurd (true→T (sym e))
  joined-over u false e h = started ∙ union_over t b (b + region_words) h

  module _ (u v : List ℕ) (r : Bool) (e : r ≡ true) (h : Joined r b (b + region_words) t u) (copied : set_of v b ≡ set_of u (b + region_words)) where
    union_is : set_of v b ≡ both t b (b + region_words)
    union_is = go r e h
      where
        go : (q : Bool) → q ≡ true → Joined q b (b + region_words) t u → set_of v b ≡ both t b (b + region_words)
        go true p k = copied ∙ k
        go false p k = absurd (true→T p)

    pub joined-done : joined_to (set_of s b) (set_of s (b + region_words)) ≡ ok (set_of v b)
    joined-done =
        started ∙ union_fits t b (b + region_words) (omega (arith, ap length union_is, set-few v b)) ∙ ap (λ S. ok S) (sym union_is)

    pub joined-tidy : Tidy (set_of s b) → Tidy (set_of v b)
    joined-tidy h =
        let R = set_of s b in
        let S = set_of s (b + region_words) in
        let Z = set_of t (b + region_words) in
        let z : Tidy Z = gives_ok Tidy (start S) Z at-start (start-tidy S) in
        let over : limits (union_of R Z) ≡ ok (set_of v b) = ap (λ o. o >>= λ X. limits (union_of R X)) (sym at-start) ∙ joined-done in
        gives_ok Tidy (limits (union_of R Z)) (set_of v b) over (union_tidy R Z h z)
