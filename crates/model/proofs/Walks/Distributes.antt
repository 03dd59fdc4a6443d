-- The walk works on each conjunct by itself: the walk of a union is the union of the walks.
-- The idea: each rule does (`gather_union`); rounds over two sets go side by side, the one that settles first staying as it is.
-- Assumes nothing.
use mathlib.Core.Path.{◌≡◌, refl, sym, ◌∙◌, ap₂, subst}
use mathlib.Core.Logic.{inl, inr}
use mathlib.Core.List.{[]}
use Prim.Native.Nat.{ℕ, zero, suc}
use Rattle.model.specs.Code.{Code, done, step, branch, loop}
use Rattle.model.specs.Conjunct.{Conjuncts, union_of}
use Rattle.model.specs.Sizes.{most_rounds}
use Rattle.model.specs.Walk.{before, gather}
use Rattle.model.proofs.Conjuncts.Canonical.{union_canon, union_swap}
use Rattle.model.proofs.Conjuncts.Gather.{gather_union}
use Rattle.model.proofs.Walks.Goes.{rounds_stay}
use Rattle.model.proofs.Walks.OneResult.{goes-canon}
use Rattle.model.proofs.Walks.Paths.{Rounds, After, Goes}
use Rattle.model.specs.TidySets.{Canon}

module _ (f f₁ f₂ : Conjuncts → Conjuncts → Type 0) (K K₁ K₂ : Conjuncts → Type 0)
    (keep₁ : (S R : Conjuncts) → Canon S → f₁ S R → Canon R) (keep₂ : (S R : Conjuncts) → Canon S → f₂ S R → Canon R)
    (add : (A B Ra RB : Conjuncts) → Canon A → Canon B → f₁ A Ra → f₂ B RB → f (union_of A B) (union_of Ra RB)) (meet : (X Y : Conjuncts) → K₁ X → K₂ Y → K (union_of X Y))
    (DA DB : Conjuncts) (db : Canon DB) where
  rounds_union : (n : ℕ) (A B Ra RB : Conjuncts) → Canon A → Canon B → Rounds f₁ K₁ n DA A Ra → Rounds f₂ K₂ n DB B RB
      → Rounds f K n (union_of DA DB) (union_of A B) (union_of Ra RB)
  rounds_union zero A B Ra RB ca cb g h = absurd g
  rounds_union (suc n) A B Ra RB ca cb g h = (
    union_of g.0 h.0,
    add A B g.0 h.0 ca cb g.1 h.1,
    subst K (sym swap) (meet A' B' g.2 h.2),
    next n g.3 h.3 (rounds_union n A' B' Ra RB (union_canon DA g.0 cga) (union_canon DB h.0 chb)),
  )
    where
      A' : Conjuncts
      A' = union_of DA g.0

      B' : Conjuncts
      B' = union_of DB h.0

      cga : Canon g.0
      cga = keep₁ A g.0 ca g.1

      chb : Canon h.0
      chb = keep₂ B h.0 cb h.1

      U : Conjuncts
      U = union_of (union_of DA DB) (union_of g.0 h.0)

      swap : U ≡ union_of A' B'
      swap = union_swap DA DB g.0 h.0 db cga chb

      next : (m : ℕ) → After f₁ K₁ m DA A A' Ra → After f₂ K₂ m DB B B' RB
          → (Rounds f₁ K₁ m DA A' Ra → Rounds f₂ K₂ m DB B' RB → Rounds f K m (union_of DA DB) (union_of A' B') (union_of Ra RB))
          → After f K m (union_of DA DB) (union_of A B) U (union_of Ra RB)
      next m (inl p) (inl q) ih = inl (ap₂ union_of p.0 q.0 ∙ sym swap, ap₂ union_of p.1 q.1 ∙ sym swap)
      next zero (inl p) (inr k) ih = absurd k
      next (suc m) (inl p) (inr k) ih =
          inr (subst (λ X. Rounds f K (suc m) (union_of DA DB) X (union_of Ra RB)) (sym swap) (ih (rounds_stay f₁ K₁ DA m A g.0 Ra g.1 g.2 p.0 p.1) k))
      next zero (inr k) (inl q) ih = absurd k
      next (suc m) (inr k) (inl q) ih =
          inr (subst (λ X. Rounds f K (suc m) (union_of DA DB) X (union_of Ra RB)) (sym swap) (ih k (rounds_stay f₂ K₂ DB m B h.0 RB h.1 h.2 q.0 q.1)))
      next m (inr k) (inr j) ih = inr (subst (λ X. Rounds f K m (union_of DA DB) X (union_of Ra RB)) (sym swap) (ih k j))

module _ (K K₁ K₂ : ℕ → Conjuncts → Type 0) (meet : (l : ℕ) (X Y : Conjuncts) → K₁ l X → K₂ l Y → K l (union_of X Y)) where
  -- the walk of a union is the union of the walks
  pub goes_union : (c : Code) (A B Ra RB : Conjuncts) → Canon A → Canon B → Goes K₁ c A Ra → Goes K₂ c B RB → Goes K c (union_of A B) (union_of Ra RB)
  goes_union done A B Ra RB ca cb g h = ap₂ union_of g h
  goes_union (step l i rest) A B Ra RB ca cb g h =
      let d = goes_union rest A B g.0 h.0 ca cb g.1 h.1 in
      (union_of g.0 h.0, d, gather_union (before l i) g.0 h.0 ∙ ap₂ union_of g.2 h.2, meet l Ra RB g.3 h.3)
  goes_union (branch l v y n rest) A B Ra RB ca cb g h =
      let cg = goes-canon K₁ rest A g.0 ca g.3 in
      let ch = goes-canon K₂ rest B h.0 cb h.3 in (
        union_of g.0 h.0,
        union_of g.1 h.1,
        union_of g.2 h.2,
        goes_union rest A B g.0 h.0 ca cb g.3 h.3,
        goes_union y g.0 h.0 g.1 h.1 cg ch g.4 h.4,
        goes_union n g.0 h.0 g.2 h.2 cg ch g.5 h.5,
        union_swap g.1 h.1 g.2 h.2
            (goes-canon K₂ y h.0 h.1 ch h.4) (goes-canon K₁ n g.0 g.2 cg g.5) (goes-canon K₂ n h.0 h.2 ch h.5)
            ∙ ap₂ union_of g.6 h.6,
        meet l Ra RB g.7 h.7,
      )
  goes_union (loop l v body rest) A B Ra RB ca cb g h =
      let cg = goes-canon K₁ rest A g.0 ca g.1 in
      let ch = goes-canon K₂ rest B h.0 cb h.1 in (
        union_of g.0 h.0,
        goes_union rest A B g.0 h.0 ca cb g.1 h.1,
        rounds_union (Goes K body) (Goes K₁ body) (Goes K₂ body) (K l) (K₁ l) (K₂ l)
            (goes-canon K₁ body) (goes-canon K₂ body) (goes_union body) (meet l) g.0 h.0 ch
            most_rounds g.0 h.0 Ra RB cg ch g.2 h.2,
      )

module _ (K : ℕ → Conjuncts → Type 0) (empty : (l : ℕ) → K l []) where
  -- nothing comes of nothing
  pub goes-empty : (c : Code) → Goes K c [] []
  unfolding gather union_of
  goes-empty done = refl
  goes-empty (step l i rest) = ([], goes-empty rest, refl, empty l)
  goes-empty (branch l v y n rest) = ([], [], [], goes-empty rest, goes-empty y, goes-empty n, refl, empty l)
  goes-empty (loop l v body rest) = ([], goes-empty rest, ([], goes-empty body, empty l, inl (refl, refl)))
