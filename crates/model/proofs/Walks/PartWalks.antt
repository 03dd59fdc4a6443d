-- A part of a set whose walk has a result: its walk has one too, or is refused by 11.
-- The idea: each set on the part's way is a part of the set that the larger walk last has at that place, and a part of a set
-- within the limits is within them; so where the part's own loops settle nothing refuses.
-- Assumes nothing.
use mathlib.Core.Path.{◌≡◌, sym, ◌∙◌, subst}
use mathlib.Core.Logic.{inl, inr}
use Prim.Native.Nat.{ℕ, zero, suc}
use Rattle.model.specs.Code.{Code, done, step, branch, loop}
use Rattle.model.specs.Conjunct.{Conjuncts, union_of}
use Rattle.model.specs.Refusals.{ok}
use Rattle.model.specs.Sizes.{most_rounds}
use Rattle.model.specs.Walk.{before, gather, walk}
use Rattle.model.proofs.Conjuncts.Canonical.{union_canon, union_mono, union_left}
use Rattle.model.proofs.Conjuncts.Gather.{gather-canon, gather_mono}
use Rattle.model.proofs.Walks.Goes.{goes_mono, goes-walk, walk-goes}
use Rattle.model.proofs.Conjuncts.Limits.{sub-fine}
use Rattle.model.proofs.Walks.OneResult.{goes-canon}
use Rattle.model.proofs.Walks.Paths.{Rounds, After, Goes}
use Rattle.model.specs.TidySets.{Canon, Mem, Sub, Fine}

-- ---- rounds

-- what the rounds come to has the property asked of each
pub rounds-kept : (body : Conjuncts → Conjuncts → Type 0) (K : Conjuncts → Type 0) (n : ℕ) (D S R : Conjuncts) → Rounds body K n D S R → K R
rounds-kept body K zero D S R g = absurd g
rounds-kept body K (suc n) D S R g = next g.3 (rounds-kept body K n D (union_of D g.0) R)
  where
    next : After body K n D S (union_of D g.0) R → (Rounds body K n D (union_of D g.0) R → K R) → K R
    next (inl p) ih = subst K (sym p.1) g.2
    next (inr r) ih = ih r

-- the last round of a loop: the body's walk of what the rounds come to adds nothing
pub rounds-settled : (body : Conjuncts → Conjuncts → Type 0) (K : Conjuncts → Type 0) (n : ℕ) (D S R : Conjuncts) → Rounds body K n D S R → (B : Conjuncts) × body R B × (R ≡ union_of D B)
rounds-settled body K zero D S R g = absurd g
rounds-settled body K (suc n) D S R g = next g.3 (rounds-settled body K n D (union_of D g.0) R)
  where
    next : After body K n D S (union_of D g.0) R → (Rounds body K n D (union_of D g.0) R → (B : Conjuncts) × body R B × (R ≡ union_of D B))
        → (B : Conjuncts) × body R B × (R ≡ union_of D B)
    next (inl p) ih = (g.0, subst (λ X. body X g.0) (p.0 ∙ sym p.1) g.1, p.1)
    next (inr r) ih = ih r

-- rounds within R
module _ (body₂ body : Conjuncts → Conjuncts → Type 0) (K₂ K : Conjuncts → Type 0) (D R : Conjuncts) (parts : (X : Conjuncts) → Canon X → Sub X R → K X)
    (within : (S B : Conjuncts) → Canon S → Sub S R → body₂ S B → body S B × Canon B × Sub (union_of D B) R) where
  pub rounds-part : (n : ℕ) (S Q : Conjuncts) → Canon S → Sub S R → Rounds body₂ K₂ n D S Q → Rounds body K n D S Q
  rounds-part zero S Q c s g = g
  rounds-part (suc n) S Q c s g =
      let w = within S g.0 c s g.1 in
      let u = union_canon D g.0 w.1 in
      (g.0, w.0, parts (union_of D g.0) u w.2, next g.3 (rounds-part n (union_of D g.0) Q u w.2))
    where
      next : After body₂ K₂ n D S (union_of D g.0) Q → (Rounds body₂ K₂ n D (union_of D g.0) Q → Rounds body K n D (union_of D g.0) Q)
          → After body K n D S (union_of D g.0) Q
      next (inl p) ih = inl p
      next (inr r) ih = inr (ih r)

-- ---- a walk within a walk

module _ (K₁ K : ℕ → Conjuncts → Type 0) where
  -- at each place K has every part of the set that the walk g last has there
  abbrev pub Last : (c : Code) (S R : Conjuncts) → Goes K₁ c S R → Type 0
  Last done S R g = Unit {0}
  Last (step l i rest) S R g = Last rest S g.0 g.1 × ((X : Conjuncts) → Canon X → Sub X R → K l X)
  Last (branch l v y n rest) S R g =
      Last rest S g.0 g.3 × (Last y g.0 g.1 g.4 × (Last n g.0 g.2 g.5 × ((X : Conjuncts) → Canon X → Sub X R → K l X)))
  Last (loop l v body rest) S R g =
      let s = rounds-settled (Goes K₁ body) (K₁ l) most_rounds g.0 g.0 R g.2 in
      Last rest S g.0 g.1 × (Last body R s.0 s.1 × ((X : Conjuncts) → Canon X → Sub X R → K l X))

module _ (K₁ K₂ K : ℕ → Conjuncts → Type 0) where
  pub goes-part : (c : Code) (S R T Q : Conjuncts) (g : Goes K₁ c S R) → Goes K₂ c T Q → Canon T → Sub T S → Last K₁ K c S R g → Goes K c T Q
  goes-part done S R T Q g h t s k = h
  goes-part (step l i rest) S R T Q g h t s k =
      let d = goes_mono K₂ K₁ rest T S h.0 g.0 s h.1 g.1 in (
        h.0,
        goes-part rest S g.0 T h.0 g.1 h.1 t s k.0,
        h.2,
        k.1 Q (subst Canon h.2 (gather-canon (before l i) h.0))
            (subst (λ X. Sub X R) h.2 (subst (Sub (gather (before l i) h.0)) g.2 (gather_mono (before l i) h.0 g.0 d))),
      )
  goes-part (branch l v y n rest) S R T Q g h t s k =
      let d = goes_mono K₂ K₁ rest T S h.0 g.0 s h.3 g.3 in
      let c = goes-canon K₂ rest T h.0 t h.3 in (
        h.0,
        h.1,
        h.2,
        goes-part rest S g.0 T h.0 g.3 h.3 t s k.0,
        goes-part y g.0 g.1 h.0 h.1 g.4 h.4 c d k.1.0,
        goes-part n g.0 g.2 h.0 h.2 g.5 h.5 c d k.1.1.0,
        h.6,
        k.1.1.1 Q (subst Canon h.6 (union_canon h.1 h.2 (goes-canon K₂ n h.0 h.2 c h.5)))
            (subst (λ X. Sub X R) h.6 (subst (Sub (union_of h.1 h.2)) g.6
            (union_mono h.1 h.2 g.1 g.2
            (goes_mono K₂ K₁ y h.0 g.0 h.1 g.1 d h.4 g.4) (goes_mono K₂ K₁ n h.0 g.0 h.2 g.2 d h.5 g.5)))),
      )
  goes-part (loop l v body rest) S R T Q g h t s k =
      let r = rounds-settled (Goes K₁ body) (K₁ l) most_rounds g.0 g.0 R g.2 in
      let d = goes_mono K₂ K₁ rest T S h.0 g.0 s h.1 g.1 in
      let c = goes-canon K₂ rest T h.0 t h.1 in (
        h.0,
        goes-part rest S g.0 T h.0 g.1 h.1 t s k.0,
        rounds-part (Goes K₂ body) (Goes K body) (K₂ l) (K l) h.0 R k.1.1
            (λ X B x i w. (
              goes-part body R r.0 X B r.1 w x i k.1.0,
              goes-canon K₂ body X B x w,
              subst (Sub (union_of h.0 B)) (sym r.2) (union_mono h.0 B g.0 r.0 d (goes_mono K₂ K₁ body X R B r.0 i w r.1)),
            ))
            most_rounds h.0 Q c (λ x m. subst (Mem x) (sym r.2) (union_left x g.0 r.0 (d x m))) h.2,
      )

-- within the limits, every part is
last-fine : (c : Code) (S R : Conjuncts) (g : Goes (λ l X. Fine X) c S R) → Canon S → Last (λ l X. Fine X) (λ l X. Fine X) c S R g
last-fine done S R g s = tt
last-fine (step l i rest) S R g s = (last-fine rest S g.0 g.1 s, λ X x i'. sub-fine X R x (goes-canon (λ l X. Fine X) (step l i rest) S R s g) i' g.3)
last-fine (branch l v y n rest) S R g s =
    let c = goes-canon (λ l X. Fine X) rest S g.0 s g.3 in (
      last-fine rest S g.0 g.3 s,
      (
        last-fine y g.0 g.1 g.4 c,
        (
          last-fine n g.0 g.2 g.5 c,
          λ X x i. sub-fine X R x (goes-canon (λ l X. Fine X) (branch l v y n rest) S R s g) i g.7,
        ),
      ),
    )
last-fine (loop l v body rest) S R g s =
    let F : ℕ → Conjuncts → Type 0 = λ l X. Fine X in
    let r = rounds-settled (Goes F body) Fine most_rounds g.0 g.0 R g.2 in
    let c = goes-canon F (loop l v body rest) S R s g in
    let f = rounds-kept (Goes F body) Fine most_rounds g.0 g.0 R g.2 in
    (last-fine rest S g.0 g.1 s, (last-fine body R r.0 r.1 c, λ X x i. sub-fine X R x c i f))

-- a part refuses by 11 or not at all
pub walk-part : (c : Code) (S R T Q : Conjuncts) → walk c S ≡ ok R → Canon S → Canon T → Sub T S → Goes (λ l X. Unit {0}) c T Q → walk c T ≡ ok Q
walk-part c S R T Q g s t i h =
    let F : ℕ → Conjuncts → Type 0 = λ l X. Fine X in
    let w = walk-goes c S R g in
    goes-walk F (λ l X f. f) c T Q (goes-part F (λ l X. Unit {0}) F c S R T Q w h t i (last-fine c S R w s))
