-- The walk as a relation has one result, whatever is asked of its sets, and from a canonical set a canonical one.
-- The idea: by the piece of program; two runs of rounds go in lock step, so their sets stay equal.
-- Assumes nothing.
use mathlib.Core.Path.{◌≡◌, sym, ◌∙◌, ap, ap₂, subst}
use mathlib.Core.Logic.{inl, inr}
use Prim.Native.Nat.{ℕ, zero, suc}
use Rattle.model.specs.Code.{Code, done, step, branch, loop}
use Rattle.model.specs.Conjunct.{Conjuncts, union_of}
use Rattle.model.specs.Sizes.{most_rounds}
use Rattle.model.specs.Walk.{before, gather}
use Rattle.model.proofs.Conjuncts.Canonical.{union_canon}
use Rattle.model.proofs.Conjuncts.Gather.{gather-canon}
use Rattle.model.proofs.Walks.Goes.{rounds_lock}
use Rattle.model.proofs.Walks.Paths.{Rounds, After, Goes}
use Rattle.model.specs.TidySets.{Canon}

-- ---- less may be asked of the sets

module _ (body body' : Conjuncts → Conjuncts → Type 0) (K K' : Conjuncts → Type 0) (f : (S B : Conjuncts) → body S B → body' S B) (k : (X : Conjuncts) → K X → K' X) where
  rounds_weaken : (n : ℕ) (D S R : Conjuncts) → Rounds body K n D S R → Rounds body' K' n D S R
  rounds_weaken zero D S R g = g
  rounds_weaken (suc n) D S R g = (g.0, f S g.0 g.1, k (union_of D g.0) g.2, next g.3 (rounds_weaken n D (union_of D g.0) R))
    where
      next : After body K n D S (union_of D g.0) R → (Rounds body K n D (union_of D g.0) R → Rounds body' K' n D (union_of D g.0) R)
          → After body' K' n D S (union_of D g.0) R
      next (inl p) ih = inl p
      next (inr r) ih = inr (ih r)

pub goes_weaken : (K K' : ℕ → Conjuncts → Type 0) → ((l : ℕ) (X : Conjuncts) → K l X → K' l X) → (c : Code) (S R : Conjuncts) → Goes K c S R → Goes K' c S R
goes_weaken K K' f done S R g = g
goes_weaken K K' f (step l i rest) S R g = (g.0, goes_weaken K K' f rest S g.0 g.1, g.2, f l R g.3)
goes_weaken K K' f (branch l v y n rest) S R g =
    let d = goes_weaken K K' f rest S g.0 g.3 in
    (g.0, g.1, g.2, d, goes_weaken K K' f y g.0 g.1 g.4, goes_weaken K K' f n g.0 g.2 g.5, g.6, f l R g.7)
goes_weaken K K' f (loop l v body rest) S R g = (
  g.0,
  goes_weaken K K' f rest S g.0 g.1,
  rounds_weaken (Goes K body) (Goes K' body) (K l) (K' l) (goes_weaken K K' f body) (f l) most_rounds g.0 g.0 R g.2,
)

-- ---- one result

pub goes_unique : (K K' : ℕ → Conjuncts → Type 0) (c : Code) (S T R Q : Conjuncts) → S ≡ T → Goes K c S R → Goes K' c T Q → R ≡ Q
goes_unique K K' done S T R Q s g h = sym g ∙ s ∙ h
goes_unique K K' (step l i rest) S T R Q s g h = sym g.2 ∙ ap (gather (before l i)) (goes_unique K K' rest S T g.0 h.0 s g.1 h.1) ∙ h.2
goes_unique K K' (branch l v y n rest) S T R Q s g h =
    let d = goes_unique K K' rest S T g.0 h.0 s g.3 h.3 in
    let a = goes_unique K K' y g.0 h.0 g.1 h.1 d g.4 h.4 in
    let b = goes_unique K K' n g.0 h.0 g.2 h.2 d g.5 h.5 in
    sym g.6 ∙ ap₂ union_of a b ∙ h.6
goes_unique K K' (loop l v body rest) S T R Q s g h =
    let d = goes_unique K K' rest S T g.0 h.0 s g.1 h.1 in
    rounds_lock (Goes K body) (Goes K' body) (K l) (K' l) (λ X Y. X ≡ Y) g.0 h.0
    (λ X Y B C e p q. ap₂ union_of d (goes_unique K K' body X Y B C e p q)) most_rounds g.0 h.0 R Q d g.2 h.2

-- ---- canonical sets

pub goes-canon : (K : ℕ → Conjuncts → Type 0) (c : Code) (S R : Conjuncts) → Canon S → Goes K c S R → Canon R
goes-canon K done S R s g = subst Canon g s
goes-canon K (step l i rest) S R s g = subst Canon g.2 (gather-canon (before l i) g.0)
goes-canon K (branch l v y n rest) S R s g =
    subst Canon g.6 (union_canon g.1 g.2 (goes-canon K n g.0 g.2 (goes-canon K rest S g.0 s g.3) g.5))
goes-canon K (loop l v body rest) S R s g =
    rounds_lock (Goes K body) (Goes K body) (K l) (K l) (λ X Y. Canon X) g.0 g.0
    (λ X Y B C e p q. union_canon g.0 B (goes-canon K body X B e p)) most_rounds g.0 g.0 R R (goes-canon K rest S g.0 s g.1) g.2 g.2
