-- Laws of the walk as a relation: it is the walk where its sets are within the limits, and it is monotone.
use mathlib.Core.Path.{◌≡◌, refl, sym, ◌∙◌, ap, subst}
use mathlib.Core.Logic.{◌⊎◌, inl, inr}
use mathlib.Core.Bool.{true, false}
use Prim.Native.Nat.{ℕ, zero, suc}
use Rattle.model.specs.Code.{Code, done, step, branch, loop}
use Rattle.model.specs.Conjunct.{Conjuncts, union_of, same, limits}
use Rattle.model.specs.Refusals.{Out, ok, ◌>>=◌, never_settles}
use Rattle.model.specs.Sizes.{most_rounds}
use Rattle.model.specs.Walk.{before, gather, back, rounds, joined, walk}
use Rattle.model.specs.TidySets.{Mem, Sub, Fine}
use Rattle.model.proofs.Conjuncts.Canonical.{union_mono}
use Rattle.model.proofs.Conjuncts.Gather.{gather_mono}
use Rattle.model.proofs.Conjuncts.Limits.{limits_inv, fine-limits}
use Rattle.model.proofs.Conjuncts.Order.{same_self, same_eq}
use Rattle.model.proofs.Walks.Paths.{Rounds, Goes}
use Rattle.model.proofs.Basics.Results.{bind_ok, ok_eq, refused-ok}
use Rattle.model.proofs.Basics.Tests.{case, true→T}

-- ---- rounds, over any body

module _ (body : Conjuncts → Conjuncts → Type 0) (K : Conjuncts → Type 0) (D : Conjuncts) where
  -- one that stays may stay for longer
  pub rounds_stay : (n : ℕ) (S B R : Conjuncts) → body S B → K (union_of D B) → S ≡ union_of D B → R ≡ union_of D B → Rounds body K (suc n) D (union_of D B) R
  rounds_stay n S B R h k p q = (B, subst (λ X. body X B) p h, k, inl (refl, q))

module _ (body : Conjuncts → Conjuncts → Type 0) (K : Conjuncts → Type 0) (D : Conjuncts) (one : (S B C : Conjuncts) → body S B → body S C → B ≡ C) where
  -- a set that the body leaves is all that the rounds come to
  rounds_stays : (n : ℕ) (S B R : Conjuncts) → body S B → S ≡ union_of D B → Rounds body K n D S R → R ≡ S
  rounds_stays zero S B R h p g = absurd g
  rounds_stays (suc n) S B R h p g = next (ap (union_of D) (one S g.0 B g.1 h) ∙ sym p) g.3 (rounds_stays n (union_of D g.0) B R)
    where
      next : union_of D g.0 ≡ S → ((S ≡ union_of D g.0) × (R ≡ union_of D g.0)) ⊎ Rounds body K n D (union_of D g.0) R
          → (body (union_of D g.0) B → union_of D g.0 ≡ union_of D B → Rounds body K n D (union_of D g.0) R → R ≡ union_of D g.0) → R ≡ S
      next e (inl s) ih = s.1 ∙ e
      next e (inr k) ih = ih (subst (λ X. body X B) (sym e) h) (e ∙ p) k ∙ e

  -- so where the sets are found equal the rounds have come to an end, and where they are not they go on
  rounds-end : (n : ℕ) (S B R : Conjuncts) → body S B → S ≡ union_of D B → ((S ≡ union_of D B) × (R ≡ union_of D B)) ⊎ Rounds body K n D (union_of D B) R → R ≡ union_of D B
  rounds-end n S B R h e (inl s) = s.1
  rounds-end n S B R h e (inr k) = rounds_stays n (union_of D B) B R (subst (λ X. body X B) e h) refl k

  rounds_on : (n : ℕ) (S B R : Conjuncts) → same S (union_of D B) ≡ false → ((S ≡ union_of D B) × (R ≡ union_of D B)) ⊎ Rounds body K n D (union_of D B) R → Rounds body K n D (union_of D B) R
  rounds_on n S B R t (inl s) = absurd (true→T (sym t ∙ subst (λ X. same S X ≡ true) s.0 (same_self S)))
  rounds_on n S B R t (inr k) = k

module _ (body body' : Conjuncts → Conjuncts → Type 0) (K K' : Conjuncts → Type 0) where
  -- lock step: two runs of rounds whose sets are related come to related sets
  pub rounds_lock : (E : Conjuncts → Conjuncts → Type 0) (D D' : Conjuncts)
      → ((S T B C : Conjuncts) → E S T → body S B → body' T C → E (union_of D B) (union_of D' C))
      → (n : ℕ) (S T R Q : Conjuncts) → E S T → Rounds body K n D S R → Rounds body' K' n D' T Q → E R Q
  rounds_lock E D D' f zero S T R Q s g h = absurd g
  rounds_lock E D D' f (suc n) S T R Q s g h =
      next n g.3 h.3 (rounds_lock E D D' f n (union_of D g.0) (union_of D' h.0) R Q up)
    where
      up : E (union_of D g.0) (union_of D' h.0)
      up = f S T g.0 h.0 s g.1 h.1

      next : (m : ℕ)
          → ((S ≡ union_of D g.0) × (R ≡ union_of D g.0)) ⊎ Rounds body K m D (union_of D g.0) R
          → ((T ≡ union_of D' h.0) × (Q ≡ union_of D' h.0)) ⊎ Rounds body' K' m D' (union_of D' h.0) Q
          → (Rounds body K m D (union_of D g.0) R → Rounds body' K' m D' (union_of D' h.0) Q → E R Q) → E R Q
      next m (inl p) (inl q) ih = subst (λ X. E X Q) (sym p.1) (subst (E (union_of D g.0)) (sym q.1) up)
      next zero (inl p) (inr k) ih = absurd k
      next (suc m) (inl p) (inr k) ih = ih (rounds_stay body K D m S g.0 R g.1 g.2 p.0 p.1) k
      next zero (inr k) (inl q) ih = absurd k
      next (suc m) (inr k) (inl q) ih = ih k (rounds_stay body' K' D' m T h.0 Q h.1 h.2 q.0 q.1)
      next m (inr k) (inr j) ih = ih k j

-- ---- larger sets come to larger sets

pub goes_mono : (K K' : ℕ → Conjuncts → Type 0) (c : Code) (S T R Q : Conjuncts) → Sub S T → Goes K c S R → Goes K' c T Q → Sub R Q
goes_mono K K' done S T R Q s g h = λ x m. subst (Mem x) h (s x (subst (Mem x) (sym g) m))
goes_mono K K' (step l i rest) S T R Q s g h =
    subst (λ X. Sub X Q) g.2 (subst (Sub (gather (before l i) g.0)) h.2
    (gather_mono (before l i) g.0 h.0 (goes_mono K K' rest S T g.0 h.0 s g.1 h.1)))
goes_mono K K' (branch l v y n rest) S T R Q s g h =
    let d = goes_mono K K' rest S T g.0 h.0 s g.3 h.3 in
    subst (λ X. Sub X Q) g.6 (subst (Sub (union_of g.1 g.2)) h.6
    (union_mono g.1 g.2 h.1 h.2 (goes_mono K K' y g.0 h.0 g.1 h.1 d g.4 h.4) (goes_mono K K' n g.0 h.0 g.2 h.2 d g.5 h.5)))
goes_mono K K' (loop l v body rest) S T R Q s g h =
    let d = goes_mono K K' rest S T g.0 h.0 s g.1 h.1 in
    rounds_lock (Goes K body) (Goes K' body) (K l) (K' l) Sub g.0 h.0
    (λ X Y B C e p q. union_mono g.0 B h.0 C d (goes_mono K K' body X Y B C e p q)) most_rounds g.0 h.0 R Q d g.2 h.2

-- ---- the walk itself

module _ (f : Conjuncts → Out Conjuncts) (body : Conjuncts → Conjuncts → Type 0) (K : Conjuncts → Type 0) (fine : (X : Conjuncts) → K X → Fine X)
    (does : (S B : Conjuncts) → body S B → f S ≡ ok B) (D : Conjuncts) where
  one : (S B C : Conjuncts) → body S B → body S C → B ≡ C
  one S B C g h = ok_eq B C (sym (does S B g) ∙ does S C h)

  pub rounds-walk : (n : ℕ) (S R : Conjuncts) → Rounds body K n D S R → rounds n f D S ≡ ok R
  unfolding rounds
  rounds-walk zero S R g = absurd g
  rounds-walk (suc n) S R g =
      let U = union_of D g.0 in
      let more : Conjuncts → Out Conjuncts = λ S'. elim (same S S') [ true ↦ ok S' | false ↦ rounds n f D S' ] in
      ap (◌>>= λ B. limits (union_of D B) >>= more) (does S g.0 g.1)
      ∙ ap (◌>>= more) (fine-limits U (fine U g.2))
      ∙ case (same S U) (λ z. (elim z [ true ↦ ok U | false ↦ rounds n f D U ]) ≡ ok R)
      (λ t. ap ok (sym (rounds-end body K D one n S g.0 R g.1 (same_eq S U t) g.3)))
      (λ t. rounds-walk n U R (rounds_on body K D one n S g.0 R t g.3))

module _ (K : ℕ → Conjuncts → Type 0) (fine : (l : ℕ) (X : Conjuncts) → K l X → Fine X) where
  -- where K keeps the sets within the limits, it is the walk
  pub goes-walk : (c : Code) (S R : Conjuncts) → Goes K c S R → walk c S ≡ ok R
  unfolding walk back
  goes-walk done S R g = ap ok g
  goes-walk (step l i rest) S R g =
      ap (◌>>= back l i) (goes-walk rest S g.0 g.1) ∙ ap limits g.2 ∙ fine-limits R (fine l R g.3)
  goes-walk (branch l v y n rest) S R g =
      ap (◌>>= joined (walk y) (walk n)) (goes-walk rest S g.0 g.3)
      ∙ ap (◌>>= λ A. walk n g.0 >>= λ B. limits (union_of A B)) (goes-walk y g.0 g.1 g.4)
      ∙ ap (◌>>= λ B. limits (union_of g.1 B)) (goes-walk n g.0 g.2 g.5)
      ∙ ap limits g.6 ∙ fine-limits R (fine l R g.7)
  goes-walk (loop l v body rest) S R g =
      ap (◌>>= λ D. rounds most_rounds (walk body) D D) (goes-walk rest S g.0 g.1)
      ∙ rounds-walk (walk body) (Goes K body) (K l) (fine l) (goes-walk body) g.0 most_rounds g.0 R g.2

module _ (f : Conjuncts → Out Conjuncts) (body : Conjuncts → Conjuncts → Type 0) (done-by : (S B : Conjuncts) → f S ≡ ok B → body S B) (D : Conjuncts) where
  walk-rounds : (n : ℕ) (S R : Conjuncts) → rounds n f D S ≡ ok R → Rounds body Fine n D S R
  unfolding rounds
  walk-rounds zero S R h = absurd (refused-ok never_settles R h)
  walk-rounds (suc n) S R h =
      let more : Conjuncts → Out Conjuncts = λ S'. elim (same S S') [ true ↦ ok S' | false ↦ rounds n f D S' ] in
      let r = bind_ok (f S) (λ B. limits (union_of D B) >>= more) R h in
      let s = bind_ok (limits (union_of D r.0)) more R r.2 in
      let q = limits_inv (union_of D r.0) s.0 s.1 in
      (r.0, done-by S r.0 r.1, q.1, last (union_of D r.0) (subst (λ S'. more S' ≡ ok R) (sym q.0) s.2) (λ X. walk-rounds n X R))
    where
      last : (U : Conjuncts) → (elim (same S U) [ true ↦ ok U | false ↦ rounds n f D U ]) ≡ ok R → ((X : Conjuncts) → rounds n f D X ≡ ok R → Rounds body Fine n D X R)
          → ((S ≡ U) × (R ≡ U)) ⊎ Rounds body Fine n D U R
      last U e ih =
          case (same S U) (λ z. (elim z [ true ↦ ok U | false ↦ rounds n f D U ]) ≡ ok R → ((S ≡ U) × (R ≡ U)) ⊎ Rounds body Fine n D U R)
          (λ t w. inl (same_eq S U t, sym (ok_eq U R w))) (λ t w. inr (ih U w)) e

-- and the walk is such
pub walk-goes : (c : Code) (S R : Conjuncts) → walk c S ≡ ok R → Goes (λ l X. Fine X) c S R
unfolding walk back
walk-goes done S R h = ok_eq S R h
walk-goes (step l i rest) S R h =
    let r = bind_ok (walk rest S) (back l i) R h in
    let q = limits_inv (gather (before l i) r.0) R r.2 in
    (r.0, walk-goes rest S r.0 r.1, q.0, subst Fine q.0 q.1)
walk-goes (branch l v y n rest) S R h =
    let r = bind_ok (walk rest S) (joined (walk y) (walk n)) R h in
    let a = bind_ok (walk y r.0) (λ A. walk n r.0 >>= λ B. limits (union_of A B)) R r.2 in
    let b = bind_ok (walk n r.0) (λ B. limits (union_of a.0 B)) R a.2 in
    let q = limits_inv (union_of a.0 b.0) R b.2 in
    (r.0, a.0, b.0, walk-goes rest S r.0 r.1, walk-goes y r.0 a.0 a.1, walk-goes n r.0 b.0 b.1, q.0, subst Fine q.0 q.1)
walk-goes (loop l v body rest) S R h =
    let r = bind_ok (walk rest S) (λ D. rounds most_rounds (walk body) D D) R h in
    (r.0, walk-goes rest S r.0 r.1, walk-rounds (walk body) (Goes (λ l X. Fine X) body) (walk-goes body) r.0 most_rounds r.0 R r.2)

-- so is the walk monotone
pub walk_mono : (c : Code) (S T R Q : Conjuncts) → walk c S ≡ ok R → walk c T ≡ ok Q → Sub S T → Sub R Q
walk_mono c S T R Q g h s = goes_mono (λ l X. Fine X) (λ l X. Fine X) c S T R Q s (walk-goes c S R g) (walk-goes c T Q h)
