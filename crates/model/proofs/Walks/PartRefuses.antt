-- A part of a set whose walk has a result is refused by 11 or not at all, and what it comes to is a part of that result.
-- The idea: by the piece of program; every rule of the part meets a part of the set that the larger walk last has there, which is
-- within the limits, so nothing but a loop that does not settle can refuse. A larger set may settle where its part does not.
-- Assumes nothing.
use mathlib.Core.Path.{◌≡◌, refl, sym, subst}
use mathlib.Core.Bool.{true, false}
use Prim.Native.Nat.{ℕ, zero, suc}
use Rattle.model.specs.Code.{Code, done, step, branch, loop}
use Rattle.model.specs.Conjunct.{Conjuncts, union_of, same, limits}
use Rattle.model.specs.Refusals.{Out, ok, ◌>>=◌, never_settles}
use Rattle.model.specs.Sizes.{most_rounds}
use Rattle.model.specs.Walk.{before, gather, back, rounds, joined, walk}
use Rattle.model.proofs.Conjuncts.Canonical.{union_canon, union_mono, union_left}
use Rattle.model.proofs.Conjuncts.Gather.{gather-canon, gather_mono}
use Rattle.model.proofs.Walks.Goes.{walk-goes, goes-walk}
use Rattle.model.proofs.Conjuncts.Limits.{limits_inv, fine-limits, sub-fine}
use Rattle.model.proofs.Walks.OneResult.{goes-canon}
use Rattle.model.proofs.Walks.Paths.{Goes}
use Rattle.model.proofs.Walks.PartWalks.{rounds-kept, rounds-settled}
use Rattle.model.proofs.Basics.Results.{Ends, ends_bind, bind_ok, ok_eq}
use Rattle.model.proofs.Basics.Tests.{case}
use Rattle.model.specs.TidySets.{Canon, Mem, Sub, Fine}

-- a canonical part of R, or refusal 11
abbrev pub PartOr11 : Conjuncts → Out Conjuncts → Type 0
PartOr11 R o = Ends (λ Q. Canon Q × Sub Q R) (λ n. n ≡ never_settles) o

then_part : (D R : Conjuncts) (o : Out Conjuncts) (f : Conjuncts → Out Conjuncts) → PartOr11 D o → ((X : Conjuncts) → Canon X → Sub X D → PartOr11 R (f X)) → PartOr11 R (o >>= f)
then_part D R o f h k = ends_bind (λ Q. Canon Q × Sub Q D) (λ Q. Canon Q × Sub Q R) (λ n. n ≡ never_settles) o f h (λ X x. k X x.0 x.1)

limits-part : (X R : Conjuncts) → Canon X → Canon R → Sub X R → Fine R → PartOr11 R (limits X)
limits-part X R x r s f = subst (PartOr11 R) (sym (fine-limits X (sub-fine X R x r s f))) (x, s)

-- rounds within R
module _ (body : Conjuncts → Out Conjuncts) (D B R : Conjuncts) (r : Canon R) (f : Fine R)
    (within : (S : Conjuncts) → Canon S → Sub S R → PartOr11 B (body S)) (adds : Sub (union_of D B) R) where
  rounds_or : (n : ℕ) (S : Conjuncts) → Canon S → Sub S R → PartOr11 R (rounds n body D S)
  unfolding rounds
  rounds_or zero S c s = refl
  rounds_or (suc n) S c s =
      then_part B R (body S) (λ B'. limits (union_of D B') >>= more) (within S c s)
      (λ B' b i. then_part R R (limits (union_of D B')) more
      (limits-part (union_of D B') R (union_canon D B' b) r (λ x m. adds x (union_mono D B' D B (λ y k. k) i x m)) f)
      (λ U u j. case (same S U) (λ z. PartOr11 R (elim z [ true ↦ ok U | false ↦ rounds n body D U ])) (λ t. (u, j)) (λ t. rounds_or n U u j)))
    where
      more : Conjuncts → Out Conjuncts
      more U = elim (same S U) [ true ↦ ok U | false ↦ rounds n body D U ]

pub part_refuses : (c : Code) (S R T : Conjuncts) → walk c S ≡ ok R → Canon S → Canon T → Sub T S → PartOr11 R (walk c T)
unfolding walk back
part_refuses done S R T h s t i = (t, λ x m. subst (Mem x) (ok_eq S R h) (i x m))
part_refuses (step l x rest) S R T h s t i =
    let r = bind_ok (walk rest S) (back l x) R h in
    let q = limits_inv (gather (before l x) r.0) R r.2 in
    then_part r.0 R (walk rest T) (back l x) (part_refuses rest S r.0 T r.1 s t i)
    (λ X c j. limits-part (gather (before l x) X) R (gather-canon (before l x) X) (subst Canon q.0 (gather-canon (before l x) r.0))
    (subst (Sub (gather (before l x) X)) q.0 (gather_mono (before l x) X r.0 j)) (subst Fine q.0 q.1))
part_refuses (branch l v y n rest) S R T h s t i =
    let F : ℕ → Conjuncts → Type 0 = λ l X. Fine X in
    let r = bind_ok (walk rest S) (joined (walk y) (walk n)) R h in
    let a = bind_ok (walk y r.0) (λ A. walk n r.0 >>= λ B. limits (union_of A B)) R r.2 in
    let b = bind_ok (walk n r.0) (λ B. limits (union_of a.0 B)) R a.2 in
    let q = limits_inv (union_of a.0 b.0) R b.2 in
    let d = goes-canon F rest S r.0 s (walk-goes rest S r.0 r.1) in
    let e = goes-canon F n r.0 b.0 d (walk-goes n r.0 b.0 b.1) in
    then_part r.0 R (walk rest T) (joined (walk y) (walk n)) (part_refuses rest S r.0 T r.1 s t i)
    (λ X c j. then_part a.0 R (walk y X) (λ A. walk n X >>= λ B. limits (union_of A B)) (part_refuses y r.0 a.0 X a.1 d c j)
    (λ A k₁ j₁. then_part b.0 R (walk n X) (λ B. limits (union_of A B)) (part_refuses n r.0 b.0 X b.1 d c j)
    (λ B k₂ j₂. limits-part (union_of A B) R (union_canon A B k₂) (subst Canon q.0 (union_canon a.0 b.0 e))
    (subst (Sub (union_of A B)) q.0 (union_mono A B a.0 b.0 j₁ j₂)) (subst Fine q.0 q.1))))
part_refuses (loop l v body rest) S R T h s t i =
    let F : ℕ → Conjuncts → Type 0 = λ l X. Fine X in
    let g = walk-goes (loop l v body rest) S R h in
    let last = rounds-settled (Goes F body) Fine most_rounds g.0 g.0 R g.2 in
    let r = goes-canon F (loop l v body rest) S R s g in
    let f = rounds-kept (Goes F body) Fine most_rounds g.0 g.0 R g.2 in
    let w = goes-walk F (λ l X z. z) body R last.0 last.1 in
    then_part g.0 R (walk rest T) (λ D. rounds most_rounds (walk body) D D) (part_refuses rest S g.0 T (goes-walk F (λ l X z. z) rest S g.0 g.1) s t i)
    (λ D c j. rounds_or (walk body) D last.0 R r f (λ X x k. part_refuses body R last.0 X w r x k)
    (λ x m. subst (Mem x) (sym last.2) (union_mono D last.0 g.0 last.0 j (λ y k. k) x m))
    most_rounds D c (λ x m. subst (Mem x) (sym last.2) (union_left x g.0 last.0 (j x m))))
