-- The rounds of a while, each on the new conjuncts only, and one round on all of them at the end: the same sets in the same rounds.
-- The idea: the body works on each conjunct by itself, so S(k+1) is S(k) with the walk of what is new in S(k). These walks know
-- no limits; but each set of the definition's rounds is a part of the last one, and where the walk of that has a result
-- a part's is not refused by 9 or 10.
-- Assumes nothing.
use mathlib.Core.Path.{◌≡◌, refl, sym, subst, ap, ◌∙◌}
use mathlib.Core.Logic.{inl, inr}
use mathlib.Core.List.{[]}
use Prim.Native.Nat.{ℕ, suc, ◌+◌, ◌-◌, ◌<◌}
use native.Mathlib.Omega.{arith}
use Rattle.model.specs.Code.{Code, done, loop}
use Rattle.model.specs.Conjunct.{Conjuncts, union_of, limits}
use Rattle.model.specs.Refusals.{ok}
use Rattle.model.specs.Sizes.{most_rounds}
use Rattle.model.specs.Walk.{rounds, walk}
use Rattle.model.proofs.Conjuncts.Canonical.{union_left, union_mono, union_canon, union_comm, union_assoc, union_absorb, union_nil, sub_self}
use Rattle.model.proofs.Walks.Goes.{rounds-walk}
use Rattle.model.proofs.Conjuncts.Limits.{limits_inv, sub-fine}
use Rattle.model.proofs.Walks.PartWalks.{rounds-settled, rounds-part, walk-part}
use Rattle.model.proofs.Conjuncts.Remains.{Remains, remains_part, remains_union}
use Rattle.model.specs.TidySets.{Canon, Mem, Sub, Fine}
use Rattle.model.proofs.Walks.Unlimited.{Comes, Settles, comes_canon, comes_mono, comes_empty, comes_union, comes_loop}

-- ---- the rounds so far

-- after k rounds over D: `all` is S(k), and `new` what S(k−1), already walked, is short of; before the first, nothing is walked
pub record Delta (body : Code) (D : Conjuncts) (k : ℕ) (all new : Conjuncts) : Type 0 where
  pub walked : Conjuncts
  pub image : Conjuncts
  pub walked_canon : Canon walked
  pub new-canon : Canon new
  pub comes : Comes body walked image
  pub parts : union_of walked new ≡ all
  pub whole : union_of D image ≡ all
  pub leads : (R : Conjuncts) → Settles body (most_rounds - k) D all R → Settles body most_rounds D D R

module _ (body : Code) (D : Conjuncts) where
  pub delta_first : Canon D → Delta body D 0 D D
  unfolding union_of
  delta_first c = record {
    walked = [];
    image = [];
    walked_canon = tt;
    new-canon = c;
    comes = comes_empty body;
    parts = refl;
    whole = union_nil D c;
    leads = λ R g. g;
  }

  -- the walk of what is new comes to I
  module _ (k : ℕ) (all new : Conjuncts) (d : Delta body D k all new) (h : k < most_rounds) (I : Conjuncts) (g : Comes body new I) where
    one_more : most_rounds - k ≡ suc (most_rounds - (k + 1))
    one_more = omega arith

    pub all-canon : Canon all
    all-canon = subst Canon d.parts (union_canon d.walked new d.new-canon)

    pub image_canon : Canon I
    image_canon = comes_canon body new I d.new-canon g

    -- so all of S(k) is walked
    all_comes : Comes body all (union_of d.image I)
    all_comes =
        subst (λ X. Comes body X (union_of d.image I)) d.parts (comes_union body d.walked new d.image I d.walked_canon d.new-canon d.comes g)

    next-set : union_of D (union_of d.image I) ≡ union_of all I
    next-set = sym (union_assoc D d.image I image_canon) ∙ ap (λ X. union_of X I) d.whole

    -- a round that leaves something new
    pub delta_next : (N : Conjuncts) → Remains N I all → Delta body D (k + 1) (union_of N all) N
    delta_next N r =
        let e : union_of D (union_of d.image I) ≡ union_of N all = next-set ∙ sym (remains_union N I all r image_canon all-canon) in
        record {
          walked = all;
          image = union_of d.image I;
          walked_canon = all-canon;
          new-canon = r.canon;
          comes = all_comes;
          parts = union_comm all N all-canon r.canon;
          whole = e;
          leads = λ R s.
              d.leads R (subst (λ n. Settles body n D all R) (sym one_more)
              (union_of d.image I, all_comes, tt, inr (subst (λ X. Settles body (most_rounds - (k + 1)) D X R) (sym e) s)));
        }

    -- the same, with the limits tested
    pub delta_again : (N U : Conjuncts) → Remains N I all → limits (union_of N all) ≡ ok U → Delta body D (k + 1) U N
    delta_again N U r e = subst (λ X. Delta body D (k + 1) X N) (limits_inv (union_of N all) U e).0 (delta_next N r)

    -- a round that leaves nothing new is the last
    pub delta_last : Sub I all → Settles body most_rounds D D all
    delta_last s =
        let e : all ≡ union_of D (union_of d.image I) = sym (next-set ∙ union_comm all I all-canon image_canon ∙ union_absorb I all all-canon s) in
        d.leads all (subst (λ n. Settles body n D all all) (sym one_more) (union_of d.image I, all_comes, tt, inl (e, e)))

-- ---- the round on all of them

-- where the rounds without limits settle, and the body's walk of the set that they come to has a result, they are the definition's
pub settles_rounds : (body : Code) (D R B : Conjuncts) → Canon D → Settles body most_rounds D D R → Fine R → walk body R ≡ ok B → rounds most_rounds (walk body) D D ≡ ok R
settles_rounds body D R B c g f w =
    rounds-walk (walk body) Walked Fine (λ X x. x) (λ X Y e. e) D most_rounds D R
    (rounds-part (λ X Y. Comes body X Y) Walked (λ X. Unit {0}) Fine D R (λ X x i. sub-fine X R x r_canon i f)
    (λ S Y s i k. (
      walk-part body R B S Y w r_canon s i k,
      comes_canon body S Y s k,
      subst (Sub (union_of D Y)) (sym last.2) (union_mono D Y D last.0 (sub_self D) (comes_mono body S R Y last.0 i k last.1)),
    ))
    most_rounds D R c (λ x m. subst (Mem x) (sym last.2) (union_left x D last.0 m)) g)
  where
    Walked : Conjuncts → Conjuncts → Type 0
    Walked X Y = walk body X ≡ ok Y

    last : (Y : Conjuncts) × Comes body R Y × (R ≡ union_of D Y)
    last = rounds-settled (λ X Y. Comes body X Y) (λ X. Unit {0}) most_rounds D D R g

    r_canon : Canon R
    r_canon = comes_canon (loop 0 0 body done) D R c (comes_loop 0 0 body D R g)

-- a while by its new conjuncts
pub delta_rounds : (body : Code) (D : Conjuncts) (k : ℕ) (all new I B : Conjuncts) → Canon D → Delta body D k all new → k < most_rounds → Comes body new I → Remains [] I all
    → Fine all → walk body all ≡ ok B
    → rounds most_rounds (walk body) D D ≡ ok all
delta_rounds body D k all new I B c d h g r f w = settles_rounds body D all B c (delta_last body D k all new d h I g (remains_part I all r)) f w
