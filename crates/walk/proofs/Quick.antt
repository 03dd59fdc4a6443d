-- Light rounds that settle, and one round on all that they come to, are the rounds of the definition: the same sets, in the same rounds.
-- The idea is in the model's `DeltaRounds`; here the light walk is one without limits (`Comes`), and its rounds keep `Delta`.
use mathlib.Core.Bool.{true, false}
use mathlib.Core.List.{[], ◌∷◌}
use mathlib.Core.Path.{◌≡◌, refl, sym, subst, ◌∙◌}
use Prim.Native.Nat.{ℕ, zero, suc, ◌+◌}
use native.Mathlib.Omega.{arith}
use Rattle.model.specs.Code.{Code, done, step, branch, loop}
use Rattle.model.specs.Conjunct.{Conjuncts, union_of, limits}
use Rattle.model.specs.Refusals.{Out, ok, ◌>>=◌, never_settles}
use Rattle.model.specs.Sizes.{most_rounds}
use Rattle.model.specs.TidySets.{Canon, Tidy}
use Rattle.model.specs.Walk.{back, joined, walk}
use Rattle.model.proofs.Walks.DeltaRounds.{Delta, delta_first, delta_again, delta_last, settles_rounds}
use Rattle.model.proofs.Conjuncts.Remains.{Remains, remains_part}
use Rattle.model.proofs.Basics.Results.{bind_ok, bind_assoc, gives_ok, ok_eq, refused-ok}
use Rattle.model.proofs.Walks.Unlimited.{Comes, Settles, comes_canon, comes_append, comes_step, comes_branch, comes_loop}
use Rattle.sets.specs.Minus.{minus}
use Rattle.sets.proofs.Differing.{minus_remains}
use Rattle.walk.specs.Light.{again, by_new_lem, next_of, onward, rounds_by_lem, lightly, loop_by}
use Rattle.walk.proofs.Ways.{rounds_by}
use Rattle.walk.proofs.Kept.{by_tidy, rounds-tidy}

module _ (body : Code) (f : Conjuncts → Out Conjuncts) (comes : (S R : Conjuncts) → Canon S → f S ≡ ok R → Comes body S R) (D : Conjuncts) where
  light_settles : (n k : ℕ) (all new R : Conjuncts) → k + n ≡ most_rounds → Delta body D k all new → rounds_by_lem true n f D all new ≡ ok R
      → Settles body most_rounds D D R
  unfolding rounds_by_lem
  light_settles zero k all new R e d h = absurd (refused-ok never_settles R h)
  light_settles (suc n) k all new R e d h =
      let r = bind_ok (f new) (λ B. next_of true D all B >>= onward (rounds_by_lem true n f D)) R h in
      let g = comes new r.0 d.new-canon r.1 in
      go r.0 g (minus r.0 all) (minus_remains r.0 all (comes_canon body new r.0 d.new-canon g)) r.2
      (λ U N d'. light_settles n (k + 1) U N R (omega arith) d')
    where
      go : (I : Conjuncts) → Comes body new I → (N : Conjuncts) → Remains N I all → (by_new_lem all N >>= onward (rounds_by_lem true n f D)) ≡ ok R
          → ((U N : Conjuncts) → Delta body D (k + 1) U N → rounds_by_lem true n f D U N ≡ ok R → Settles body most_rounds D D R)
          → Settles body most_rounds D D R
      go I g [] m s ih = subst (Settles body most_rounds D D) (ok_eq all R s) (delta_last body D k all new d (omega arith) I g (remains_part I all m))
      go I g (x ∷ N) m s ih =
          let next = onward (rounds_by_lem true n f D) in
          let b = bind_ok (limits (union_of (x ∷ N) all)) (λ U. rounds_by_lem true n f D U (x ∷ N)) R (sym (bind_assoc (limits (union_of (x ∷ N) all)) (λ U. ok (again U (x ∷ N))) next) ∙ s) in
          ih b.0 (x ∷ N) (delta_again body D k all new d (omega arith) I g (x ∷ N) b.0 m b.1) b.2

-- a result of the light walk is one without limits
light_comes : (c : Code) (S R : Conjuncts) → Canon S → lightly c S ≡ ok R → Comes c S R
unfolding lightly
light_comes done S R s h = ok_eq S R h
light_comes (step l i rest) S R s h =
    let r = bind_ok (lightly rest S) (back l i) R h in
    comes_append (step l i done) rest S r.0 R (light_comes rest S r.0 s r.1) (comes_step l i r.0 R r.2)
light_comes (branch l v y n rest) S R s h =
    let r = bind_ok (lightly rest S) (joined (lightly y) (lightly n)) R h in
    let a = bind_ok (lightly y r.0) (λ A. lightly n r.0 >>= λ B. limits (union_of A B)) R r.2 in
    let b = bind_ok (lightly n r.0) (λ B. limits (union_of a.0 B)) R a.2 in
    let g = light_comes rest S r.0 s r.1 in
    let c = comes_canon rest S r.0 s g in
    comes_append (branch l v y n done) rest S r.0 R g
    (comes_branch l v y n r.0 a.0 b.0 R (light_comes y r.0 a.0 c a.1) (light_comes n r.0 b.0 c b.1) b.2)
light_comes (loop l v body rest) S R s h =
    let r = bind_ok (lightly rest S) (λ D. rounds_by_lem true most_rounds (lightly body) D D D) R h in
    let g = light_comes rest S r.0 s r.1 in
    let c = comes_canon rest S r.0 s g in
    comes_append (loop l v body done) rest S r.0 R g
    (comes_loop l v body r.0 R (light_settles body (lightly body) (light_comes body) r.0 most_rounds 0 r.0 r.0 R refl (delta_first body r.0 c) r.2))

module _ (body : Code) (D R : Conjuncts) (tidy : Tidy D) (light : loop_by true body D ≡ ok R) where
  -- what light rounds come to is tidy
  pub light_tidy : Tidy R
  light_tidy = gives_ok Tidy (loop_by true body D) R light (rounds-tidy true (lightly body) (by_tidy true body) D tidy most_rounds D D tidy tidy)

  -- and where the body's walk of it has a result, the definition's rounds come to it too
  pub light_confirmed : (B : Conjuncts) → walk body R ≡ ok B → loop_by false body D ≡ ok R
  light_confirmed B w =
      let settles = light_settles body (lightly body) (light_comes body) D most_rounds 0 D D R refl (delta_first body D tidy.canon) light in
      sym (rounds_by (walk body) most_rounds D D) ∙ settles_rounds body D R B tidy.canon settles light_tidy.fine w
