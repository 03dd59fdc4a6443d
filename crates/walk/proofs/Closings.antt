-- The end of a round, from what the working functions leave in the regions.
use mathlib.Core.Bool.{true, false, cond}
use mathlib.Core.List.{List, [], ◌∷◌}
use mathlib.Core.Logic.{inl, inr}
use mathlib.Core.Path.{◌≡◌, refl, sym, ap, ap₂, subst, ◌∙◌}
use Prim.Native.Nat.{ℕ, ◌+◌, ◌*◌, ◌≤◌, ◌<◌}
use native.Mathlib.Omega.{arith}
use lib.ListN.{length}
use Rattle.model.specs.Conjunct.{Conjuncts, union_of, same, limits}
use Rattle.model.specs.Refusals.{Out, ok, refused, ◌>>=◌}
use Rattle.model.specs.TidySets.{Tidy}
use Rattle.sets.specs.Minus.{minus}
use Rattle.sets.specs.Region.{region_words, set_of, Within}
use Rattle.sets.proofs.Rows.{frame}
use Rattle.walk.specs.Light.{Next, settled, again, by_new_lem}
use Rattle.walk.specs.Turn.{Closed}
use Rattle.refusals.specs.Answers.{number_of}
use Rattle.refusals.specs.declared.Refusal.{Refusal}
use Rattle.std.specs.Prelude.{Ok, Err}
use Rattle.walk.specs.declared.Round.TheVariants.{Settled, Again}
use Rattle.walk.proofs.Kept.{minus-tidy}
use Rattle.walk.proofs.Regions.{below_trans, within-below}

-- ---- by the definition: the union from s to t, and its copy from t to u

module _ (s t : List ℕ) (b : ℕ) (room : b + 3 * region_words ≤ length s) (same-t : length t ≡ length s) (w : Within (b + 2 * region_words) s t) where
  start_t : set_of t b ≡ set_of s b
  start_t = frame s t (b + 2 * region_words) b same-t (omega arith) (inr (omega arith)) w

  round_t : set_of t (b + region_words) ≡ set_of s (b + region_words)
  round_t = frame s t (b + 2 * region_words) (b + region_words) same-t (omega arith) (inr (omega arith)) w

  next : Conjuncts → Out Next
  next U = ok (cond (same (set_of s (b + region_words)) U) (settled U) (again U U))

  pub start-refused : (n : Refusal) → limits (union_of (set_of s b) (set_of s (b + 2 * region_words))) ≡ refused (number_of n) → Closed false (Err n) b s t
  unfolding next
  start-refused n e = record { next = ap (◌>>= next) e; same = start_t; below = within-below b (b + 2 * region_words) s t (omega arith) w }

  module _ (united : limits (union_of (set_of s b) (set_of s (b + 2 * region_words))) ≡ ok (set_of t (b + 2 * region_words))) (u : List ℕ)
      (same_u : length u ≡ length t) (copied : set_of u (b + region_words) ≡ set_of t (b + 2 * region_words)) (v : Within (b + region_words) t u) where
    start_u : set_of u b ≡ set_of s b
    start_u = frame t u (b + region_words) b same_u (omega arith) (inr (omega arith)) v ∙ start_t

    given_u : set_of u (b + 2 * region_words) ≡ set_of t (b + 2 * region_words)
    given_u = frame t u (b + region_words) (b + 2 * region_words) same_u (omega arith) (inl (omega arith)) v

    pub start-settled : same (set_of t (b + region_words)) (set_of t (b + 2 * region_words)) ≡ true → Closed false (Ok Settled) b s u
    unfolding next
    start-settled q =
        let U = set_of t (b + 2 * region_words) in
        record {
          next = ap (◌>>= next) united ∙ ap (λ z. ok (cond z (settled U) (again U U))) (ap (λ S. same S U) (sym round_t) ∙ q) ∙ ap (λ R. ok (settled R)) (sym copied);
          same = start_u;
          below = below_trans b s t u (within-below b (b + 2 * region_words) s t (omega arith) w) (within-below b (b + region_words) t u (omega arith) v);
        }

    pub start-again : same (set_of t (b + region_words)) (set_of t (b + 2 * region_words)) ≡ false → Closed false (Ok Again) b s u
    unfolding next
    start-again q =
        let U = set_of t (b + 2 * region_words) in
        record {
          next = ap (◌>>= next) united ∙ ap (λ z. ok (cond z (settled U) (again U U))) (ap (λ S. same S U) (sym round_t) ∙ q)
              ∙ ap₂ (λ S X. ok (again S X)) (sym copied) (sym given_u);
          same = start_u;
          below = below_trans b s t u (within-below b (b + 2 * region_words) s t (omega arith) w) (within-below b (b + region_words) t u (omega arith) v);
        }

-- ---- light: what is new from s to t, the union from t to u, and the copy of what is new from u to v

some-new : (S N : Conjuncts) → 0 < length N → by_new_lem S N ≡ (limits (union_of N S) >>= λ U. ok (again U N))
some-new S [] h = absurd (omega arith)
some-new S (e ∷ N) h = refl

none-new : (S N : Conjuncts) → length N ≡ 0 → by_new_lem S N ≡ ok (settled S)
none-new S [] h = refl
none-new S (e ∷ N) h = absurd (omega arith)

module _ (s t : List ℕ) (b : ℕ) (room : b + 4 * region_words ≤ length s) (same-t : length t ≡ length s)
    (new : set_of t (b + 3 * region_words) ≡ minus (set_of s (b + 2 * region_words)) (set_of s (b + region_words))) (w : Within (b + 3 * region_words) s t) where
  begun : set_of t b ≡ set_of s b
  begun = frame s t (b + 3 * region_words) b same-t (omega arith) (inr (omega arith)) w

  all_t : set_of t (b + region_words) ≡ set_of s (b + region_words)
  all_t = frame s t (b + 3 * region_words) (b + region_words) same-t (omega arith) (inr (omega arith)) w

  pub nothing-new : length (set_of t (b + 3 * region_words)) ≡ 0 → Closed true (Ok Settled) b s t
  nothing-new h = record {
    next = ap (by_new_lem (set_of s (b + region_words))) (sym new) ∙ none-new (set_of s (b + region_words)) (set_of t (b + 3 * region_words)) h ∙ ap (λ S. ok (settled S)) (sym all_t);
    same = begun;
    below = within-below b (b + 3 * region_words) s t (omega arith) w;
  }

  pub new-tidy : Tidy (set_of s (b + 2 * region_words)) → Tidy (set_of t (b + 3 * region_words))
  new-tidy h =
      let B = set_of s (b + 2 * region_words) in
      let S = set_of s (b + region_words) in
      subst Tidy (sym new) (minus-tidy B S h)

  pub all-tidy : Tidy (set_of s (b + region_words)) → Tidy (set_of t (b + region_words))
  all-tidy h = subst Tidy (sym all_t) h

  module _ (some : 0 < length (set_of t (b + 3 * region_words))) (u : List ℕ) (same_u : length u ≡ length t) (x : Within (b + region_words) t u) where
    joins : by_new_lem (set_of s (b + region_words)) (minus (set_of s (b + 2 * region_words)) (set_of s (b + region_words)))
        ≡ (limits (union_of (set_of t (b + 3 * region_words)) (set_of t (b + region_words))) >>= λ U. ok (again U (set_of t (b + 3 * region_words))))
    joins = ap₂ by_new_lem (sym all_t) (sym new) ∙ some-new (set_of t (b + region_words)) (set_of t (b + 3 * region_words)) some

    begun_u : set_of u b ≡ set_of s b
    begun_u = frame t u (b + region_words) b same_u (omega arith) (inr (omega arith)) x ∙ begun

    pub new-refused : (n : Refusal) → limits (union_of (set_of t (b + 3 * region_words)) (set_of t (b + region_words))) ≡ refused (number_of n) → Closed true (Err n) b s u
    new-refused n e = record {
      next = joins ∙ ap (◌>>= λ U. ok (again U (set_of t (b + 3 * region_words)))) e;
      same = begun_u;
      below = below_trans b s t u (within-below b (b + 3 * region_words) s t (omega arith) w) (within-below b (b + region_words) t u (omega arith) x);
    }

    module _ (united : limits (union_of (set_of t (b + 3 * region_words)) (set_of t (b + region_words))) ≡ ok (set_of u (b + region_words))) (v : List ℕ)
        (same-v : length v ≡ length u) (copied : set_of v (b + 2 * region_words) ≡ set_of u (b + 3 * region_words)) (y : Within (b + 2 * region_words) u v) where
      pub new-again : Closed true (Ok Again) b s v
      new-again =
          let all-v = frame u v (b + 2 * region_words) (b + region_words) same-v (omega arith) (inr (omega arith)) y in
          let new-u = frame t u (b + region_words) (b + 3 * region_words) same_u (omega arith) (inl (omega arith)) x in
          record {
            next = joins ∙ ap (◌>>= λ U. ok (again U (set_of t (b + 3 * region_words)))) united ∙ ap₂ (λ S X. ok (again S X)) (sym all-v) (sym (copied ∙ new-u));
            same = frame u v (b + 2 * region_words) b same-v (omega arith) (inr (omega arith)) y ∙ begun_u;
            below =
                below_trans b s u v
                (below_trans b s t u (within-below b (b + 3 * region_words) s t (omega arith) w) (within-below b (b + region_words) t u (omega arith) x))
                (within-below b (b + 2 * region_words) u v (omega arith) y);
          }
