-- The rounds of a while one by one, light or not.
use mathlib.Core.Bool.{Bool}
use mathlib.Core.List.{List}
use mathlib.Core.Path.{◌≡◌, sym, ap, ap₂, subst, ◌∙◌}
use Prim.Native.Nat.{ℕ, suc, ◌+◌, ◌-◌, ◌*◌, ◌≤◌, ◌<◌}
use native.Mathlib.Omega.{arith}
use lib.ListN.{length}
use Rattle.model.specs.Code.{Code}
use Rattle.model.specs.Conjunct.{Conjuncts}
use Rattle.model.specs.Refusals.{Out, ok, refused, ◌>>=◌, never_settles}
use Rattle.model.specs.Sizes.{most_rounds}
use Rattle.model.specs.TidySets.{Tidy}
use Rattle.model.proofs.Basics.Results.{gives_ok}
use Rattle.code_table.specs.Table.{table_words, table_of, stmts, mates}
use Rattle.rules.specs.Answers.{Answer, answered, Below}
use Rattle.refusals.specs.Answers.{number_of}
use Rattle.refusals.specs.declared.Refusal.{Refusal}
use Rattle.refusals.specs.declared.Refusal.TheVariants.{NeverSettles}
use Rattle.std.specs.Prelude.{Result, Ok, Err}
use Rattle.sets.specs.Region.{region_words, set_of}
use Rattle.walk.specs.Light.{Next, again, next_of, onward, rounds_by_lem, walk_by, loop_by}
use Rattle.walk.specs.Piece.{Lies, WalkedBy}
use Rattle.walk.specs.Turn.{Rounded, RoundsOpened, Closing, closed_as, Closed}
use Rattle.walk.specs.declared.Round.TheVariants.{Settled, Again}
use Rattle.walk.specs.declared.Round.{Round}
use Rattle.walk.proofs.Regions.{below_trans, below_less, below_set, below-table, walked_done, walked_refused, lies_on, walked_from}
use Rattle.walk.proofs.Kept.{KeptNext, next-tidy, by_tidy}

-- ---- one round, of which k are over

module _ (light : Bool) (body : Conjuncts → Out Conjuncts) (D : Conjuncts) (k : ℕ) where
  rounds-over : most_rounds ≤ k → (S X : Conjuncts) → rounds_by_lem light (most_rounds - k) body D S X ≡ refused never_settles
  unfolding rounds_by_lem
  rounds-over h S X = let e : most_rounds - k ≡ 0 = omega arith in rw e

  module _ (h : k < most_rounds) (S X : Conjuncts) where
    one_more : most_rounds - k ≡ suc (most_rounds - (k + 1))
    one_more = omega arith

    round-refused : (n : ℕ) → body X ≡ refused n → rounds_by_lem light (most_rounds - k) body D S X ≡ refused n
    unfolding rounds_by_lem
    round-refused n e = rw (one_more, e)

    round-closed : (B : Conjuncts) → body X ≡ ok B → (N : Out Next) → next_of light D S B ≡ N
        → rounds_by_lem light (most_rounds - k) body D S X ≡ (N >>= onward (rounds_by_lem light (most_rounds - (k + 1)) body D))
    unfolding rounds_by_lem
    round-closed B e N l = rw (one_more, e) (ap (◌>>= onward (rounds_by_lem light (most_rounds - (k + 1)) body D)) l)

-- ---- the rounds so far

module _ (light : Bool) (p q b : ℕ) (s₀ : List ℕ) where
  -- s is at the start of the round k
  pub record InRounds (k : ℕ) (s : List ℕ) : Type 0 where
    pub same_length : length s ≡ length s₀
    pub table : table_of 0 s ≡ table_of 0 s₀
    pub kept : set_of s b ≡ set_of s₀ b
    pub below : Below b s₀ s
    pub round-tidy : Tidy (set_of s (b + region_words))
    pub walk-tidy : Tidy (set_of s (b + 2 * region_words))
    pub same-rounds : (c : Code) → Lies s₀ c p q → loop_by light c (set_of s₀ b)
        ≡ rounds_by_lem light (most_rounds - k) (walk_by light c) (set_of s₀ b) (set_of s (b + region_words)) (set_of s (b + 2 * region_words))

-- the set was copied from e to s₀
pub record RoundsFrom (b : ℕ) (e s₀ : List ℕ) : Type 0 where
  pub opened : RoundsOpened b e s₀
  pub room : b + 4 * region_words ≤ length s₀
  pub same_length : length s₀ ≡ length e
  pub behind : table_words ≤ b
  pub table : table_of 0 s₀ ≡ table_of 0 e
  pub tidy : Tidy (set_of e b)

module _ (light : Bool) (p q b : ℕ) (e s₀ : List ℕ) (f : RoundsFrom b e s₀) where
  -- what holds by the words of s₀ holds by those of e
  from-entry : (a : Answer) (t : List ℕ) → ((c : Code) → Lies s₀ c p q → loop_by light c (set_of s₀ b) ≡ answered a (set_of t (b + region_words)))
      → set_of t b ≡ set_of s₀ b → Below b s₀ t → Rounded light a p q b e t
  from-entry a t h same below = record {
    given = λ c z. ap (loop_by light c) (sym f.opened.same) ∙ h c (lies_on e s₀ f.table c p q z);
    same = same ∙ f.opened.same;
    below = below_trans b e s₀ t f.opened.below below;
  }

  module _ (k : ℕ) (s : List ℕ) (g : InRounds light p q b s₀ k s) where
    pub never_settled : most_rounds ≤ k → Rounded light (Err NeverSettles) p q b e s
    never_settled h =
        from-entry (Err NeverSettles) s
        (λ c z. g.same-rounds c z ∙ rounds-over light (walk_by light c) (set_of s₀ b) k h (set_of s (b + region_words)) (set_of s (b + 2 * region_words)))
        g.kept g.below

    -- the body was walked from s to t
    module _ (more : k < most_rounds) (r : Answer) (t : List ℕ) (same-t : length t ≡ length s)
        (walked : WalkedBy light (stmts s) (mates s) r p q (b + 2 * region_words) s t) where
      here : WalkedBy light (stmts s₀) (mates s₀) r p q (b + 2 * region_words) s t
      here = walked_from s₀ s g.table light r p q (b + 2 * region_words) t walked

      to_t : Below b s₀ t
      to_t = below_trans b s₀ s t g.below (below_less b (b + 2 * region_words) s t (omega arith) walked.1)

      start_t : set_of t b ≡ set_of s₀ b
      start_t = below_set s t b (b + 2 * region_words) same-t (omega arith) (omega (arith, f.room, g.same_length)) walked.1 ∙ g.kept

      round_t : set_of t (b + region_words) ≡ set_of s (b + region_words)
      round_t = below_set s t (b + region_words) (b + 2 * region_words) same-t (omega arith) (omega (arith, f.room, g.same_length)) walked.1

      pub body_refused : (n : Refusal) → r ≡ Err n → Rounded light (Err n) p q b e t
      body_refused n a =
          from-entry (Err n) t (λ c z.
          g.same-rounds c z
          ∙ round-refused light (walk_by light c) (set_of s₀ b) k more (set_of s (b + region_words)) (set_of s (b + 2 * region_words)) (number_of n)
          (walked_refused light (stmts s₀) (mates s₀) r p q (b + 2 * region_words) s t here n a c z))
          start_t to_t

      module _ (told : r ≡ Ok tt) where
        gave : (c : Code) → Lies s₀ c p q → walk_by light c (set_of s (b + 2 * region_words)) ≡ ok (set_of t (b + 2 * region_words))
        gave = walked_done light (stmts s₀) (mates s₀) r p q (b + 2 * region_words) s t here told

        pub closing : (c : Code) → Lies e c p q → Closing b t
        closing c z = record {
          room = omega (arith, f.room, g.same_length, same-t);
          start = subst Tidy (sym (start_t ∙ f.opened.same)) f.tidy;
          round = subst Tidy (sym round_t) g.round-tidy;
          given = gives_ok Tidy (walk_by light c (set_of s (b + 2 * region_words))) (set_of t (b + 2 * region_words)) (gave c (lies_on e s₀ f.table c p q z))
              (by_tidy light c (set_of s (b + 2 * region_words)) g.walk-tidy);
        }

        -- the round was closed from t to u
        module _ (u : List ℕ) (same_u : length u ≡ length t) (x : Result Round Refusal) (closed : Closed light x b t u) where
          to_u : Below b s₀ u
          to_u = below_trans b s₀ t u to_t closed.below

          start_u : set_of u b ≡ set_of s₀ b
          start_u = closed.same ∙ start_t

          next_as : (y : Result Round Refusal) → x ≡ y → next_of light (set_of s₀ b) (set_of s (b + region_words)) (set_of t (b + 2 * region_words))
              ≡ closed_as y (set_of u (b + region_words)) (set_of u (b + 2 * region_words))
          next_as y a =
              ap₂ (λ D S. next_of light D S (set_of t (b + 2 * region_words))) (sym start_t) (sym round_t) ∙ closed.next
              ∙ ap (λ z. closed_as z (set_of u (b + region_words)) (set_of u (b + 2 * region_words))) a

          ended : (y : Result Round Refusal) → x ≡ y → (c : Code) → Lies s₀ c p q → loop_by light c (set_of s₀ b)
              ≡ (closed_as y (set_of u (b + region_words)) (set_of u (b + 2 * region_words))
              >>= onward (rounds_by_lem light (most_rounds - (k + 1)) (walk_by light c) (set_of s₀ b)))
          ended y a c z =
              g.same-rounds c z
              ∙ round-closed light (walk_by light c) (set_of s₀ b) k more (set_of s (b + region_words)) (set_of s (b + 2 * region_words)) (set_of t (b + 2 * region_words)) (gave c z)
              (closed_as y (set_of u (b + region_words)) (set_of u (b + 2 * region_words))) (next_as y a)

          pub closing-refused : (n : Refusal) → x ≡ Err n → Rounded light (Err n) p q b e u
          closing-refused n a = from-entry (Err n) u (ended (Err n) a) start_u to_u

          pub rounds-settled : x ≡ Ok Settled → Rounded light (Ok tt) p q b e u
          rounds-settled a = from-entry (Ok tt) u (ended (Ok Settled) a) start_u to_u

          pub next-round : x ≡ Ok Again → (c : Code) → Lies e c p q → InRounds light p q b s₀ (k + 1) u
          next-round a c z =
              let ready = closing c z in
              let tidy =
              gives_ok (KeptNext Tidy) (next_of light (set_of s₀ b) (set_of s (b + region_words)) (set_of t (b + 2 * region_words)))
              (again (set_of u (b + region_words)) (set_of u (b + 2 * region_words))) (next_as (Ok Again) a)
              (next-tidy light (set_of s₀ b) (set_of s (b + region_words)) (set_of t (b + 2 * region_words)) (subst Tidy (sym f.opened.same) f.tidy)
              g.round-tidy ready.given) in
              let same_length : length u ≡ length s₀ = same_u ∙ same-t ∙ g.same_length in
              record {
                same_length = same_length;
                table = below-table b s₀ u f.behind (omega (arith, f.room)) same_length to_u;
                kept = start_u;
                below = to_u;
                round-tidy = tidy.0;
                walk-tidy = tidy.1;
                same-rounds = ended (Ok Again) a;
              }
