-- The two branches of an if one after the other.
use mathlib.Core.Bool.{Bool}
use mathlib.Core.Path.{◌≡◌, sym, ap, subst, ◌∙◌}
use mathlib.Core.List.{List}
use Prim.Native.Nat.{ℕ, ◌+◌, ◌*◌, ◌≤◌}
use native.Mathlib.Omega.{arith}
use lib.ListN.{length}
use Rattle.model.specs.Code.{Code, Stmt}
use Rattle.model.specs.Conjunct.{Conjuncts, union_of, limits}
use Rattle.model.specs.Refusals.{Out, ok, refused, ◌>>=◌}
use Rattle.model.specs.Walk.{joined}
use Rattle.model.specs.Placement.{Laid}
use Rattle.model.specs.TidySets.{Tidy}
use Rattle.model.proofs.Basics.Results.{gives_ok}
use Rattle.code_table.specs.Table.{table_words, table_of, stmts, mates}
use Rattle.rules.specs.Answers.{Answer, answered, Below}
use Rattle.refusals.specs.Answers.{number_of}
use Rattle.refusals.specs.declared.Refusal.{Refusal}
use Rattle.std.specs.Prelude.{Ok, Err}
use Rattle.sets.specs.Region.{region_words, set_of}
use Rattle.walk.proofs.Kept.{by_tidy}
use Rattle.walk.proofs.Regions.{below_trans, below_less, below_set, below-table, walked_done, walked_refused, walked_from}
use Rattle.walk.specs.Light.{walk_by}
use Rattle.walk.specs.Piece.{Lies, WalkedBy}
use Rattle.walk.specs.Turn.{Branches, BranchOpened, BranchSwitched}

module _ (light : Bool) (stmt : ℕ → Stmt) (mate : ℕ → ℕ) (p e f b : ℕ) (s₀ : List ℕ) where
  -- the branches on the labels from p up to e and from e + 1 up to f give o
  abbrev pub Branched : Out Conjuncts → Type 0
  Branched o = (y n : Code) → Laid stmt mate y p e → Laid stmt mate n (e + 1) f → joined (walk_by light y) (walk_by light n) (set_of s₀ b) ≡ o

  -- the set was copied from s₀ to s
  module _ (s : List ℕ) (room : b + 3 * region_words ≤ length s) (opened : BranchOpened b s₀ s) where
    -- the first branch was walked from s to t
    module _ (t : List ℕ) (same-t : length t ≡ length s) (r : Answer) (first : WalkedBy light stmt mate r p e (b + 2 * region_words) s t) where
      to_t : Below b s₀ t
      to_t = below_trans b s₀ s t opened.below (below_less b (b + 2 * region_words) s t (omega arith) first.1)

      pub first-refused : (k : Refusal) → r ≡ Err k → Branched (refused (number_of k)) × Below b s₀ t
      first-refused k a = (
        λ y n h g.
            ap (◌>>= λ A. walk_by light n (set_of s₀ b) >>= λ B. limits (union_of A B))
            (ap (walk_by light y) (sym opened.second) ∙ walked_refused light stmt mate r p e (b + 2 * region_words) s t first k a y h),
        to_t,
      )

      module _ (told : r ≡ Ok tt) where
        first_walk : (y : Code) → Laid stmt mate y p e → walk_by light y (set_of s₀ b) ≡ ok (set_of t (b + 2 * region_words))
        first_walk y h = ap (walk_by light y) (sym opened.second) ∙ walked_done light stmt mate r p e (b + 2 * region_words) s t first told y h

        -- the regions were turned over from t to u
        module _ (u : List ℕ) (same_u : length u ≡ length t) (turned : BranchSwitched b t u) where
          pub other-start : set_of u (b + 2 * region_words) ≡ set_of s₀ b
          other-start = turned.second ∙ below_set s t b (b + 2 * region_words) same-t (omega arith) (omega arith) first.1 ∙ opened.same

          -- the other branch was walked from u to v
          module _ (v : List ℕ) (same-v : length v ≡ length u) (r' : Answer) (other : WalkedBy light stmt mate r' (e + 1) f (b + 2 * region_words) u v) where
            to_v : Below b s₀ v
            to_v = below_trans b s₀ u v (below_trans b s₀ t u to_t turned.below) (below_less b (b + 2 * region_words) u v (omega arith) other.1)

            pub other-refused : (k : Refusal) → r' ≡ Err k → Branched (refused (number_of k)) × Below b s₀ v
            other-refused k a = (
              λ y n h g.
                  ap (◌>>= λ A. walk_by light n (set_of s₀ b) >>= λ B. limits (union_of A B)) (first_walk y h)
                  ∙ ap (◌>>= λ B. limits (union_of (set_of t (b + 2 * region_words)) B))
                  (ap (walk_by light n) (sym other-start) ∙ walked_refused light stmt mate r' (e + 1) f (b + 2 * region_words) u v other k a n g),
              to_v,
            )

            module _ (told' : r' ≡ Ok tt) where
              other-walk : (n : Code) → Laid stmt mate n (e + 1) f → walk_by light n (set_of s₀ b) ≡ ok (set_of v (b + 2 * region_words))
              other-walk n g = ap (walk_by light n) (sym other-start) ∙ walked_done light stmt mate r' (e + 1) f (b + 2 * region_words) u v other told' n g

              first-set : set_of v (b + region_words) ≡ set_of t (b + 2 * region_words)
              first-set = below_set u v (b + region_words) (b + 2 * region_words) same-v (omega arith) (omega arith) other.1 ∙ turned.first

              pub branches_tidy : (y n : Code) → Laid stmt mate y p e → Laid stmt mate n (e + 1) f → Tidy (set_of s₀ b)
                  → Tidy (set_of v (b + region_words)) × Tidy (set_of v (b + 2 * region_words))
              branches_tidy y n h g d = (
                subst Tidy (sym first-set) (gives_ok Tidy (walk_by light y (set_of s₀ b)) (set_of t (b + 2 * region_words)) (first_walk y h) (by_tidy light y (set_of s₀ b) d)),
                gives_ok Tidy (walk_by light n (set_of s₀ b)) (set_of v (b + 2 * region_words)) (other-walk n g) (by_tidy light n (set_of s₀ b) d),
              )

              pub branches_joined : (z : List ℕ) (o : Out Conjuncts) → (limits (union_of (set_of v (b + region_words)) (set_of v (b + 2 * region_words))) ≡ o) × Below b v z → Branched o × Below b s₀ z
              branches_joined z o l = (
                λ y n h g.
                    ap (◌>>= λ A. walk_by light n (set_of s₀ b) >>= λ B. limits (union_of A B)) (first_walk y h)
                    ∙ ap (◌>>= λ B. limits (union_of (set_of t (b + 2 * region_words)) B)) (other-walk n g)
                    ∙ ap (λ A. limits (union_of A (set_of v (b + 2 * region_words)))) (sym first-set)
                    ∙ l.0,
                below_trans b s₀ v z to_v l.1,
              )

-- ---- the branches by the table of the words that they begin with

module _ (light : Bool) (p e f b : ℕ) (s₀ : List ℕ) where
  -- the first branch was walked from s to t, where the set was copied from s₀ to s
  pub record First (r : Answer) (t : List ℕ) : Type 0 where
    pub s : List ℕ
    pub room : b + 3 * region_words ≤ length s
    pub same_start : length s ≡ length s₀
    pub table : table_of 0 s ≡ table_of 0 s₀
    pub opened : BranchOpened b s₀ s
    pub same_length : length t ≡ length s
    pub walked : WalkedBy light (stmts s) (mates s) r p e (b + 2 * region_words) s t

  -- the other one from u to v, where the regions were turned over from t to u
  pub record Other (r : Answer) (v : List ℕ) : Type 0 where
    pub first-answer : Answer
    pub t : List ℕ
    pub u : List ℕ
    pub first : First first-answer t
    pub told : first-answer ≡ Ok tt
    pub same_u : length u ≡ length t
    pub table : table_of 0 u ≡ table_of 0 s₀
    pub switched : BranchSwitched b t u
    pub same_length : length v ≡ length u
    pub walked : WalkedBy light (stmts u) (mates u) r (e + 1) f (b + 2 * region_words) u v

  abbrev stmt : ℕ → Stmt
  stmt = stmts s₀

  abbrev mate : ℕ → ℕ
  mate = mates s₀

  module _ (r : Answer) (t : List ℕ) (w : First r t) where
    first-here : WalkedBy light stmt mate r p e (b + 2 * region_words) w.s t
    first-here = walked_from s₀ w.s w.table light r p e (b + 2 * region_words) t w.walked

    pub first-branch-refused : (k : Refusal) → r ≡ Err k → Branches light (Err k) p e f b s₀ t
    first-branch-refused = first-refused light stmt mate p e f b s₀ w.s w.room w.opened t w.same_length r first-here

    module _ (told : r ≡ Ok tt) (u : List ℕ) (same_u : length u ≡ length t) (switched : BranchSwitched b t u) where
      -- the other branch begins with the same set
      pub other-branch-start : set_of u (b + 2 * region_words) ≡ set_of s₀ b
      other-branch-start = other-start light stmt mate p e f b s₀ w.s w.room w.opened t w.same_length r first-here told u same_u switched

      -- the table is as it was
      pub switched_table : table_words ≤ b → table_of 0 u ≡ table_of 0 s₀
      switched_table h =
          below-table b s₀ u h (omega (arith, w.room, w.same_start)) (same_u ∙ w.same_length ∙ w.same_start)
          (below_trans b s₀ t u (to_t light stmt mate p e f b s₀ w.s w.room w.opened t w.same_length r first-here) switched.below)

  module _ (r : Answer) (v : List ℕ) (w : Other r v) where
    abbrev z : First w.first-answer w.t
    z = w.first

    other-here : WalkedBy light stmt mate r (e + 1) f (b + 2 * region_words) w.u v
    other-here = walked_from s₀ w.u w.table light r (e + 1) f (b + 2 * region_words) v w.walked

    pub other-branch-refused : (k : Refusal) → r ≡ Err k → Branches light (Err k) p e f b s₀ v
    other-branch-refused =
        other-refused light stmt mate p e f b s₀ z.s z.room z.opened w.t z.same_length w.first-answer
        (first-here w.first-answer w.t z) w.told w.u w.same_u w.switched v w.same_length r other-here

    module _ (told : r ≡ Ok tt) where
      pub both-tidy : (y n : Code) → Lies s₀ y p e → Lies s₀ n (e + 1) f → Tidy (set_of s₀ b) → Tidy (set_of v (b + region_words)) × Tidy (set_of v (b + 2 * region_words))
      both-tidy =
          branches_tidy light stmt mate p e f b s₀ z.s z.room z.opened w.t z.same_length w.first-answer
          (first-here w.first-answer w.t z) w.told w.u w.same_u w.switched v w.same_length r other-here told

      pub both-joined : (x : List ℕ) (a : Answer)
          → (limits (union_of (set_of v (b + region_words)) (set_of v (b + 2 * region_words))) ≡ answered a (set_of x b)) × Below b v x → Branches light a p e f b s₀ x
      both-joined x a =
          branches_joined light stmt mate p e f b s₀ z.s z.room z.opened w.t z.same_length w.first-answer
          (first-here w.first-answer w.t z) w.told w.u w.same_u w.switched v w.same_length r other-here told x (answered a (set_of x b))
