-- Regions of one slice: what is left below a change, and what a union within the limits gives.
use mathlib.Core.Path.{◌≡◌, refl, sym, subst, ◌∙◌}
use mathlib.Core.Bool.{Bool, false}
use mathlib.Core.List.{List}
use mathlib.Core.Logic.{inl, inr}
use Prim.Native.Nat.{ℕ, ◌+◌, ◌-◌, ◌*◌, ◌≤◌, ◌<◌}
use native.Mathlib.Omega.{arith}
use lib.ListN.{length, get_or}
use borrow.Author.Tests.{lt-ltb, le-ltb}
use Rattle.model.specs.Code.{Code, Stmt}
use Rattle.model.specs.Conjunct.{Conjuncts, union_of, long, limits}
use Rattle.model.specs.Refusals.{Out, ok, refused, too_many_conjuncts}
use Rattle.model.specs.Sizes.{most_conjuncts, most_nested, most_nodes, most_inside}
use Rattle.model.specs.Placement.{Laid}
use Rattle.model.specs.TidySets.{Tidy}
use Rattle.model.proofs.Conjuncts.Canonical.{union_every}
use Rattle.model.proofs.Conjuncts.Limits.{short-each, all_short}
use Rattle.footprint.specs.Footprints.{CoversSet}
use Rattle.footprint.specs.declared.Footprint.{Footprint}
use Rattle.rules.specs.Answers.{Answer, answered, Below}
use Rattle.refusals.specs.Answers.{number_of}
use Rattle.refusals.specs.declared.Refusal.{Refusal}
use Rattle.std.specs.Prelude.{Ok, Err}
use Rattle.sets.proofs.Rows.{few-most, set_same, frame}
use Rattle.sets.specs.Region.{region_words, set_of, Within}
use Rattle.code_table.proofs.Packs.{table_kept}
use Rattle.code_table.specs.Table.{table_words, table_of, stmt_in, mate_in, KnownBelow, stmts, mates, Knows}
use Rattle.walk.specs.Light.{walk_by}
use Rattle.walk.specs.Piece.{Lies, Piece, Ready, Flagged, WalkedBy}
use Rattle.walk.specs.Turn.{BranchOpened, BranchSwitched, RoundsOpened}

-- ---- what lies below

pub below_self : (b : ℕ) (s : List ℕ) → Below b s s
below_self b s i h = refl

pub below_trans : (b : ℕ) (s t u : List ℕ) → Below b s t → Below b t u → Below b s u
below_trans b s t u f g i h = g i h ∙ f i h

pub below_less : (a b : ℕ) (s t : List ℕ) → a ≤ b → Below b s t → Below a s t
below_less a b s t l f i h = f i (omega arith)

pub within-below : (a b : ℕ) (s t : List ℕ) → a ≤ b → Within b s t → Below a s t
within-below a b s t l f i h = f i (inl (omega arith))

-- a change from b on leaves a region below b
pub below_set : (s t : List ℕ) (a b : ℕ) → length t ≡ length s → a + region_words ≤ b → b ≤ length s → Below b s t → set_of t a ≡ set_of s a
below_set s t a b e h k f = set_same s t a a (omega arith) (omega arith) (λ x g. f (a + x) (omega (arith, few-most (get_or s a 0))))

-- ---- the limits of a union

union_short : (R S : Conjuncts) → Tidy R → Tidy S → long (union_of R S) ≡ false
union_short R S h k =
    all_short (union_of R S) (union_every (λ e. length e ≤ most_nodes) R S (short-each R h.fine.short) (short-each S k.fine.short))

pub union_within : (R S : Conjuncts) → Tidy R → Tidy S → length (union_of R S) ≤ most_conjuncts → limits (union_of R S) ≡ ok (union_of R S)
unfolding limits
union_within R S h k l = rw (union_short R S h k, le-ltb most_conjuncts (length (union_of R S)) l)

pub union_over : (R S : Conjuncts) → Tidy R → Tidy S → most_conjuncts < length (union_of R S) → limits (union_of R S) ≡ refused too_many_conjuncts
unfolding limits
union_over R S h k l = rw (union_short R S h k, lt-ltb most_conjuncts (length (union_of R S)) l)

-- ---- answers

pub answer-done : (r : Answer) (o : Out Conjuncts) (S : Conjuncts) → o ≡ answered r S → r ≡ Ok tt → o ≡ ok S
answer-done r o S h e = subst (λ x. o ≡ answered x S) e h

pub answer-refused : (r : Answer) (o : Out Conjuncts) (S : Conjuncts) (n : Refusal) → o ≡ answered r S → r ≡ Err n → o ≡ refused (number_of n)
answer-refused r o S n h e = subst (λ x. o ≡ answered x S) e h

module _ (light : Bool) (stmt : ℕ → Stmt) (mate : ℕ → ℕ) (r : Answer) (p q b : ℕ) (s t : List ℕ) (w : WalkedBy light stmt mate r p q b s t) where
  pub walked_done : r ≡ Ok tt → (c : Code) → Laid stmt mate c p q → walk_by light c (set_of s b) ≡ ok (set_of t b)
  walked_done e c h = answer-done r (walk_by light c (set_of s b)) (set_of t b) (w.0 c h) e

  pub walked_refused : (n : Refusal) → r ≡ Err n → (c : Code) → Laid stmt mate c p q → walk_by light c (set_of s b) ≡ refused (number_of n)
  walked_refused n e c h = answer-refused r (walk_by light c (set_of s b)) (set_of t b) n (w.0 c h) e

-- ---- the table

-- a change behind the table leaves it
pub below-table : (b : ℕ) (s t : List ℕ) → table_words ≤ b → b ≤ length s → length t ≡ length s → Below b s t → table_of 0 t ≡ table_of 0 s
below-table b s t h k e f = table_kept 0 s t (omega arith) e (λ x l m. f x (omega arith))

module _ (s t : List ℕ) (e : table_of 0 t ≡ table_of 0 s) where
  -- what lies in the words before lies in those after
  pub lies_on : (c : Code) (p q : ℕ) → Lies s c p q → Lies t c p q
  lies_on c p q h = subst (λ k. Laid (stmt_in k) (mate_in k) c p q) (sym e) h

  pub piece_on : (depth p q : ℕ) → Piece s depth p q → Piece t depth p q
  piece_on depth p q h = record { code = h.code; lies = lies_on h.code p q h.lies; nested = h.nested }

  pub knows_on : (q : ℕ) → Knows q s → Knows q t
  knows_on q h = subst (KnownBelow q) (sym e) h

  -- a walk by the words after is one by the words before
  pub walked_from : (light : Bool) (r : Answer) (p q b : ℕ) (u : List ℕ) → WalkedBy light (stmts t) (mates t) r p q b t u → WalkedBy light (stmts s) (mates s) r p q b t u
  walked_from light r p q b u w = subst (λ k. WalkedBy light (stmt_in k) (mate_in k) r p q b t u) e w

-- the statements before a label are those before a later one too
pub knows_less : (p q : ℕ) (s : List ℕ) → p ≤ q → Knows q s → Knows p s
knows_less p q s h k = record { few = omega (arith, k.few); known = λ i l. k.known i (omega arith) }

-- the words are ready for the walk of a part of a block that they are ready for, in the second region after the block's own
pub inner-ready : (s₀ s : List ℕ) (depth b f q : ℕ) → Ready most_inside 4 s₀ depth b f → table_of 0 s ≡ table_of 0 s₀ → length s ≡ length s₀ → q ≤ f
    → Tidy (set_of s (b + 2 * region_words)) → Ready most_nested 2 s depth (b + 2 * region_words) q
inner-ready s₀ s depth b f q g e same h d = record {
  knows = knows_on s₀ s e q (knows_less q f s₀ h g.knows);
  shallow = omega (arith, g.shallow);
  behind = omega (arith, g.behind);
  room = omega (arith, g.room);
  tidy = d;
}

-- with the same set as in the block's own region, which the flags cover
pub inner_flagged : (m : Footprint) (s₀ s : List ℕ) (depth b f q : ℕ) → Flagged m most_inside 4 s₀ depth b f → table_of 0 s ≡ table_of 0 s₀ → length s ≡ length s₀ → q ≤ f
    → set_of s (b + 2 * region_words) ≡ set_of s₀ b → Flagged m most_nested 2 s depth (b + 2 * region_words) q
inner_flagged m s₀ s depth b f q g e same h k = record {
  ready = inner-ready s₀ s depth b f q g.ready e same h (subst Tidy (sym k) g.ready.tidy);
  covers = subst (CoversSet m) (sym k) g.covers;
}

-- the words are ready for a block in the piece that they are ready for
pub block-ready : (s : List ℕ) (depth b q f : ℕ) → Ready most_nested 2 s depth b q → 1 ≤ depth → f ≤ q → Ready most_inside 4 s (depth - 1) b f
block-ready s depth b q f g d h = record {
  knows = knows_less f q s h g.knows;
  shallow = omega (arith, g.shallow);
  behind = g.behind;
  room = omega (arith, g.room);
  tidy = g.tidy;
}

-- ---- the working functions of a walk: s became t and then u

module _ (s t : List ℕ) (b : ℕ) (room : b + 3 * region_words ≤ length s) (same_length : length t ≡ length s) where
  pub branch-opened : set_of t (b + 2 * region_words) ≡ set_of s b → Within (b + 2 * region_words) s t → BranchOpened b s t
  branch-opened e w = record {
    second = e;
    same = frame s t (b + 2 * region_words) b same_length (omega arith) (inr (omega arith)) w;
    below = within-below b (b + 2 * region_words) s t (omega arith) w;
  }

  module _ (u : List ℕ) (same-length' : length u ≡ length t) where
    pub branch_switched : set_of t (b + region_words) ≡ set_of s (b + 2 * region_words) → Within (b + region_words) s t
        → set_of u (b + 2 * region_words) ≡ set_of t b → Within (b + 2 * region_words) t u → BranchSwitched b s u
    branch_switched e w f v = record {
      first = frame t u (b + 2 * region_words) (b + region_words) same-length' (omega arith) (inr (omega arith)) v ∙ e;
      second = f ∙ frame s t (b + region_words) b same_length (omega arith) (inr (omega arith)) w;
      below = below_trans b s t u (within-below b (b + region_words) s t (omega arith) w) (within-below b (b + 2 * region_words) t u (omega arith) v);
    }

    pub rounds-opened : set_of t (b + region_words) ≡ set_of s b → Within (b + region_words) s t → set_of u (b + 2 * region_words) ≡ set_of t b
        → Within (b + 2 * region_words) t u → RoundsOpened b s u
    rounds-opened e w f v =
        let k = frame s t (b + region_words) b same_length (omega arith) (inr (omega arith)) w in
        record {
          same = frame t u (b + 2 * region_words) b same-length' (omega arith) (inr (omega arith)) v ∙ k;
          first = frame t u (b + 2 * region_words) (b + region_words) same-length' (omega arith) (inr (omega arith)) v ∙ e;
          second = f ∙ k;
          below = below_trans b s t u (within-below b (b + region_words) s t (omega arith) w) (within-below b (b + 2 * region_words) t u (omega arith) v);
        }
