-- The rounds as the definition has them, by way of light ones: what these come to, confirmed by one round, or the definition's own.
use mathlib.Core.Bool.{Bool, true, false}
use mathlib.Core.List.{List}
use mathlib.Core.Logic.{inr}
use mathlib.Core.Path.{◌≡◌, refl, sym, ap, subst, ◌∙◌}
use Prim.Native.Nat.{ℕ, ◌+◌, ◌*◌, ◌≤◌}
use native.Mathlib.Omega.{arith}
use lib.ListN.{length}
use Rattle.model.specs.Code.{Code}
use Rattle.model.specs.Refusals.{ok}
use Rattle.model.specs.Sizes.{most_inside}
use Rattle.model.specs.TidySets.{Tidy}
use Rattle.model.specs.Walk.{walk}
use Rattle.code_table.specs.Table.{table_words, table_of, stmts, mates}
use Rattle.rules.specs.Answers.{Answer, Below}
use Rattle.std.specs.Prelude.{Ok, Err}
use Rattle.std.specs.Result.{is_ok}
use Rattle.sets.specs.Region.{region_words, set_of, Within}
use Rattle.sets.proofs.Rows.{frame}
use Rattle.walk.specs.Light.{loop_by}
use Rattle.walk.specs.Piece.{Lies, Ready, WalkedBy}
use Rattle.walk.specs.Turn.{Rounded}
use Rattle.walk.proofs.Quick.{light_tidy, light_confirmed}
use Rattle.walk.proofs.Regions.{answer-done, below_trans, below_less, below_set, below-table, within-below, knows_on, lies_on, walked_done, walked_from}

-- a rule or a walk that is not refused is done
pub done_if : (r : Answer) → is_ok r ≡ true → r ≡ Ok tt
done_if (Ok u) h = refl
done_if (Err e) h = cc

module _ (p q b : ℕ) (e : List ℕ) where
  -- the while may be begun again: its set is as it was, and all before it
  pub record Afresh (u : List ℕ) : Type 0 where
    pub same_length : length u ≡ length e
    pub table : table_of 0 u ≡ table_of 0 e
    pub same : set_of u b ≡ set_of e b
    pub below : Below b e u

  pub afresh_ready : (u : List ℕ) (depth : ℕ) → Afresh u → Ready most_inside 4 e depth b q → Ready most_inside 4 u depth b q
  afresh_ready u depth a g = record {
    knows = knows_on e u a.table q g.knows;
    shallow = g.shallow;
    behind = g.behind;
    room = omega (arith, g.room, a.same_length);
    tidy = subst Tidy (sym a.same) g.tidy;
  }

  -- what the rounds from there give counts
  pub afresh_rounded : (u v : List ℕ) (light : Bool) (r : Answer) → Afresh u → Rounded light r p q b u v → Rounded light r p q b e v
  afresh_rounded u v light r a h = record {
    given = λ c z. ap (loop_by light c) (sym a.same) ∙ h.given c (lies_on e u a.table c p q z);
    same = h.same ∙ a.same;
    below = below_trans b e u v a.below h.below;
  }

  -- light rounds took e to s
  module _ (behind : table_words ≤ b) (room : b + 4 * region_words ≤ length e) (tidy : Tidy (set_of e b)) (s : List ℕ) (same_s : length s ≡ length e) (a : Answer)
      (rounded : Rounded true a p q b e s) where
    pub light_afresh : Afresh s
    light_afresh = record {
      same_length = same_s;
      table = below-table b e s behind (omega arith) same_s rounded.below;
      same = rounded.same;
      below = rounded.below;
    }

    -- they gave a set, which was copied from s to t
    module _ (told : a ≡ Ok tt) (t : List ℕ) (same-t : length t ≡ length s) (copied : set_of t (b + 2 * region_words) ≡ set_of s (b + region_words))
        (w : Within (b + 2 * region_words) s t) where
      came : (c : Code) → Lies e c p q → loop_by true c (set_of e b) ≡ ok (set_of s (b + region_words))
      came c z = answer-done a (loop_by true c (set_of e b)) (set_of s (b + region_words)) (rounded.given c z) told

      pub copied_tidy : (c : Code) → Lies e c p q → Tidy (set_of t (b + 2 * region_words))
      copied_tidy c z = subst Tidy (sym copied) (light_tidy c (set_of e b) (set_of s (b + region_words)) tidy (came c z))

      to_t : Below b e t
      to_t = below_trans b e s t rounded.below (within-below b (b + 2 * region_words) s t (omega arith) w)

      pub copied_table : table_of 0 t ≡ table_of 0 e
      copied_table = below-table b e t behind (omega arith) (same-t ∙ same_s) to_t

      -- one round took t to u
      module _ (u : List ℕ) (same_u : length u ≡ length t) (r : Answer) (walked : WalkedBy false (stmts t) (mates t) r p q (b + 2 * region_words) t u) where
        to_u : Below b e u
        to_u = below_trans b e t u to_t (below_less b (b + 2 * region_words) t u (omega arith) walked.1)

        start_u : set_of u b ≡ set_of e b
        start_u =
            below_set t u b (b + 2 * region_words) same_u (omega arith) (omega arith) walked.1
            ∙ frame s t (b + 2 * region_words) b same-t (omega arith) (inr (omega arith)) w ∙ rounded.same

        settled_u : set_of u (b + region_words) ≡ set_of s (b + region_words)
        settled_u =
            below_set t u (b + region_words) (b + 2 * region_words) same_u (omega arith) (omega arith) walked.1
            ∙ frame s t (b + 2 * region_words) (b + region_words) same-t (omega arith) (inr (omega arith)) w

        pub walked_afresh : Afresh u
        walked_afresh = record {
          same_length = same_u ∙ same-t ∙ same_s;
          table = below-table b e u behind (omega arith) (same_u ∙ same-t ∙ same_s) to_u;
          same = start_u;
          below = to_u;
        }

        pub confirmed : r ≡ Ok tt → Rounded false (Ok tt) p q b e u
        confirmed done = record {
          given = λ c z.
              light_confirmed c (set_of e b) (set_of s (b + region_words)) tidy (came c z) (set_of u (b + 2 * region_words))
              (ap (walk c) (sym copied)
              ∙ walked_done false (stmts e) (mates e) r p q (b + 2 * region_words) t u (walked_from e t copied_table false r p q (b + 2 * region_words) u walked) done c z)
              ∙ ap ok (sym settled_u);
          same = start_u;
          below = to_u;
        }
