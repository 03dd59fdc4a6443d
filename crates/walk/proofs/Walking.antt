-- The walk of a piece so far: from the last label back to r, with the set of the region at b and its footprint. Each turn of the loop
-- is one law; what the table says is carried from the words before to those after, since nothing before the region changes.
use mathlib.Core.Bool.{Bool}
use mathlib.Core.List.{List}
use mathlib.Core.Logic.{⊎_elim}
use mathlib.Core.Path.{◌≡◌, refl, subst, ◌∙◌}
use Prim.Native.Nat.{ℕ, ◌-◌, ◌≤◌, ◌<◌}
use native.Mathlib.Omega.{arith}
use lib.ListN.{length}
use Rattle.model.specs.Sizes.{most_nested}
use Rattle.code_table.specs.Table.{table_words, table_of, stmt_in, mate_in, stmts, mates, Knows}
use Rattle.model.proofs.Basics.Results.{gives_ok}
use Rattle.footprint.specs.Footprints.{CoversSet, FlagsAll, Follows, SparedAll, BackTo}
use Rattle.footprint.specs.declared.Footprint.{Footprint}
use Rattle.footprint.proofs.Flags.{speaks_more}
use Rattle.rules.specs.Answers.{Answer, Below}
use Rattle.refusals.specs.Answers.{number_of}
use Rattle.refusals.specs.declared.Refusal.{Refusal}
use Rattle.std.specs.Prelude.{Ok, Err}
use Rattle.sets.specs.Region.{set_of}
use Rattle.walk.specs.Light.{walk_by}
use Rattle.walk.specs.Piece.{Piece, Flagged, WalkedBy}
use Rattle.walk.specs.Turn.{first_of, Single}
use Rattle.walk.proofs.Regions.{below_self, below_trans, below-table, lies_on, knows_on, knows_less, walked_done, walked_refused}
use Rattle.walk.proofs.Kept.{by_covers}
use Rattle.walk.proofs.Turns.{Stands, stands-first, stands-done, stands-due, stands_bounds, stands-turned, stands-refused, stands-passed, stands-over}

module _ (light : Bool) (s₀ : List ℕ) (depth b p q : ℕ) where
  pub record Walking (s : List ℕ) (m : Footprint) (r : ℕ) : Type 0 where
    pub most : r ≤ q
    pub same_length : length s ≡ length s₀
    pub below : Below b s₀ s
    pub table : table_of 0 s ≡ table_of 0 s₀
    pub covers : CoversSet m (set_of s b)
    pub stands : Stands light (stmts s₀) (mates s₀) depth p q r (set_of s₀ b) (set_of s b)

  pub walking_first : (m : Footprint) → Flagged m most_nested 2 s₀ depth b q → Piece s₀ depth p q → Walking s₀ m q
  walking_first m g c = record {
    most = omega arith;
    same_length = refl;
    below = below_self b s₀;
    table = refl;
    covers = g.covers;
    stands = stands-first light (stmts s₀) (mates s₀) depth p q (set_of s₀ b) c.code c.lies c.nested g.ready.tidy;
  }

  module _ (s : List ℕ) (m : Footprint) (r : ℕ) (w : Walking s m r) where
    pub knows_here : (l : ℕ) → l ≤ r → Knows q s₀ → Knows l s
    knows_here l h k = knows_on s₀ s w.table l (knows_less l q s₀ (omega (arith, w.most)) k)

    -- other flags that cover the set
    pub renews : (m' : Footprint) → CoversSet m' (set_of s b) → Walking s m' r
    renews m' c = record { most = w.most; same_length = w.same_length; below = w.below; table = w.table; covers = c; stands = w.stands }

    -- statements that change nothing that the set speaks of are passed over
    pub passes_over : (l : ℕ) → BackTo m (stmts s) p r l → Walking s m l
    passes_over l k = record {
      most = omega (arith, k.most, w.most);
      same_length = w.same_length;
      below = w.below;
      table = w.table;
      covers = w.covers;
      stands =
          stands-over light (stmts s₀) (mates s₀) depth p q l r (set_of s₀ b) (set_of s b) w.stands m w.covers k.least k.most
          (subst (λ t. BackTo m (stmt_in t) p r l) w.table k).passed;
    }

    -- nothing is left
    pub finished : r ≤ p → WalkedBy light (stmts s₀) (mates s₀) (Ok tt) p q b s₀ s
    finished h = (stands-done light (stmts s₀) (mates s₀) depth p q r (set_of s₀ b) (set_of s b) w.stands h, w.below)

    -- the last statement or block, from the label l on, is due
    module _ (l : ℕ) (more : p < r) (first : l ≡ first_of (stmts s (r - 1)) (mates s) (r - 1)) where
      first-here : l ≡ first_of (stmts s₀ (r - 1)) (mates s₀) (r - 1)
      first-here = subst (λ t. l ≡ first_of (stmt_in t (r - 1)) (mate_in t) (r - 1)) w.table first

      pub bounds : (p ≤ l) × (l < r)
      bounds = stands_bounds light (stmts s₀) (mates s₀) depth p q l r (set_of s₀ b) (set_of s b) w.stands more first-here

      pub due : Single s depth l r
      due =
          let d = stands-due light (stmts s₀) (mates s₀) depth p q l r (set_of s₀ b) (set_of s b) w.stands more first-here in
          record { code = d.0; lies = lies_on s₀ s w.table d.0 l r d.1; nested = d.2; sole = d.3 }

      -- it is passed over as a whole
      pub passes-block : SparedAll m (stmts s) l r → Walking s m l
      passes-block k = record {
        most = omega (arith, bounds.1, w.most);
        same_length = w.same_length;
        below = w.below;
        table = w.table;
        covers = w.covers;
        stands =
            stands-passed light (stmts s₀) (mates s₀) depth p q l r (set_of s₀ b) (set_of s b) w.stands more first-here m w.covers
            (subst (λ t. SparedAll m (stmt_in t) l r) w.table k);
      }

      -- its walk answered a and took s to t
      module _ (t : List ℕ) (a : Answer) (turned : WalkedBy light (stmts s) (mates s) a l r b s t) where
        here : WalkedBy light (stmts s₀) (mates s₀) a l r b s t
        here = subst (λ k. WalkedBy light (stmt_in k) (mate_in k) a l r b s t) w.table turned

        to_t : Below b s₀ t
        to_t = below_trans b s₀ s t w.below turned.1

        pub turn-refused : (n : Refusal) → a ≡ Err n → WalkedBy light (stmts s₀) (mates s₀) (Err n) p q b s₀ t
        turn-refused n e = (
          stands-refused light (stmts s₀) (mates s₀) depth p q l r (set_of s₀ b) (set_of s b) w.stands more first-here (number_of n)
              (walked_refused light (stmts s₀) (mates s₀) a l r b s t here n e),
          to_t,
        )

        pub turn-done : a ≡ Ok tt → table_words ≤ b → b ≤ length s₀ → length t ≡ length s → (m' : Footprint) → Follows m m' (stmts t) l r (set_of t b) → Walking t m' l
        turn-done e h k same-t m' f =
            let table = below-table b s₀ t h k (same-t ∙ w.same_length) to_t in
            let given = walked_done light (stmts s₀) (mates s₀) a l r b s t here e in
            let d = stands-due light (stmts s₀) (mates s₀) depth p q l r (set_of s₀ b) (set_of s b) w.stands more first-here in
            record {
              most = omega (arith, bounds.1, w.most);
              same_length = same-t ∙ w.same_length;
              below = to_t;
              table = table;
              covers =
                  ⊎_elim (λ c. c) (λ g.
                  gives_ok (CoversSet m') (walk_by light d.0 (set_of s b)) (set_of t b) (given d.0 d.1)
                  (by_covers light m' (stmts s₀) (mates s₀) d.0 l r d.1 (subst (λ k. FlagsAll m' (stmt_in k) l r) table g.1) (set_of s b)
                  (speaks_more m m' (set_of s b) g.0 w.covers))) f;
              stands = stands-turned light (stmts s₀) (mates s₀) depth p q l r (set_of s₀ b) (set_of s b) w.stands more first-here (set_of t b) given;
            }
