-- The walk to the start, block by block.
use mathlib.Core.List.{List}
use mathlib.Core.Path.{◌≡◌, sym, ap, subst, ◌∙◌}
use Prim.Native.Nat.{ℕ, ◌≤◌, ◌<◌}
use lib.ListN.{length}
use Rattle.model.specs.Conjunct.{Conjuncts}
use Rattle.model.specs.Refusals.{ok, refused, ◌>>=◌}
use Rattle.model.specs.TidySets.{Tidy}
use Rattle.code_table.specs.Table.{table_words, table_of}
use Rattle.sets.specs.Region.{set_of}
use Rattle.walk.proofs.Regions.{below_trans, below-table}
use Rattle.rules.specs.Answers.{Answer, answered, Below}
use Rattle.refusals.specs.Answers.{number_of}
use Rattle.refusals.specs.declared.Refusal.{Refusal}
use Rattle.std.specs.Prelude.{Ok, Err}
use Rattle.enclosing.specs.Enclosing.{EnclosedIn, walked_out, Enclosed, WalksOut, GoesOnFrom, LeavesBlock}

module _ (k : List ℕ) (n i : ℕ) (S₀ : Conjuncts) where
  -- the walk from i with the set S₀ goes on from `at` with the set S
  abbrev pub Reached : ℕ → Conjuncts → Type 0
  Reached at S = (q : ℕ) (w : EnclosedIn k n i q) → i < q → GoesOnFrom k n at (walked_out k n i q w S₀) (ok S)

  module _ (at : ℕ) (S : Conjuncts) (h : Reached at S) where
    pub reached_start : (a : Answer) (T : Conjuncts) → WalksOut k n at S a T → WalksOut k n i S₀ a T
    reached_start a T f q w b = let o = h q w b in o.3 ∙ f o.0 o.1 o.2

    module _ (r : ℕ) (a : Answer) (T : Conjuncts) (l : LeavesBlock k n at r S a T) where
      pub reached_refusal : (c : Refusal) → a ≡ Err c → (q : ℕ) (w : EnclosedIn k n i q) → i < q → walked_out k n i q w S₀ ≡ refused (number_of c)
      reached_refusal c e q w b =
          let o = h q w b in
          let m = l o.0 o.1 o.2 in
          o.3 ∙ m.3 ∙ ap (λ x. answered x T >>= walked_out k n r m.0 m.1) e

      pub reached_next : a ≡ Ok tt → Reached r T
      reached_next e q w b =
          let o = h q w b in
          let m = l o.0 o.1 o.2 in
          (m.0, m.1, m.2, o.3 ∙ m.3 ∙ ap (λ x. answered x T >>= walked_out k n r m.0 m.1) e)

      pub leads_next : Enclosed k n at → Enclosed k n r
      leads_next g = let m = l g.end g.blocks g.inside in record { known = g.known; end = m.0; blocks = m.1; inside = m.2 }

-- ---- the words of the walk to the start

module _ (s₀ : List ℕ) (b i : ℕ) where
  -- the walk from the label i has come to the label `at`, with the words s
  pub record Outward (s : List ℕ) (at : ℕ) : Type 0 where
    pub same_length : length s ≡ length s₀
    pub table : table_of 0 s ≡ table_of 0 s₀
    pub tidy : Tidy (set_of s b)
    pub statements : ℕ
    pub enclosed : Enclosed (table_of 0 s₀) statements at
    pub below : Below b s₀ s
    pub reached : (n : ℕ) → Reached (table_of 0 s₀) n i (set_of s₀ b) at (set_of s b)

  module _ (s : List ℕ) (at : ℕ) (w : Outward s at) where
    pub enclosed-here : Enclosed (table_of 0 s) w.statements at
    enclosed-here = subst (λ k. Enclosed k w.statements at) (sym w.table) w.enclosed

    -- the last walk answered a and took s to t
    pub outward_start : (t : List ℕ) (a : Answer) → ((n : ℕ) → WalksOut (table_of 0 s) n at (set_of s b) a (set_of t b)) → Below b s t
        → ((n : ℕ) → WalksOut (table_of 0 s₀) n i (set_of s₀ b) a (set_of t b)) × Below b s₀ t
    outward_start t a f h = (
      λ n.
          reached_start (table_of 0 s₀) n i (set_of s₀ b) at (set_of s b) (w.reached n) a (set_of t b)
          (subst (λ k. WalksOut k n at (set_of s b) a (set_of t b)) w.table (f n)),
      below_trans b s₀ s t w.below h,
    )

    -- the block that begins at r was left with the answer a, from s to t
    module _ (r : ℕ) (a : Answer) (t : List ℕ) (l : (n : ℕ) → LeavesBlock (table_of 0 s) n at r (set_of s b) a (set_of t b)) (h : Below b s t) where
      leaves : (n : ℕ) → LeavesBlock (table_of 0 s₀) n at r (set_of s b) a (set_of t b)
      leaves n = subst (λ k. LeavesBlock k n at r (set_of s b) a (set_of t b)) w.table (l n)

      pub outward_refused : (c : Refusal) → a ≡ Err c → ((n : ℕ) → WalksOut (table_of 0 s₀) n i (set_of s₀ b) (Err c) (set_of t b)) × Below b s₀ t
      outward_refused c e = (
        λ n. reached_refusal (table_of 0 s₀) n i (set_of s₀ b) at (set_of s b) (w.reached n) r a (set_of t b) (leaves n) c e,
        below_trans b s₀ s t w.below h,
      )

      pub outward_next : a ≡ Ok tt → table_words ≤ b → b ≤ length s₀ → length t ≡ length s → Tidy (set_of t b) → Outward t r
      outward_next e behind room same-t tidy =
          let to_t = below_trans b s₀ s t w.below h in
          record {
            same_length = same-t ∙ w.same_length;
            table = below-table b s₀ t behind room (same-t ∙ w.same_length) to_t;
            tidy = tidy;
            statements = w.statements;
            enclosed = leads_next (table_of 0 s₀) w.statements i (set_of s₀ b) at (set_of s b) (w.reached w.statements) r a (set_of t b) (leaves w.statements) w.enclosed;
            below = to_t;
            reached = λ n. reached_next (table_of 0 s₀) n i (set_of s₀ b) at (set_of s b) (w.reached n) r a (set_of t b) (leaves n) e;
          }
