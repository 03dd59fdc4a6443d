-- Out of the innermost block around a label, by the kind of the statement where the block begins.
use mathlib.Core.List.{List}
use mathlib.Core.Path.{◌≡◌, sym, ap, subst, ◌∙◌}
use Prim.Native.Nat.{ℕ, suc, ◌+◌, ◌≤◌, ◌<◌}
use native.Mathlib.Numerals.{add-one}
use native.Mathlib.Omega.{arith}
use Rattle.model.specs.Code.{Code}
use Rattle.model.specs.Conjunct.{Conjuncts}
use Rattle.model.specs.Enclosing.{walk_out_lem}
use Rattle.model.specs.Nesting.{Nested}
use Rattle.model.specs.Placement.{Laid}
use Rattle.model.specs.Refusals.{◌>>=◌}
use Rattle.model.specs.Sizes.{most_nested, most_rows}
use Rattle.model.specs.Walk.{walk}
use Rattle.model.proofs.Walks.Rising.{enclosing_end}
use Rattle.code_table.specs.Table.{row_in, stmt_in, mate_in}
use Rattle.code_table.proofs.Meanings.{while-stmt}
use Rattle.rules.specs.Answers.{Answer, answered}
use Rattle.walk.proofs.Unique.{if-while}
use Rattle.enclosing.specs.Blocks.{NoneFrom, Innermost}
use Rattle.std.specs.Prelude.{Some}
use Rattle.enclosing.specs.Enclosing.{EnclosedIn, Enclosed, WalksOut, LeavesBlock, walk_both_lem}
use Rattle.enclosing.proofs.Around.{Back, Round, Around, of_yes, of_no, of_while, around, at_top}
use Rattle.enclosing.proofs.Ends.{no_while}

-- a piece on the labels from p up to q, by a table
pub record PieceIn (k : List ℕ) (p q : ℕ) : Type 0 where
  pub code : Code
  pub lies : Laid (stmt_in k) (mate_in k) code p q
  pub nested : Nested most_nested code

module _ (k : List ℕ) (n i : ℕ) where
  pub label-below : Enclosed k n i → (i < n) × (n ≤ most_rows)
  label-below h = let e = enclosing_end (stmt_in k) (mate_in k) n h.blocks in (omega (arith, h.inside), h.known.few)

  module _ (r : ℕ) (h : Innermost (stmt_in k) (mate_in k) i (Some r)) where
    round : (row_in k r).kind ≡ 14 → (q : ℕ) (w : EnclosedIn k n i q) → i < q → Round (stmt_in k) (mate_in k) n w r
    round kind q w b = go (around (stmt_in k) (mate_in k) n w r b h)
      where
        go : Around (stmt_in k) (mate_in k) n w r → Round (stmt_in k) (mate_in k) n w r
        go (of_yes v e l g) = absurd (if-while (stmt_in k r) v (row_in k r).a e (while-stmt (row_in k r) kind))
        go (of_no v e l g) = absurd (if-while (stmt_in k r) v (row_in k r).a e (while-stmt (row_in k r) kind))
        go (of_while v e g) = g

    module _ (other : (row_in k r).kind ≡ 14 → ⊥) where
      out_of_yes : i < mate_in k r → (q : ℕ) (w : EnclosedIn k n i q) → i < q → Back (stmt_in k) (mate_in k) n w r (suc r)
      out_of_yes a q w b = go (around (stmt_in k) (mate_in k) n w r b h)
        where
          go : Around (stmt_in k) (mate_in k) n w r → Back (stmt_in k) (mate_in k) n w r (suc r)
          go (of_yes v e l g) = g
          go (of_no v e l g) = absurd (omega arith)
          go (of_while v e g) = absurd (no_while (row_in k r) other v e)

      out_of_no : mate_in k r ≤ i → (q : ℕ) (w : EnclosedIn k n i q) → i < q → Back (stmt_in k) (mate_in k) n w r (suc (mate_in k r))
      out_of_no a q w b = go (around (stmt_in k) (mate_in k) n w r b h)
        where
          go : Around (stmt_in k) (mate_in k) n w r → Back (stmt_in k) (mate_in k) n w r (suc (mate_in k r))
          go (of_yes v e l g) = absurd (omega arith)
          go (of_no v e l g) = g
          go (of_while v e g) = absurd (no_while (row_in k r) other v e)

    -- one label further, as code has it
    from_next : (c : Code) (p q : ℕ) → Laid (stmt_in k) (mate_in k) c (suc p) q → Laid (stmt_in k) (mate_in k) c (p + 1) q
    from_next c p q l = subst (λ z. Laid (stmt_in k) (mate_in k) c z q) (sym (add-one p)) l

    to_next : (c : Code) (p q : ℕ) → Laid (stmt_in k) (mate_in k) c p (suc q) → Laid (stmt_in k) (mate_in k) c p (q + 1)
    to_next c p q l = subst (λ z. Laid (stmt_in k) (mate_in k) c p z) (sym (add-one q)) l

    -- out of a while
    module _ (kind : (row_in k r).kind ≡ 14) where
      pub while-known : Enclosed k n i → (mate_in k r < n) × PieceIn k (r + 1) i × PieceIn k r (mate_in k r + 1)
      while-known l =
          let g = round kind l.end l.blocks l.inside in
          let e = enclosing_end (stmt_in k) (mate_in k) n g.onto in (
            omega (arith, g.inside),
            record { code = g.piece; lies = from_next g.piece r i g.laid; nested = g.nested },
            record { code = g.whole; lies = to_next g.whole r (mate_in k r) g.whole-laid; nested = g.whole-nested },
          )

      pub leaves_while : (S U : Conjuncts) (a : Answer)
          → ((c d : Code) → Laid (stmt_in k) (mate_in k) c (r + 1) i → Laid (stmt_in k) (mate_in k) d r (mate_in k r + 1) → walk_both_lem c d S ≡ answered a U)
          → LeavesBlock k n i r S a U
      leaves_while S U a f q w b =
          let g = round kind q w b in (
            g.end,
            g.onto,
            omega (arith, g.inside, g.begun),
            g.walks_out S
                ∙ ap (◌>>= walk_out_lem (stmt_in k) (mate_in k) n g.onto)
                (f g.piece g.whole (from_next g.piece r i g.laid) (to_next g.whole r (mate_in k r) g.whole-laid)),
          )

    -- out of a branch of an if, whose statements begin behind p
    module _ (p : ℕ) (out : (q : ℕ) (w : EnclosedIn k n i q) → i < q → Back (stmt_in k) (mate_in k) n w r (suc p)) where
      piece-known : Enclosed k n i → PieceIn k (p + 1) i
      piece-known l =
          let g = out l.end l.blocks l.inside in
          record { code = g.piece; lies = from_next g.piece p i g.laid; nested = g.nested }

      leaves_if : (S U : Conjuncts) (a : Answer) → ((c : Code) → Laid (stmt_in k) (mate_in k) c (p + 1) i → walk c S ≡ answered a U) → LeavesBlock k n i r S a U
      leaves_if S U a f q w b =
          let g = out q w b in
          (g.end, g.onto, g.inside, g.walks_out S ∙ ap (◌>>= walk_out_lem (stmt_in k) (mate_in k) n g.onto) (f g.piece (from_next g.piece p i g.laid)))

    module _ (other : (row_in k r).kind ≡ 14 → ⊥) where
      pub yes_known : i < mate_in k r → Enclosed k n i → PieceIn k (r + 1) i
      yes_known a = piece-known r (out_of_yes other a)

      pub leaves_yes : i < mate_in k r → (S U : Conjuncts) (a : Answer) → ((c : Code) → Laid (stmt_in k) (mate_in k) c (r + 1) i → walk c S ≡ answered a U)
          → LeavesBlock k n i r S a U
      leaves_yes a = leaves_if r (out_of_yes other a)

      pub no_known : mate_in k r ≤ i → Enclosed k n i → PieceIn k (mate_in k r + 1) i
      no_known a = piece-known (mate_in k r) (out_of_no other a)

      pub leaves_no : mate_in k r ≤ i → (S U : Conjuncts) (a : Answer) → ((c : Code) → Laid (stmt_in k) (mate_in k) c (mate_in k r + 1) i → walk c S ≡ answered a U)
          → LeavesBlock k n i r S a U
      leaves_no a = leaves_if (mate_in k r) (out_of_no other a)

  -- in no block
  module _ (h : NoneFrom (stmt_in k) (mate_in k) i 0) where
    pub top-known : Enclosed k n i → PieceIn k 0 i
    top-known l =
        let g = at_top (stmt_in k) (mate_in k) n l.blocks l.inside h in
        record { code = g.piece; lies = g.laid; nested = g.nested }

    pub walks_out_top : (S U : Conjuncts) (a : Answer) → ((c : Code) → Laid (stmt_in k) (mate_in k) c 0 i → walk c S ≡ answered a U) → WalksOut k n i S a U
    walks_out_top S U a f q w b = let g = at_top (stmt_in k) (mate_in k) n w b h in g.walks_out S ∙ f g.piece g.laid
