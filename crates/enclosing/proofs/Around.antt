-- The innermost block around a statement, as the table of mates gives it, is the first of the blocks that enclose it.
use mathlib.Core.Path.{◌≡◌, refl, sym, ap, subst, ◌∙◌}
use Prim.Native.Nat.{ℕ, suc, ◌≤◌, ◌<◌}
use native.Mathlib.Omega.{arith}
use Rattle.model.specs.Code.{Instr, Code, done, step, branch, loop, Stmt, plain, if, else, end, while}
use Rattle.model.specs.Conjunct.{Conjuncts}
use Rattle.model.specs.Refusals.{◌>>=◌}
use Rattle.model.specs.Walk.{walk}
use Rattle.model.specs.Nesting.{Nested}
use Rattle.model.specs.Sizes.{most_nested}
use Rattle.model.specs.Placement.{IfAt, WhileAt, Laid}
use Rattle.model.specs.Enclosing.{Enclosing, top, in_yes, in_no, in_while, walk_out_lem}
use Rattle.model.proofs.Walks.Laid.{laid_le}
use Rattle.model.proofs.Basics.Results.{bind_assoc}
use Rattle.conjunct.proofs.node.WordOrder.{Tri, less, equal, more, tri}
use Rattle.enclosing.specs.Blocks.{block_end_lem, NoneFrom, Innermost}
use Rattle.std.specs.Prelude.{Some}

-- by cases on the order of two numbers
by_order : {P : Type 0} {m n : ℕ} → Tri m n → (m < n → P) → (m ≡ n → P) → (n < m → P) → P
by_order (less h) f g k = f h
by_order (equal h) f g k = g h
by_order (more h) f g k = k h

module _ (stmt : ℕ → Stmt) (mate : ℕ → ℕ) where
  -- ---- where blocks end

  abbrev ending : ℕ → ℕ
  ending s = block_end_lem (stmt s) mate s

  plain-ends : (s : ℕ) (x : Instr) → stmt s ≡ plain x → ending s ≡ 0
  plain-ends s x e = ap (λ y. block_end_lem y mate s) e

  else-ends : (s : ℕ) → stmt s ≡ else → ending s ≡ 0
  else-ends s e = ap (λ y. block_end_lem y mate s) e

  end-ends : (s : ℕ) → stmt s ≡ end → ending s ≡ 0
  end-ends s e = ap (λ y. block_end_lem y mate s) e

  if-ends : (r v e f : ℕ) → IfAt stmt mate r v e f → ending r ≡ f
  if-ends r v e f a = ap (λ y. block_end_lem y mate r) a.is-if ∙ ap mate a.to_else ∙ a.to_end

  while-ends : (r v f : ℕ) → WhileAt stmt mate r v f → ending r ≡ f
  while-ends r v f a = ap (λ y. block_end_lem y mate r) a.is-while ∙ a.to_end

  -- a block that begins in a piece ends in it
  closed : (d : Code) (p q : ℕ) → Laid stmt mate d p q → (s : ℕ) → p ≤ s → s < q → ending s ≤ q
  closed done p q h s a b = absurd (omega arith)
  closed (step l x rest) p q h s a b =
      by_order (tri s p) (λ k. absurd (omega arith)) (λ k. omega (arith, ap ending k, plain-ends p x h.1)) (λ k. closed rest (suc p) q h.2 s (omega arith) b)
  closed (branch l v y n rest) p q h s a b =
      let e = h.1.0 in
      let f = h.1.1 in
      let at : IfAt stmt mate p v e f = h.1.2 in
      let below : e < f = laid_le stmt mate n (suc e) f h.1.4 in
      let above : f < q = laid_le stmt mate rest (suc f) q h.1.5 in
      by_order (tri s p) (λ k. absurd (omega arith)) (λ k. omega (arith, ap ending k, if-ends p v e f at)) (λ k.
      by_order (tri s e) (λ j. omega (arith, closed y (suc p) e h.1.3 s k j)) (λ j. omega (arith, ap ending j, else-ends e at.is-else)) (λ j.
      by_order (tri s f) (λ i. omega (arith, closed n (suc e) f h.1.4 s j i)) (λ i. omega (arith, ap ending i, end-ends f at.is-end)) (λ i.
      closed rest (suc f) q h.1.5 s i b)))
  closed (loop l v body rest) p q h s a b =
      let f = h.1.0 in
      let at : WhileAt stmt mate p v f = h.1.1 in
      let above : f < q = laid_le stmt mate rest (suc f) q h.1.3 in
      by_order (tri s p) (λ k. absurd (omega arith)) (λ k. omega (arith, ap ending k, while-ends p v f at)) (λ k.
      by_order (tri s f) (λ i. omega (arith, closed body (suc p) f h.1.2 s k i)) (λ i. omega (arith, ap ending i, end-ends f at.is-end)) (λ i.
      closed rest (suc f) q h.1.3 s i b))

  -- the innermost block begins at r, if that block is around i and none that begins between is
  only : (i r f t : ℕ) → Innermost stmt mate i (Some t) → r < i → ending r ≡ f → i < f → ((s : ℕ) → r < s → s < i → ending s ≤ i) → r ≡ t
  only i r f t h a e b k =
      by_order (tri r t) (λ j. absurd (omega (arith, k t j h.0, h.1))) (λ j. j) (λ j. absurd (omega (arith, h.2 r j a)))

  module _ (n : ℕ) where
    -- from the label i the walk goes back over the piece on the labels from p on, and on from the label r
    pub record Back {i q : ℕ} (w : Enclosing stmt mate n i q) (r p : ℕ) : Type 0 where
      pub piece : Code
      pub laid : Laid stmt mate piece p i
      pub nested : Nested most_nested piece
      pub end : ℕ
      pub onto : Enclosing stmt mate n r end
      pub inside : r < end
      pub walks_out : (D : Conjuncts) → walk_out_lem stmt mate n w D ≡ (walk piece D >>= walk_out_lem stmt mate n onto)

    -- and then over the whole while at r
    pub record Round {i q : ℕ} (w : Enclosing stmt mate n i q) (r : ℕ) : Type 0 where
      pub piece : Code
      pub laid : Laid stmt mate piece (suc r) i
      pub nested : Nested most_nested piece
      pub whole : Code
      pub whole-laid : Laid stmt mate whole r (suc (mate r))
      pub whole-nested : Nested most_nested whole
      pub end : ℕ
      pub onto : Enclosing stmt mate n r end
      pub inside : mate r < end
      pub begun : r < mate r
      pub walks_out : (D : Conjuncts) → walk_out_lem stmt mate n w D ≡ (walk piece D >>= walk whole >>= walk_out_lem stmt mate n onto)

    -- how the walk leaves the block that begins at r: out of the if branch, out of the else branch, or out of the body of a while
    pub data Around {i q : ℕ} (w : Enclosing stmt mate n i q) (r : ℕ) : Type 0 where
      of_yes : (v : ℕ) → stmt r ≡ if v → i < mate r → Back w r (suc r) → Around w r
      of_no : (v : ℕ) → stmt r ≡ if v → mate r < i → Back w r (suc (mate r)) → Around w r
      of_while : (v : ℕ) → stmt r ≡ while v → Round w r → Around w r

    pub around : {i q : ℕ} (w : Enclosing stmt mate n i q) (t : ℕ) → i < q → Innermost stmt mate i (Some t) → Around w t
    unfolding walk_out_lem walk
    around (top i d l k) t b h = absurd (omega (arith, h.1, closed d 0 i l t (omega arith) h.0))
    around (in_yes i r v e f q d at a c l k w) t b h =
        let under : r < i = laid_le stmt mate d (suc r) i l in
        let here = only i r f t h under (if-ends r v e f at) (omega arith) (closed d (suc r) i l) in
        let back : Back (in_yes i r v e f q d at a c l k w) r (suc r) =
        record { piece = d; laid = l; nested = k; end = q; onto = w; inside = omega arith; walks_out = λ D. refl } in
        subst (Around (in_yes i r v e f q d at a c l k w)) here (of_yes v at.is-if (omega (arith, at.to_else)) back)
    around (in_no i r v e f q y d at c g l k w) t b h =
        let under : e < i = laid_le stmt mate d (suc e) i l in
        let first : r < e = laid_le stmt mate y (suc r) e g in
        let none : (s : ℕ) → r < s → s < i → ending s ≤ i =
        λ s o u. by_order (tri s e) (λ j. omega (arith, closed y (suc r) e g s o j)) (λ j. omega (arith, ap ending j, else-ends e at.is-else)) (λ j. closed d (suc e) i l s j u) in
        let here = only i r f t h (omega arith) (if-ends r v e f at) b none in
        let back : Back (in_no i r v e f q y d at c g l k w) r (suc (mate r)) =
        record { piece = d; laid = subst (λ z. Laid stmt mate d (suc z) i) (sym at.to_else) l; nested = k; end = q; onto = w; inside = omega arith; walks_out = λ D. refl } in
        subst (Around (in_no i r v e f q y d at c g l k w)) here (of_no v at.is-if (omega (arith, at.to_else)) back)
    around (in_while i r v f q d body at c l k g m w) t b h =
        let under : r < i = laid_le stmt mate d (suc r) i l in
        let here = only i r f t h under (while-ends r v f at) b (closed d (suc r) i l) in
        let round : Round (in_while i r v f q d body at c l k g m w) r =
        record {
          piece = d;
          laid = l;
          nested = k;
          whole = loop r v body done;
          whole-laid = (refl, (f, at, g, ap suc (sym at.to_end)));
          whole-nested = (m, tt);
          end = q;
          onto = w;
          inside = omega (arith, at.to_end);
          begun = omega (arith, at.to_end);
          walks_out = λ D. sym (bind_assoc (walk d D) (walk (loop r v body done)) (walk_out_lem stmt mate n w));
        } in
        subst (Around (in_while i r v f q d body at c l k g m w)) here (of_while v at.is-while round)

    -- a statement in no block: the piece from the program's start to it
    pub record Start {i q : ℕ} (w : Enclosing stmt mate n i q) : Type 0 where
      pub piece : Code
      pub laid : Laid stmt mate piece 0 i
      pub nested : Nested most_nested piece
      pub walks_out : (D : Conjuncts) → walk_out_lem stmt mate n w D ≡ walk piece D

    pub at_top : {i q : ℕ} (w : Enclosing stmt mate n i q) → i < q → NoneFrom stmt mate i 0 → Start w
    unfolding walk_out_lem
    at_top (top i d l k) b h = record { piece = d; laid = l; nested = k; walks_out = λ D. refl }
    at_top (in_yes i r v e f q d at a c l k w) b h =
        absurd (omega (arith, h r (omega arith) (laid_le stmt mate d (suc r) i l), if-ends r v e f at))
    at_top (in_no i r v e f q y d at c g l k w) b h =
        absurd (omega (arith, h r (omega arith) (omega (arith, laid_le stmt mate y (suc r) e g, laid_le stmt mate d (suc e) i l)), if-ends r v e f at))
    at_top (in_while i r v f q d body at c l k g m w) b h =
        absurd (omega (arith, h r (omega arith) (laid_le stmt mate d (suc r) i l), while-ends r v f at))
