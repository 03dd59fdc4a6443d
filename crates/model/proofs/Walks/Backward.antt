-- Plain statements before a label, in its own block: the way out from behind them is the way out from before them, where their rules
-- leave the set as it is.
use mathlib.Core.Path.{◌≡◌, refl, sym, ap, subst, ◌∙◌}
use Prim.Native.Nat.{ℕ, zero, suc, ◌+◌, ◌-◌, ◌≤◌, ◌<◌}
use native.Mathlib.Omega.{arith}
use lib.Dec.{eqb}
use borrow.Author.Tests.{eqb-true, eqb-false}
use Rattle.model.specs.Code.{Instr, Code, done, step, Stmt, plain, end}
use Rattle.model.specs.Conjunct.{Conjuncts}
use Rattle.model.specs.Enclosing.{Enclosing, top, in_yes, in_no, in_while, walk_out_lem, Bare}
use Rattle.model.specs.Nesting.{Nested}
use Rattle.model.specs.Placement.{Laid}
use Rattle.model.specs.Refusals.{Out, ok, ◌>>=◌}
use Rattle.model.specs.Run.{append}
use Rattle.model.specs.Sizes.{most_nested, most_rounds}
use Rattle.model.specs.Walk.{back, rounds, walk}
use Rattle.model.proofs.Walks.Depth.{nested-append}
use Rattle.model.proofs.Walks.Laid.{laid_le, Last, last-plain, last-if, last-while, laid-last}
use Rattle.model.proofs.Basics.Results.{bind_assoc}
use Rattle.model.proofs.Walks.Rising.{else-bare, end-bare, if-bare, while-bare}
use Rattle.model.proofs.Basics.Tests.{case}
use Rattle.model.proofs.Walks.Walks.{walk-append}

module _ (stmt : ℕ → Stmt) (mate : ℕ → ℕ) (n : ℕ) where
  -- a plain statement at the label m, and the label i behind it
  module _ (m i : ℕ) (x : Instr) (at : stmt m ≡ plain x) (behind : i ≡ suc m) where
    -- what stands before it in a piece
    record Front (d : Code) (p : ℕ) : Type 0 where
      piece : Code
      lies : Laid stmt mate piece p m
      nested : Nested most_nested piece
      walked : (D : Conjuncts) → walk d D ≡ (back m x D >>= walk piece)

    plain_here : (s : Stmt) (y : Instr) → s ≡ plain x → s ≡ plain y → y ≡ x
    plain_here s y p q = cc

    front : (d : Code) (p : ℕ) → Laid stmt mate d p i → p < i → Nested most_nested d → Front d p
    unfolding walk
    front d p h b k = go (laid-last stmt mate d p i h b)
      where
        go : Last stmt mate d p i → Front d p
        go (last-plain f r y s e t l) =
            let z : r ≡ m = omega arith in
            let same : y ≡ x = plain_here (stmt m) y at (subst (λ j. stmt j ≡ plain y) z t) in
            let whole : d ≡ append f (step m x done) = e ∙ (λ j. append f (step (z j) (same j) done)) in
            record {
              piece = f;
              lies = subst (Laid stmt mate f p) z l;
              nested = (nested-append most_nested f (step m x done) (subst (Nested most_nested) whole k)).0;
              walked = λ D. ap (λ c. walk c D) whole ∙ walk-append f (step m x done) D;
            }
        go (last-if f l v y o e g s w if' h₁ h₂ h₃) =
            let z : g ≡ m = omega arith in absurd (end-bare stmt mate n (stmt m) (subst (λ j. stmt j ≡ end) z if'.is-end) x at)
        go (last-while f l v body g s w while' h₁ h₂) =
            let z : g ≡ m = omega arith in absurd (end-bare stmt mate n (stmt m) (subst (λ j. stmt j ≡ end) z while'.is-end) x at)

    -- the block begins before it: where it begins no plain statement stands
    begins-before : (r : ℕ) → Bare (stmt r) → suc r ≤ i → suc r < i
    begins-before r b h =
        case (eqb r m) (λ z. suc r < i) (λ e. absurd (b x (subst (λ j. stmt j ≡ plain x) (sym (eqb-true r m e)) at)))
        (λ e. let differs = eqb-false r m e in omega (arith, differs))

    -- the blocks around the statement, and the way out from behind it by its rule
    pub record Before {q : ℕ} (w : Enclosing stmt mate n i q) : Type 0 where
      pub blocks : Enclosing stmt mate n m q
      pub walks_out : (D : Conjuncts) → walk_out_lem stmt mate n w D ≡ (back m x D >>= walk_out_lem stmt mate n blocks)

    pub before-plain : {q : ℕ} (w : Enclosing stmt mate n i q) → Before w
    unfolding walk_out_lem
    before-plain (top j d h k) =
        let f = front d 0 h (omega arith) k in
        record { blocks = top m f.piece f.lies f.nested; walks_out = f.walked }
    before-plain (in_yes j r v e g q d a b c h k w) =
        let f = front d (suc r) h (begins-before r (if-bare stmt mate n (stmt r) v a.is-if) (laid_le stmt mate d (suc r) i h)) k in
        record {
          blocks = in_yes m r v e g q f.piece a b c f.lies f.nested w;
          walks_out = λ D. ap (◌>>= walk_out_lem stmt mate n w) (f.walked D) ∙ bind_assoc (back m x D) (walk f.piece) (walk_out_lem stmt mate n w);
        }
    before-plain (in_no j r v e g q y d a b c h k w) =
        let f = front d (suc e) h (begins-before e (else-bare stmt mate n (stmt e) a.is-else) (laid_le stmt mate d (suc e) i h)) k in
        record {
          blocks = in_no m r v e g q y f.piece a b c f.lies f.nested w;
          walks_out = λ D. ap (◌>>= walk_out_lem stmt mate n w) (f.walked D) ∙ bind_assoc (back m x D) (walk f.piece) (walk_out_lem stmt mate n w);
        }
    before-plain (in_while j r v g q d body a b h k c z w) =
        let f = front d (suc r) h (begins-before r (while-bare stmt mate n (stmt r) v a.is-while) (laid_le stmt mate d (suc r) i h)) k in
        let again : Conjuncts → Out Conjuncts = λ E. rounds most_rounds (walk body) E E >>= walk_out_lem stmt mate n w in
        record {
          blocks = in_while m r v g q f.piece body a b f.lies f.nested c z w;
          walks_out = λ D. ap (◌>>= again) (f.walked D) ∙ bind_assoc (back m x D) (walk f.piece) again;
        }

  -- ---- several of them

  -- the blocks around the label j before i, and the same way out from there
  pub record SameWayOut {i q : ℕ} (w : Enclosing stmt mate n i q) (D : Conjuncts) (j : ℕ) : Type 0 where
    pub label : ℕ
    pub is : label ≡ j
    pub blocks : Enclosing stmt mate n label q
    pub same : walk_out_lem stmt mate n w D ≡ walk_out_lem stmt mate n blocks D

  module _ (D : Conjuncts) (j : ℕ) where
    -- the statements from j up to i are plain and leave the set as it is
    abbrev pub LeftAlone : ℕ → Type 0
    LeftAlone i = (l : ℕ) → j ≤ l → l < i → (x : Instr) × (stmt l ≡ plain x) × (back l x D ≡ ok D)

    so_many : (c i : ℕ) → i ≡ c + j → LeftAlone i → {q : ℕ} (w : Enclosing stmt mate n i q) → SameWayOut w D j
    so_many zero i e left w = record { label = i; is = omega arith; blocks = w; same = refl }
    so_many (suc c) i e left w =
        let at = left (c + j) (omega arith) (omega arith) in
        let b = before-plain (c + j) i at.0 at.1 (omega arith) w in
        let more = so_many c (c + j) refl (λ l h k. left l h (omega arith)) b.blocks in
        record {
          label = more.label;
          is = more.is;
          blocks = more.blocks;
          same = b.walks_out D ∙ ap (◌>>= walk_out_lem stmt mate n b.blocks) at.2 ∙ more.same;
        }

    pub same_way_out : (i : ℕ) → j ≤ i → LeftAlone i → {q : ℕ} (w : Enclosing stmt mate n i q) → SameWayOut w D j
    same_way_out i h left w = so_many (i - j) i (omega arith) left w
