-- From a statement to the program's start, by labels: through the blocks that enclose it, the innermost first; and what the sites
-- from a label on come to.
use Rattle.std.specs.Prelude.{◌≡◌, List, [], ◌++◌, map, ℕ, suc, ◌<◌}
use Rattle.model.specs.Code.{Instr, Code, Stmt, plain}
use Rattle.model.specs.Conjunct.{Conjuncts}
use Rattle.model.specs.Nesting.{Nested}
use Rattle.model.specs.Placement.{IfAt, WhileAt, Laid}
use Rattle.model.specs.Refusals.{Out, ◌>>=◌}
use Rattle.model.specs.Sizes.{most_nested, most_rounds, most_inside}
use Rattle.model.specs.Walk.{rounds, walk, sites}

-- no statement of kinds 0 to 10
abbrev pub Bare : Stmt → Type 0
Bare s = (x : Instr) → s ≡ plain x → ⊥

module _ (stmt : ℕ → Stmt) (mate : ℕ → ℕ) (n : ℕ) where
  -- from a label i in a block whose statements end at the label q: over the piece d from the block's beginning to i, out of the body of
  -- a while over the whole while too, and on from the label r where the block begins
  pub data Enclosing : ℕ → ℕ → Type 0 where
    top : (i : ℕ) (d : Code) → Laid stmt mate d 0 i → Nested most_nested d → Enclosing i n
    in_yes : (i r v e f q : ℕ) (d : Code) → IfAt stmt mate r v e f → e < f → f < q → Laid stmt mate d (suc r) i → Nested most_nested d → Enclosing r q → Enclosing i e
    in_no : (i r v e f q : ℕ) (y d : Code) → IfAt stmt mate r v e f → f < q → Laid stmt mate y (suc r) e → Laid stmt mate d (suc e) i → Nested most_nested d → Enclosing r q → Enclosing i f
    in_while : (i r v f q : ℕ) (d body : Code) → WhileAt stmt mate r v f → f < q → Laid stmt mate d (suc r) i → Nested most_nested d
        → Laid stmt mate body (suc r) f → Nested most_inside body → Enclosing r q → Enclosing i f

  -- the set at the program's start, from the set just before the statement with the label
  unfoldable pub walk_out_lem : {i q : ℕ} → Enclosing i q → Conjuncts → Out Conjuncts
  walk_out_lem (top i d h k) D = walk d D
  walk_out_lem (in_yes i r v e f q d a b c h k w) D = walk d D >>= λ E. walk_out_lem w E
  walk_out_lem (in_no i r v e f q y d a b c h k w) D = walk d D >>= λ E. walk_out_lem w E
  walk_out_lem (in_while i r v f q d body a b h k c m w) D = walk d D >>= λ E. rounds most_rounds (walk body) E E >>= λ F. walk_out_lem w F

  -- what the sites past a piece that ends at a label come to: there are none; or those of the piece that begins past an else or an end
  pub data Rest : ℕ → List (Out Conjuncts) → Type 0 where
    stop : Rest n []
    past : (q z : ℕ) (c : Code) (L : List (Out Conjuncts)) → Bare (stmt q) → Laid stmt mate c (suc q) z → Nested most_nested c → (w : Enclosing (suc q) z) → Rest z L
        → Rest q (map (◌>>= walk_out_lem w) (sites c) ++ L)

  -- what the sites from a label on come to
  pub record From (i : ℕ) (K : List (Out Conjuncts)) : Type 0 where
    pub piece : Code
    pub q : ℕ
    pub tail : List (Out Conjuncts)
    pub laid : Laid stmt mate piece i q
    pub nested : Nested most_nested piece
    pub blocks : Enclosing i q
    pub rest : Rest q tail
    pub is : K ≡ map (◌>>= walk_out_lem blocks) (sites piece) ++ tail
