-- How deep the blocks of a program are nested: at most 4.
use mathlib.Core.Path.{◌≡◌, refl, subst}
use mathlib.Core.List.{List, [], ◌∷◌}
use Prim.Native.Nat.{ℕ, zero, suc, ◌+◌, ◌<◌}
use native.Mathlib.Omega.{arith}
use borrow.Author.Tests.{ltb-true}
use lib.Dec.{ltb}
use Rattle.model.specs.Code.{Code, done, step, branch, loop, Stmt, plain, if, else, end, while, Open, top, block, other, front, open_blocks, taking, opened, closed, tree_of}
use Rattle.model.specs.Inlined.{stmts_in}
use Rattle.model.specs.Program.{inlined_rows, Program, read_program}
use Rattle.model.specs.Refusals.{ok, wrong_blocks}
use Rattle.model.specs.Run.{append}
use Rattle.model.specs.Nesting.{Nested}
use Rattle.model.specs.Sizes.{most_nested}
use Rattle.model.proofs.Files.Checked.{program_checked}
use Rattle.model.proofs.Basics.Results.{ok_eq, refused-ok, check-ok, bind_ok}

-- of two pieces one after the other: both
pub nested-append : (d : ℕ) (b c : Code) → Nested d (append b c) → Nested d b × Nested d c
nested-append d done c h = (tt, h)
nested-append d (step l x rest) c h = nested-append d rest c h
nested-append zero (branch l v y n rest) c h = absurd h
nested-append (suc d) (branch l v y n rest) c h = let k = nested-append (suc d) rest c h.2 in ((h.0, h.1, k.0), k.1)
nested-append zero (loop l v body rest) c h = absurd h
nested-append (suc d) (loop l v body rest) c h = let k = nested-append (suc d) rest c h.1 in ((h.0, k.0), k.1)

-- ---- the tree of a list of statements

-- the innermost open block has room for blocks k deep
abbrev Fits : ℕ → Open → Type 0
Fits k (top c) = (k ≡ 4) × Nested k c
Fits k (block c s) = Nested k c × Fits (suc k) s
Fits k (other e c s) = Nested k e × Nested k c × Fits (suc k) s

fits-depth : (k : ℕ) (s : Open) → Fits k s → k + open_blocks s ≡ 4
fits-depth k (top c) h = omega (arith, h.0)
fits-depth k (block c s) h = omega (arith, fits-depth (suc k) s h.1)
fits-depth k (other e c s) h = omega (arith, fits-depth (suc k) s h.2)

-- something put in front of the innermost block
front_fits : (f : Code → Code) (k : ℕ) (s : Open) → ((c : Code) → Nested k c → Nested k (f c)) → Fits k s → Fits k (front f s)
front_fits f k (top c) g h = (h.0, g c h.1)
front_fits f k (block c s) g h = (g c h.0, h.1)
front_fits f k (other e c s) g h = (h.0, g c h.1, h.2)

-- some room
abbrev Roomy : Open → Type 0
Roomy s = (k : ℕ) × Fits k s

opens : (k : ℕ) (s : Open) → Fits k s → open_blocks s < 4 → Roomy (block done s)
opens zero s h b = absurd (omega (arith, fits-depth zero s h))
opens (suc k) s h b = (k, (tt, h))

taking-fits : (l : ℕ) (q : Stmt) (s t : Open) → Roomy s → taking l q s ≡ ok t → Roomy t
unfolding taking
taking-fits l (plain x) s t r e = subst Roomy (ok_eq (front (step l x) s) t e) (r.0, front_fits (step l x) r.0 s (λ c h. h) r.1)
taking-fits l (if v) (top c) t r e = absurd (refused-ok wrong_blocks t e)
taking-fits l (if v) (block c s) t r e = absurd (refused-ok wrong_blocks t e)
taking-fits l (if v) (other n y s) t r e =
    let h = r.1 in
    subst Roomy (ok_eq (front (branch l v y n) s) t e) (suc r.0, front_fits (branch l v y n) (suc r.0) s (λ c g. (h.1, h.0, g)) h.2)
taking-fits l else (top c) t r e = absurd (refused-ok wrong_blocks t e)
taking-fits l else (block c s) t r e = let h = r.1 in subst Roomy (ok_eq (other c done s) t e) (r.0, (h.0, tt, h.1))
taking-fits l else (other n y s) t r e = absurd (refused-ok wrong_blocks t e)
taking-fits l end s t r e =
    let k = check-ok (ltb (open_blocks s) most_nested) wrong_blocks (ok (block done s)) t e in
    subst Roomy (ok_eq (block done s) t k.1) (opens r.0 s r.1 (ltb-true (open_blocks s) 4 k.0))
taking-fits l (while v) (top c) t r e = absurd (refused-ok wrong_blocks t e)
taking-fits l (while v) (block c s) t r e =
    let h = r.1 in
    subst Roomy (ok_eq (front (loop l v c) s) t e) (suc r.0, front_fits (loop l v c) (suc r.0) s (λ b g. (h.0, g)) h.1)
taking-fits l (while v) (other n y s) t r e = absurd (refused-ok wrong_blocks t e)

opened-fits : (l : ℕ) (ss : List Stmt) (s : Open) → opened l ss ≡ ok s → Roomy s
unfolding opened
opened-fits l [] s e = subst Roomy (ok_eq (top done) s e) (4, (refl, tt))
opened-fits l (q ∷ ss) s e =
    let k = bind_ok (opened (suc l) ss) (taking l q) s e in
    taking-fits l q k.0 s (opened-fits (suc l) ss k.0 k.1) k.2

closed-fits : (s : Open) (c : Code) → Roomy s → closed s ≡ ok c → Nested most_nested c
closed-fits (top d) c r e = let h = r.1 in subst (Nested most_nested) (ok_eq d c e) (subst (λ (k : ℕ). Nested k d) h.0 h.1)
closed-fits (block d s) c r e = absurd (refused-ok wrong_blocks c e)
closed-fits (other d b s) c r e = absurd (refused-ok wrong_blocks c e)

pub tree-nested : (ss : List Stmt) (c : Code) → tree_of ss ≡ ok c → Nested most_nested c
unfolding tree_of
tree-nested ss c e =
    let k = bind_ok (opened 0 ss) closed c e in
    closed-fits k.0 c (opened-fits 0 ss k.0 k.1) k.2

pub program-nested : (s : List ℕ) (P : Program) → read_program s ≡ ok P → Nested most_nested P.code
program-nested s P e = let k = program_checked s P e in tree-nested (stmts_in (inlined_rows P.tables k.parts)) P.code k.tree
