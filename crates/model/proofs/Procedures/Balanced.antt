-- The test of blocks from the first statement on (check 8) against the block tree, which is read from the last: statements whose blocks
-- match and nest at most 4 deep have a tree. So a program without procedures is never refused by 16.
use mathlib.Core.Path.{◌≡◌, refl, sym, ◌∙◌, ap, subst}
use mathlib.Core.List.{List, [], ◌∷◌, map}
use Prim.Native.Nat.{ℕ, suc, ◌+◌, ◌≤◌, ◌<◌}
use native.Mathlib.Omega.{arith}
use lib.Dec.{ltb}
use borrow.Author.Tests.{lt-ltb, ltb-true}
use Rattle.model.specs.Sizes.{most_nested}
use Rattle.model.specs.Refusals.{Out, ok, refused, ◌>>=◌, check, wrong_blocks}
use Rattle.model.specs.Code.{Right, number, copy, calc, change, read, load, Instr, assign, store, site, Code, done, step, branch, loop, Stmt, plain, if, else, end, while}
use Rattle.model.specs.Code.{Open, top, block, other, front, open_blocks, taking, opened, closed, tree_of}
use Rattle.model.specs.Procedures.{own, Block, if_block, else_block, while_block, procedure_block, nesting, opening, passing, open_after}
use Rattle.model.specs.Inlined.{raised_right, raised_instr_lem, raised, inlined}
use Rattle.model.proofs.Basics.Results.{ok_eq, refused-ok, check-ok, bind_ok}

-- what is open from the front and from the back: an if has its else and its end behind it, an else or a while its end
abbrev Match : List Block → Open → Type 0
Match [] (top c) = Unit {0}
Match [] (block c s) = ⊥
Match [] (other e c s) = ⊥
Match (if_block ∷ bs) (top c) = ⊥
Match (if_block ∷ bs) (block c s) = ⊥
Match (if_block ∷ bs) (other e c s) = Match bs s
Match (else_block ∷ bs) (top c) = ⊥
Match (else_block ∷ bs) (block c s) = Match bs s
Match (else_block ∷ bs) (other e c s) = ⊥
Match (while_block ∷ bs) (top c) = ⊥
Match (while_block ∷ bs) (block c s) = Match bs s
Match (while_block ∷ bs) (other e c s) = ⊥
Match (procedure_block ∷ bs) s = ⊥

match_front : (f : Code → Code) (bs : List Block) (s : Open) → Match bs s → Match bs (front f s)
match_front f [] (top c) h = h
match_front f [] (block c s) h = h
match_front f [] (other e c s) h = h
match_front f (if_block ∷ bs) (top c) h = h
match_front f (if_block ∷ bs) (block c s) h = h
match_front f (if_block ∷ bs) (other e c s) h = h
match_front f (else_block ∷ bs) (top c) h = h
match_front f (else_block ∷ bs) (block c s) h = h
match_front f (else_block ∷ bs) (other e c s) h = h
match_front f (while_block ∷ bs) (top c) h = h
match_front f (while_block ∷ bs) (block c s) h = h
match_front f (while_block ∷ bs) (other e c s) h = h
match_front f (procedure_block ∷ bs) s h = absurd h

match_depth : (bs : List Block) (s : Open) → Match bs s → open_blocks s ≡ nesting bs
match_depth [] (top c) h = refl
match_depth [] (block c s) h = absurd h
match_depth [] (other e c s) h = absurd h
match_depth (if_block ∷ bs) (top c) h = absurd h
match_depth (if_block ∷ bs) (block c s) h = absurd h
match_depth (if_block ∷ bs) (other e c s) h = ap suc (match_depth bs s h)
match_depth (else_block ∷ bs) (top c) h = absurd h
match_depth (else_block ∷ bs) (block c s) h = ap suc (match_depth bs s h)
match_depth (else_block ∷ bs) (other e c s) h = absurd h
match_depth (while_block ∷ bs) (top c) h = absurd h
match_depth (while_block ∷ bs) (block c s) h = ap suc (match_depth bs s h)
match_depth (while_block ∷ bs) (other e c s) h = absurd h
match_depth (procedure_block ∷ bs) s h = absurd h

-- the tree's reading has come to something that matches
abbrev Comes : List Block → Out Open → Type 0
Comes bs o = (s : Open) × (o ≡ ok s) × Match bs s

-- one statement more at the front
then_taking : (bs cs : List Block) (l : ℕ) (q : Stmt) (o : Out Open) → Comes cs o → ((s : Open) → Match cs s → Comes bs (taking l q s)) → Comes bs (o >>= taking l q)
then_taking bs cs l q o h f = let t = f h.0 h.2 in (t.0, ap (◌>>= taking l q) h.1 ∙ t.1, t.2)

if-comes : (l v : ℕ) (bs : List Block) (s : Open) → Match (if_block ∷ bs) s → Comes bs (taking l (if v) s)
unfolding taking
if-comes l v bs (top c) h = absurd h
if-comes l v bs (block c s) h = absurd h
if-comes l v bs (other e c s) h = (front (branch l v c e) s, refl, match_front (branch l v c e) bs s h)

else_comes : (l : ℕ) (bs : List Block) (s : Open) → Match (else_block ∷ bs) s → Comes (if_block ∷ bs) (taking l else s)
unfolding taking
else_comes l bs (top c) h = absurd h
else_comes l bs (block c s) h = (other c done s, refl, h)
else_comes l bs (other e c s) h = absurd h

while_comes : (l v : ℕ) (bs : List Block) (s : Open) → Match (while_block ∷ bs) s → Comes bs (taking l (while v) s)
unfolding taking
while_comes l v bs (top c) h = absurd h
while_comes l v bs (block c s) h = (front (loop l v c) s, refl, match_front (loop l v c) bs s h)
while_comes l v bs (other e c s) h = absurd h

end-taking : (l : ℕ) (bs : List Block) (s : Open) → nesting bs < most_nested → Match bs s → taking l end s ≡ ok (block done s)
unfolding taking
end-taking l bs s b h = ap (λ t. check t wrong_blocks (ok (block done s))) (lt-ltb (open_blocks s) most_nested (subst (λ n. n < most_nested) (sym (match_depth bs s h)) b))

taking-plain : (l : ℕ) (i : Instr) (s : Open) → taking l (plain i) s ≡ ok (front (step l i) s)
unfolding taking
taking-plain l i s = refl

-- no procedure is open
abbrev Plain : List Block → Type 0
Plain [] = Unit {0}
Plain (if_block ∷ bs) = Plain bs
Plain (else_block ∷ bs) = Plain bs
Plain (while_block ∷ bs) = Plain bs
Plain (procedure_block ∷ bs) = ⊥

opened_comes : (ss : List Stmt) (l : ℕ) (bs : List Block) → Plain bs → nesting bs ≤ most_nested → open_after bs (map own ss) ≡ ok [] → Comes bs (opened l ss)
unfolding open_after opened passing
opened_comes [] l bs p n e = subst (λ cs. Comes cs (ok (top done))) (sym (ok_eq bs [] e)) (top done, refl, tt)
opened_comes (plain i ∷ ss) l bs p n e =
    then_taking bs bs l (plain i) (opened (suc l) ss) (opened_comes ss (suc l) bs p n e) (λ s h. (front (step l i) s, taking-plain l i s, match_front (step l i) bs s h))
opened_comes (if v ∷ ss) l bs p n e =
    let k = bind_ok (opening if_block bs) (λ cs. open_after cs (map own ss)) [] e in
    let c = check-ok (ltb (nesting bs) most_nested) wrong_blocks (ok (if_block ∷ bs)) k.0 k.1 in
    then_taking bs (if_block ∷ bs) l (if v) (opened (suc l) ss)
    (opened_comes ss (suc l) (if_block ∷ bs) p (ltb-true (nesting bs) most_nested c.0) (subst (λ cs. open_after cs (map own ss) ≡ ok []) (sym (ok_eq (if_block ∷ bs) k.0 c.1)) k.2))
    (if-comes l v bs)
opened_comes (else ∷ ss) l [] p n e = absurd (refused-ok wrong_blocks [] e)
opened_comes (else ∷ ss) l (if_block ∷ bs) p n e = then_taking (if_block ∷ bs) (else_block ∷ bs) l else (opened (suc l) ss) (opened_comes ss (suc l) (else_block ∷ bs) p n e) (else_comes l bs)
opened_comes (else ∷ ss) l (else_block ∷ bs) p n e = absurd (refused-ok wrong_blocks [] e)
opened_comes (else ∷ ss) l (while_block ∷ bs) p n e = absurd (refused-ok wrong_blocks [] e)
opened_comes (else ∷ ss) l (procedure_block ∷ bs) p n e = absurd p
opened_comes (end ∷ ss) l [] p n e = absurd (refused-ok wrong_blocks [] e)
opened_comes (end ∷ ss) l (if_block ∷ bs) p n e = absurd (refused-ok wrong_blocks [] e)
opened_comes (end ∷ ss) l (else_block ∷ bs) p n e =
    then_taking (else_block ∷ bs) bs l end (opened (suc l) ss) (opened_comes ss (suc l) bs p (omega arith) e) (λ s h. (block done s, end-taking l bs s (omega arith) h, h))
opened_comes (end ∷ ss) l (while_block ∷ bs) p n e =
    then_taking (while_block ∷ bs) bs l end (opened (suc l) ss) (opened_comes ss (suc l) bs p (omega arith) e) (λ s h. (block done s, end-taking l bs s (omega arith) h, h))
opened_comes (end ∷ ss) l (procedure_block ∷ bs) p n e = absurd p
opened_comes (while v ∷ ss) l bs p n e =
    let k = bind_ok (opening while_block bs) (λ cs. open_after cs (map own ss)) [] e in
    let c = check-ok (ltb (nesting bs) most_nested) wrong_blocks (ok (while_block ∷ bs)) k.0 k.1 in
    then_taking bs (while_block ∷ bs) l (while v) (opened (suc l) ss)
    (opened_comes ss (suc l) (while_block ∷ bs) p (ltb-true (nesting bs) most_nested c.0) (subst (λ cs. open_after cs (map own ss) ≡ ok []) (sym (ok_eq (while_block ∷ bs) k.0 c.1)) k.2))
    (while_comes l v bs)

closed_comes : (s : Open) → Match [] s → (c : Code) × (closed s ≡ ok c)
closed_comes (top c) h = (c, refl)
closed_comes (block c s) h = absurd h
closed_comes (other e c s) h = absurd h

-- statements that pass check 8 have a block tree
pub blocks-tree : (ss : List Stmt) → open_after [] (map own ss) ≡ ok [] → (c : Code) × (tree_of ss ≡ ok c)
unfolding tree_of
blocks-tree ss e =
    let h = opened_comes ss 0 [] tt (omega arith) e in
    let k = closed_comes h.0 h.2 in
    (k.0, ap (◌>>= closed) h.1 ∙ k.1)

-- ---- without procedures the inlined program is the program

none : (x : ℕ) → x + 0 ≡ x
none x = omega arith

raised-right : (r : Right) → raised_right 0 r ≡ r
raised-right (number i) = refl
raised-right (copy b) = ap copy (none b)
raised-right (calc o b c) = λ i. calc o (none b i) (none c i)
raised-right (change b u) = ap (λ z. change z u) (none b)
raised-right (read f) = refl
raised-right (load r k i) = ap (load r k) (none i)

raised_instr : (i : Instr) → raised_instr_lem 0 i ≡ i
raised_instr (assign a ty r) = λ i. assign (none a i) ty (raised-right r i)
raised_instr (store r k i x ty) = λ j. store r k (none i j) (none x j) ty
raised_instr (site a ty) = ap (λ z. site z ty) (none a)

raised-none : (s : Stmt) → raised 0 s ≡ s
raised-none (plain i) = ap plain (raised_instr i)
raised-none (if v) = ap if (none v)
raised-none else = refl
raised-none end = refl
raised-none (while v) = ap while (none v)

pub inlined-none : (l at : ℕ) (ss : List Stmt) → map (λ r. r.stmt) (inlined [] 0 l at (map own ss)) ≡ ss
unfolding inlined
inlined-none l at [] = refl
inlined-none l at (s ∷ ss) = λ i. raised-none s i ∷ inlined-none (suc l) (suc at) ss i
