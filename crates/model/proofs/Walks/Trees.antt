-- What holds of every statement of the list holds of every statement of its block tree.
use mathlib.Core.Path.{◌≡◌}
use mathlib.Core.Bool.{Bool, true, false}
use mathlib.Core.List.{List, [], ◌∷◌}
use Prim.Native.Nat.{ℕ, suc}
use lib.Dec.{ltb}
use Rattle.model.specs.Lists.{All}
use Rattle.model.specs.Refusals.{ok, check}
use Rattle.model.specs.Code.{Instr, Code, done, step, branch, loop, Stmt, plain, if, else, end, while, Open, top, block, other, front}
use Rattle.model.specs.Code.{open_blocks, turned, branched, looped, taking, opened, closed, tree_of}
use Rattle.model.specs.Run.{append}
use Rattle.model.specs.Typing.{Each, AtPlain}
use Rattle.model.proofs.Basics.Results.{Gives, gives_bind, gives_ok}

module _ (P : Instr → Type 0) where
  pub each_append : (c d : Code) → Each P c → Each P d → Each P (append c d)
  each_append done d h k = k
  each_append (step l i rest) d h k = (h.0, each_append rest d h.1 k)
  each_append (branch l v y n rest) d h k = (h.0, h.1, each_append rest d h.2 k)
  each_append (loop l v body rest) d h k = (h.0, each_append rest d h.1 k)

  -- P in every open block
  abbrev InOpen : Open → Type 0
  InOpen (top c) = Each P c
  InOpen (block c s) = Each P c × InOpen s
  InOpen (other e c s) = Each P e × Each P c × InOpen s

  in_front : (f : Code → Code) → ((c : Code) → Each P c → Each P (f c)) → (s : Open) → InOpen s → InOpen (front f s)
  in_front f k (top c) h = k c h
  in_front f k (block c s) h = (k c h.0, h.1)
  in_front f k (other e c s) h = (h.0, k c h.1, h.2)

  in_turned : (s : Open) → InOpen s → Gives InOpen (turned s)
  in_turned (top c) h = tt
  in_turned (block c s) h = (h.0, tt, h.1)
  in_turned (other e c s) h = tt

  in_branched : (l v : ℕ) (s : Open) → InOpen s → Gives InOpen (branched l v s)
  in_branched l v (top c) h = tt
  in_branched l v (block c s) h = tt
  in_branched l v (other e c s) h = in_front (branch l v c e) (λ d k. (h.1, h.0, k)) s h.2

  in_looped : (l v : ℕ) (s : Open) → InOpen s → Gives InOpen (looped l v s)
  in_looped l v (top c) h = tt
  in_looped l v (block c s) h = in_front (loop l v c) (λ d k. (h.0, k)) s h.1
  in_looped l v (other e c s) h = tt

  in_opened-block : (b : Bool) (n : ℕ) (s : Open) → InOpen s → Gives InOpen (check b n (ok (block done s)))
  in_opened-block true n s h = (tt, h)
  in_opened-block false n s h = tt

  in_taking : (l : ℕ) (q : Stmt) → AtPlain P q → (s : Open) → InOpen s → Gives InOpen (taking l q s)
  unfolding taking
  in_taking l (plain i) p s h = in_front (step l i) (λ c k. (p, k)) s h
  in_taking l (if v) p s h = in_branched l v s h
  in_taking l else p s h = in_turned s h
  in_taking l end p s h = in_opened-block (ltb (open_blocks s) 4) _ s h
  in_taking l (while v) p s h = in_looped l v s h

  in_opened : (l : ℕ) (ss : List Stmt) → All (AtPlain P) ss → Gives InOpen (opened l ss)
  unfolding opened
  in_opened l [] h = tt
  in_opened l (q ∷ ss) h = gives_bind InOpen InOpen (opened (suc l) ss) (taking l q) (in_opened (suc l) ss h.1) (in_taking l q h.0)

  in_closed : (s : Open) → InOpen s → Gives (Each P) (closed s)
  in_closed (top c) h = h
  in_closed (block c s) h = tt
  in_closed (other e c s) h = tt

  pub tree-each : (ss : List Stmt) (c : Code) → All (AtPlain P) ss → tree_of ss ≡ ok c → Each P c
  unfolding tree_of
  tree-each ss c h e = gives_ok (Each P) (tree_of ss) c e (gives_bind InOpen (Each P) (opened 0 ss) closed (in_opened 0 ss h) in_closed)

pub each_any : (c : Code) → Each (λ i. Unit {0}) c
each_any done = tt
each_any (step l i rest) = (tt, each_any rest)
each_any (branch l v y n rest) = (each_any y, each_any n, each_any rest)
each_any (loop l v body rest) = (each_any body, each_any rest)
