-- From a statement to the program's start, by labels: through the blocks that enclose it, and the sites by rising label.
use mathlib.Core.Path.{◌≡◌, refl, sym, ap, subst, ◌∙◌, fun_ext}
use mathlib.Core.List.{List, [], ◌∷◌, ◌++◌, map, append_assoc, append-nil}
use Prim.Native.Nat.{ℕ, zero, suc, ◌≤◌, ◌<◌}
use native.Mathlib.Omega.{arith}
use Rattle.model.specs.Code.{Instr, Code, done, step, branch, loop, Stmt, plain, if, else, end, while}
use Rattle.model.specs.Conjunct.{Conjuncts}
use Rattle.model.specs.Refusals.{Out, ok, ◌>>=◌}
use Rattle.model.specs.Run.{append}
use Rattle.model.specs.Walk.{back, joined, rounds, walk, here, sites}
use Rattle.model.specs.Nesting.{Nested}
use Rattle.model.specs.Placement.{IfAt, WhileAt, Laid}
use Rattle.model.specs.Enclosing.{Enclosing, top, in_yes, in_no, in_while, walk_out_lem, Bare, Rest, stop, past, From}
use Rattle.model.specs.Sizes.{most_rounds, most_nested, most_inside}
use Rattle.model.proofs.Walks.Laid.{laid_le, laid-append}
use Rattle.model.proofs.Basics.Results.{bind_self, bind_assoc}
use Rattle.model.proofs.Walks.Walks.{walk-append}

-- ---- nesting

pub nested-join : (d : ℕ) (b c : Code) → Nested d b → Nested d c → Nested d (append b c)
nested-join d done c h k = k
nested-join d (step l x rest) c h k = nested-join d rest c h k
nested-join zero (branch l v y n rest) c h k = absurd h
nested-join (suc d) (branch l v y n rest) c h k = (h.0, h.1, nested-join (suc d) rest c h.2 k)
nested-join zero (loop l v body rest) c h k = absurd h
nested-join (suc d) (loop l v body rest) c h k = (h.0, nested-join (suc d) rest c h.1 k)

pub nested_more : (d : ℕ) (c : Code) → Nested d c → Nested (suc d) c
nested_more d done h = tt
nested_more d (step l x rest) h = nested_more d rest h
nested_more zero (branch l v y n rest) h = absurd h
nested_more (suc d) (branch l v y n rest) h = (nested_more d y h.0, nested_more d n h.1, nested_more (suc d) rest h.2)
nested_more zero (loop l v body rest) h = absurd h
nested_more (suc d) (loop l v body rest) h = (nested_more d body h.0, nested_more (suc d) rest h.1)

-- ---- lists of results

map-join : {A B : Type 0} (f : A → B) (xs ys : List A) → map f (xs ++ ys) ≡ map f xs ++ map f ys
map-join f [] ys = refl
map-join f (x ∷ xs) ys = ap (f x ∷◌) (map-join f xs ys)

three : {A B : Type 0} (f : A → B) (xs ys zs : List A) (L : List B) → map f (xs ++ (ys ++ zs)) ++ L ≡ map f xs ++ (map f ys ++ (map f zs ++ L))
three f xs ys zs L = rw (map-join f xs (ys ++ zs), map-join f ys zs, append_assoc (map f xs) (map f ys ++ map f zs) L, append_assoc (map f ys) (map f zs) L)

both : {A B C : Type 0} (g : B → C) (f : A → B) (xs ys : List A) (L : List C) → map g (map f (xs ++ ys)) ++ L ≡ map g (map f xs) ++ (map g (map f ys) ++ L)
both g f xs ys L = rw (map-join f xs ys, map-join g (map f xs) (map f ys), append_assoc (map g (map f xs)) (map g (map f ys)) L)

bound_twice : (f g : Conjuncts → Out Conjuncts) (os : List (Out Conjuncts)) → map (◌>>= g) (map (◌>>= f) os) ≡ map (◌>>= λ D. f D >>= g) os
bound_twice f g [] = refl
bound_twice f g (o ∷ os) = λ i. bind_assoc o f g i ∷ bound_twice f g os i

bound_self : (os : List (Out Conjuncts)) → map (◌>>= λ D. ok D) os ≡ os
bound_self [] = refl
bound_self (o ∷ os) = λ i. bind_self o i ∷ bound_self os i

module _ (stmt : ℕ → Stmt) (mate : ℕ → ℕ) (n : ℕ) where
  -- ---- the blocks that enclose a label, out to the start

  pub enclosing_end : {i q : ℕ} → Enclosing stmt mate n i q → q ≤ n
  enclosing_end (top i d h k) = omega arith
  enclosing_end (in_yes i r v e f q d a b c h k w) = omega (arith, enclosing_end w)
  enclosing_end (in_no i r v e f q y d a b c h k w) = omega (arith, enclosing_end w)
  enclosing_end (in_while i r v f q d body a b h k c m w) = omega (arith, enclosing_end w)

  -- one piece further
  pub record Onward {i q : ℕ} (w : Enclosing stmt mate n i q) (c : Code) (j : ℕ) : Type 0 where
    pub blocks : Enclosing stmt mate n j q
    pub walks_out : (D : Conjuncts) → walk_out_lem stmt mate n blocks D ≡ (walk c D >>= walk_out_lem stmt mate n w)

  further : (d c : Code) (f : Conjuncts → Out Conjuncts) (D : Conjuncts) → (walk (append d c) D >>= f) ≡ (walk c D >>= λ E. walk d E >>= f)
  further d c f D = ap (◌>>= f) (walk-append d c D) ∙ bind_assoc (walk c D) (walk d) f

  pub onward : {i q : ℕ} (w : Enclosing stmt mate n i q) (c : Code) (j : ℕ) → Laid stmt mate c i j → Nested most_nested c → Onward w c j
  unfolding walk_out_lem
  onward (top i d h k) c j l m = record { blocks = top j (append d c) (laid-append stmt mate d c 0 i j h l) (nested-join most_nested d c k m); walks_out = λ D. walk-append d c D }
  onward (in_yes i r v e f q d a b g h k w) c j l m = record {
    blocks = in_yes j r v e f q (append d c) a b g (laid-append stmt mate d c (suc r) i j h l) (nested-join most_nested d c k m) w;
    walks_out = further d c (walk_out_lem stmt mate n w);
  }
  onward (in_no i r v e f q y d a b g h k w) c j l m = record {
    blocks = in_no j r v e f q y (append d c) a b g (laid-append stmt mate d c (suc e) i j h l) (nested-join most_nested d c k m) w;
    walks_out = further d c (walk_out_lem stmt mate n w);
  }
  onward (in_while i r v f q d body a b h k g z w) c j l m = record {
    blocks = in_while j r v f q (append d c) body a b (laid-append stmt mate d c (suc r) i j h l) (nested-join most_nested d c k m) g z w;
    walks_out = further d c (λ E. rounds most_rounds (walk body) E E >>= walk_out_lem stmt mate n w);
  }

  onward-all : {i q : ℕ} (w : Enclosing stmt mate n i q) (c : Code) (j : ℕ) (o : Onward w c j) (os : List (Out Conjuncts))
      → map (◌>>= walk_out_lem stmt mate n o.blocks) os ≡ map (◌>>= walk_out_lem stmt mate n w) (map (◌>>= walk c) os)
  onward-all w c j o os = ap (λ h. map (◌>>= h) os) (fun_ext o.walks_out) ∙ sym (bound_twice (walk c) (walk_out_lem stmt mate n w) os)

  -- ---- the sites by rising label

  pub else-bare : (s : Stmt) → s ≡ else → Bare s
  else-bare s e x p = let z : ◌≡◌ {A = ℕ} 0 1 = cc in omega arith

  pub end-bare : (s : Stmt) → s ≡ end → Bare s
  end-bare s e x p = let z : ◌≡◌ {A = ℕ} 0 1 = cc in omega arith

  pub if-bare : (s : Stmt) (v : ℕ) → s ≡ if v → Bare s
  if-bare s v e x p = let z : ◌≡◌ {A = ℕ} 0 1 = cc in omega arith

  pub while-bare : (s : Stmt) (v : ℕ) → s ≡ while v → Bare s
  while-bare s v e x p = let z : ◌≡◌ {A = ℕ} 0 1 = cc in omega arith

  pub from_start : (c : Code) → Laid stmt mate c 0 n → Nested most_nested c → From stmt mate n 0 (sites c)
  unfolding walk_out_lem walk
  from_start c h k = record {
    piece = c;
    q = n;
    tail = [];
    laid = h;
    nested = k;
    blocks = top 0 done refl tt;
    rest = stop;
    is = sym (append-nil (map (◌>>= λ D. ok D) (sites c)) ∙ bound_self (sites c));
  }

  -- at the end no site is left
  pub from_end : (K : List (Out Conjuncts)) → From stmt mate n n K → K ≡ []
  unfolding sites
  from_end K a = a.is ∙ go a.piece a.q a.tail a.laid a.blocks a.rest
    where
      none : (q : ℕ) (L : List (Out Conjuncts)) → n ≡ q → Rest stmt mate n q L → L ≡ []
      none q L e stop = refl
      none q L e (past p z c L' b h k w r) = absurd (omega (arith, laid_le stmt mate c (suc p) z h, enclosing_end w))

      go : (c : Code) (q : ℕ) (L : List (Out Conjuncts)) → Laid stmt mate c n q → (w : Enclosing stmt mate n n q) → Rest stmt mate n q L → map (◌>>= walk_out_lem stmt mate n w) (sites c) ++ L ≡ []
      go done q L h w r = none q L h r
      go (step l x rest) q L h w r = absurd (omega (arith, laid_le stmt mate rest (suc n) q h.2, enclosing_end w))
      go (branch l v y m rest) q L h w r =
          let k = h.1 in
          absurd (omega (arith, laid_le stmt mate y (suc n) k.0 k.3, laid_le stmt mate m (suc k.0) k.1 k.4, laid_le stmt mate rest (suc k.1) q k.5, enclosing_end w))
      go (loop l v body rest) q L h w r =
          let k = h.1 in
          absurd (omega (arith, laid_le stmt mate body (suc n) k.0 k.2, laid_le stmt mate rest (suc k.0) q k.3, enclosing_end w))

  -- the next label: a statement, whose site comes first; or nothing of the kind
  pub data Next (i : ℕ) (K : List (Out Conjuncts)) : Type 0 where
    statement : (x : Instr) (q : ℕ) (w : Enclosing stmt mate n i q) (L : List (Out Conjuncts)) → stmt i ≡ plain x → i < q
        → K ≡ map (◌>>= walk_out_lem stmt mate n w) (here x) ++ L → From stmt mate n (suc i) L → Next i K
    bare : Bare (stmt i) → From stmt mate n (suc i) K → Next i K

  pub from_next : (i : ℕ) (K : List (Out Conjuncts)) → i < n → From stmt mate n i K → Next i K
  unfolding sites walk walk_out_lem
  from_next i K b a = subst (Next i) (sym a.is) (go a.piece a.q a.tail a.laid a.nested a.blocks a.rest)
    where
      onto : (q : ℕ) (L : List (Out Conjuncts)) → i ≡ q → Rest stmt mate n q L → Next i L
      onto q L e stop = absurd (omega arith)
      onto q L e (past p z c L' s h k w r) =
          subst (λ j. Next j (map (◌>>= walk_out_lem stmt mate n w) (sites c) ++ L')) (sym e)
          (bare s (record { piece = c; q = z; tail = L'; laid = h; nested = k; blocks = w; rest = r; is = refl }))

      go : (c : Code) (q : ℕ) (L : List (Out Conjuncts)) → Laid stmt mate c i q → Nested most_nested c → (w : Enclosing stmt mate n i q) → Rest stmt mate n q L
          → Next i (map (◌>>= walk_out_lem stmt mate n w) (sites c) ++ L)
      go done q L h k w r = onto q L h r
      go (step l x rest) q L h k w r =
          let o = onward w (step l x done) (suc i) (h.0, h.1, refl) tt in
          let first = map (◌>>= walk_out_lem stmt mate n w) (here x) in
          let later = map (◌>>= walk_out_lem stmt mate n w) (map (◌>>= back l x) (sites rest)) in
          let more = map (◌>>= walk_out_lem stmt mate n o.blocks) (sites rest) in
          let split : map (◌>>= walk_out_lem stmt mate n w) (here x ++ map (◌>>= back l x) (sites rest)) ++ L ≡ first ++ (more ++ L) =
          ap (◌++ L) (map-join (◌>>= walk_out_lem stmt mate n w) (here x) (map (◌>>= back l x) (sites rest)))
          ∙ append_assoc first later L
          ∙ ap (λ z. first ++ (z ++ L)) (sym (onward-all w (step l x done) (suc i) o (sites rest))) in
          statement x q w (more ++ L) h.1 (laid_le stmt mate rest (suc i) q h.2) split
          (record { piece = rest; q = q; tail = L; laid = h.2; nested = k; blocks = o.blocks; rest = r; is = refl })
      go (branch l v y m rest) q L h k w r =
          let e = h.1.0 in
          let f = h.1.1 in
          let at : IfAt stmt mate i v e f = h.1.2 in
          let inner : e < f = laid_le stmt mate m (suc e) f h.1.4 in
          let outer : f < q = laid_le stmt mate rest (suc f) q h.1.5 in
          let o = onward w (branch l v y m done) (suc f) (h.0, (e, f, at, h.1.3, h.1.4, refl)) (k.0, k.1, tt) in
          let wy : Enclosing stmt mate n (suc i) e = in_yes (suc i) i v e f q done at inner outer refl tt w in
          let wm : Enclosing stmt mate n (suc e) f = in_no (suc e) i v e f q y done at outer h.1.3 refl tt w in
          let more = map (◌>>= walk_out_lem stmt mate n o.blocks) (sites rest) in
          let behind : Rest stmt mate n f (more ++ L) = past f q rest L (end-bare (stmt f) at.is-end) h.1.5 k.2 o.blocks r in
          let others : Rest stmt mate n e (map (◌>>= walk_out_lem stmt mate n wm) (sites m) ++ (more ++ L)) =
          past e f m (more ++ L) (else-bare (stmt e) at.is-else) h.1.4 (nested_more most_inside m k.1) wm behind in
          let split : map (◌>>= walk_out_lem stmt mate n w) (sites y ++ (sites m ++ map (◌>>= joined (walk y) (walk m)) (sites rest))) ++ L
          ≡ map (◌>>= walk_out_lem stmt mate n wy) (sites y) ++ (map (◌>>= walk_out_lem stmt mate n wm) (sites m) ++ (more ++ L)) =
          three (◌>>= walk_out_lem stmt mate n w) (sites y) (sites m) (map (◌>>= joined (walk y) (walk m)) (sites rest)) L
          ∙ ap (λ z. map (◌>>= walk_out_lem stmt mate n w) (sites y) ++ (map (◌>>= walk_out_lem stmt mate n w) (sites m) ++ (z ++ L))) (sym (onward-all w (branch l v y m done) (suc f) o (sites rest))) in
          bare (if-bare (stmt i) v at.is-if)
          (record {
            piece = y;
            q = e;
            tail = map (◌>>= walk_out_lem stmt mate n wm) (sites m) ++ (more ++ L);
            laid = h.1.3;
            nested = nested_more most_inside y k.0;
            blocks = wy;
            rest = others;
            is = split;
          })
      go (loop l v body rest) q L h k w r =
          let f = h.1.0 in
          let at : WhileAt stmt mate i v f = h.1.1 in
          let outer : f < q = laid_le stmt mate rest (suc f) q h.1.3 in
          let again : Conjuncts → Out Conjuncts = λ D. rounds most_rounds (walk body) D D in
          let o = onward w (loop l v body done) (suc f) (h.0, (f, at, h.1.2, refl)) (k.0, tt) in
          let wb : Enclosing stmt mate n (suc i) f = in_while (suc i) i v f q done body at outer refl tt h.1.2 k.0 w in
          let more = map (◌>>= walk_out_lem stmt mate n o.blocks) (sites rest) in
          let behind : Rest stmt mate n f (more ++ L) = past f q rest L (end-bare (stmt f) at.is-end) h.1.3 k.1 o.blocks r in
          let split : map (◌>>= walk_out_lem stmt mate n w) (map (◌>>= again) (sites body ++ sites rest)) ++ L ≡ map (◌>>= walk_out_lem stmt mate n wb) (sites body) ++ (more ++ L) =
          both (◌>>= walk_out_lem stmt mate n w) (◌>>= again) (sites body) (sites rest) L
          ∙ ap (◌++ (map (◌>>= walk_out_lem stmt mate n w) (map (◌>>= again) (sites rest)) ++ L)) (bound_twice again (walk_out_lem stmt mate n w) (sites body))
          ∙ ap (λ z. map (◌>>= walk_out_lem stmt mate n wb) (sites body) ++ (z ++ L)) (sym (onward-all w (loop l v body done) (suc f) o (sites rest))) in
          bare (while-bare (stmt i) v at.is-while)
          (record { piece = body; q = f; tail = more ++ L; laid = h.1.2; nested = nested_more most_inside body k.0; blocks = wb; rest = behind; is = split })
