-- The analysis is sound: where the condition holds of the zero state, no run of the program logs a marked value.
use mathlib.Core.Path.{◌≡◌, refl, sym, ◌∙◌, ap, subst}
use mathlib.Core.Bool.{Bool, true, false, cond}
use mathlib.Core.List.{List, [], ◌∷◌, ◌++◌, map}
use Prim.Native.Nat.{ℕ, zero, suc}
use Rattle.arith.proofs.WrapLaws.{immediate-zero}
use Rattle.model.specs.Code.{Instr, assign, store, site, Code, done, step, branch, loop}
use Rattle.model.specs.Conjunct.{Source, field, cell, Node, const, atom, var, op, conv, Conj, Conjuncts, union_of, same, limits, renumber, AtAtom}
use Rattle.model.specs.Input.{Input}
use Rattle.model.specs.Lists.{All}
use Rattle.model.specs.Refusals.{Out, ok, refused, ◌>>=◌}
use Rattle.model.specs.Run.{State, zeros, exec, append, Line, logged, Origins, label_of, execute}
use Rattle.model.specs.Sizes.{most_rounds}
use Rattle.model.specs.Values.{Val, plain}
use Rattle.model.specs.Walk.{before, gather, back, rounds, joined, walk, here, sites, zeroed, start, join, derived}
use Rattle.model.proofs.Conjuncts.Canonical.{union_all}
use Rattle.model.proofs.Conjuncts.Eval.{eval_map, renumber_meets}
use Rattle.model.proofs.Conjuncts.Gather.{gather-all}
use Rattle.model.proofs.Runs.Instruction.{before_meets}
use Rattle.model.proofs.Conjuncts.Limits.{limits_cases, limits_inv}
use Rattle.model.proofs.Basics.Lists.{all_imp, all_of, all_left, all_right, all_append, all_map, all_unmap}
use Rattle.model.proofs.Conjuncts.Meaning.{Env, push, pick, eval, top_mark, LiveAtom, Meets}
use Rattle.model.proofs.Conjuncts.Order.{same_eq}
use Rattle.model.proofs.Basics.Results.{Ends, bind_self, bind_assoc}
use Rattle.model.proofs.Runs.Runs.{Leads, leads_all, run-all}

module _ (I : Input) where
  -- the result is a set, and the state meets each conjunct
  abbrev Safe : State → Out Conjuncts → Type 0
  Safe σ o = Ends (All (Meets I σ)) (λ n. ⊥) o

  -- each site of the program still to be run has a set that the state meets
  abbrev Good : State → Code → Type 0
  Good σ c = All (Safe σ) (sites c)

  safe_limits : (σ : State) (S : Conjuncts) → Safe σ (limits S) → All (Meets I σ) S
  safe_limits σ S = limits_cases (λ o. Safe σ o → All (Meets I σ) S) S (λ h. absurd h) (λ h. absurd h) (λ fine h. h)

  safe_gather : (σ : State) (f : Conj → List Conj) (S : Conjuncts) → Safe σ (limits (gather f S)) → All (λ e. All (Meets I σ) (f e)) S
  safe_gather σ f S h =
      all_imp (λ e k. all_imp (λ d. renumber_meets I σ d) (f e) (all_unmap (Meets I σ) renumber (f e) k)) S
      (gather-all (Meets I σ) f S (safe_limits σ (gather f S) h))

  -- ---- one statement

  back_safe : (σ : State) (l : ℕ) (i : Instr) (ch : List ℕ) (o : Out Conjuncts) → Safe σ (o >>= back l i) → Leads (λ σ'. Safe σ' o) (exec I σ i ch)
  unfolding back
  back_safe σ l i ch (ok S) h = leads_all (Meets I) (exec I σ i ch) S (all_imp (before_meets I σ l i ch) S (safe_gather σ (before l i) S h))
  back_safe σ l i ch (refused n) h = absurd h

  step_good : (σ : State) (l : ℕ) (i : Instr) (rest : Code) (ch : List ℕ) → Good σ (step l i rest) → Leads (λ σ'. Good σ' rest) (exec I σ i ch)
  unfolding sites
  step_good σ l i rest ch h =
      leads_all Safe (exec I σ i ch) (sites rest)
      (all_imp (back_safe σ l i ch) (sites rest) (all_unmap (Safe σ) (◌>>= back l i) (sites rest) (all_right (Safe σ) (here i) (map (◌>>= back l i) (sites rest)) h)))

  -- ---- blocks

  append-sites : (P : Out Conjuncts → Type 0) (c d : Code) → All P (sites c) → All (λ o. P (o >>= walk c)) (sites d) → All P (sites (append c d))
  unfolding sites walk
  append-sites P done d h k = all_imp (λ o. subst P (bind_self o)) (sites d) k
  append-sites P (step l i rest) d h k =
      all_append P (here i) (map (◌>>= back l i) (sites (append rest d)))
      (all_left P (here i) (map (◌>>= back l i) (sites rest)) h)
      (all_map P (◌>>= back l i) (sites (append rest d))
      (append-sites (λ o. P (o >>= back l i)) rest d
      (all_unmap P (◌>>= back l i) (sites rest) (all_right P (here i) (map (◌>>= back l i) (sites rest)) h))
      (all_imp (λ o. subst P (sym (bind_assoc o (walk rest) (back l i)))) (sites d) k)))
  append-sites P (branch l v y n rest) d h k =
      let f = joined (walk y) (walk n) in
      let m = map (◌>>= f) (sites rest) in
      let h₁ = all_right P (sites y) (sites n ++ m) h in
      all_append P (sites y) (sites n ++ map (◌>>= f) (sites (append rest d)))
      (all_left P (sites y) (sites n ++ m) h)
      (all_append P (sites n) (map (◌>>= f) (sites (append rest d)))
      (all_left P (sites n) m h₁)
      (all_map P (◌>>= f) (sites (append rest d))
      (append-sites (λ o. P (o >>= f)) rest d
      (all_unmap P (◌>>= f) (sites rest) (all_right P (sites n) m h₁))
      (all_imp (λ o. subst P (sym (bind_assoc o (walk rest) f))) (sites d) k))))
  append-sites P (loop l v body rest) d h k =
      let f : Conjuncts → Out Conjuncts = λ D. rounds most_rounds (walk body) D D in
      let h₁ = all_unmap P (◌>>= f) (sites body ++ sites rest) h in
      all_map P (◌>>= f) (sites body ++ sites (append rest d))
      (all_append (λ o. P (o >>= f)) (sites body) (sites (append rest d))
      (all_left (λ o. P (o >>= f)) (sites body) (sites rest) h₁)
      (append-sites (λ o. P (o >>= f)) rest d
      (all_right (λ o. P (o >>= f)) (sites body) (sites rest) h₁)
      (all_imp (λ o. subst P (sym (bind_assoc o (walk rest) f))) (sites d) k)))

  joined-both : (σ : State) (p q : Out Conjuncts) → Safe σ (p >>= λ A. q >>= λ B. limits (union_of A B)) → Safe σ p × Safe σ q
  joined-both σ (ok A) (ok B) h = union_all (Meets I σ) A B (safe_limits σ (union_of A B) h)
  joined-both σ (ok A) (refused m) h = absurd h
  joined-both σ (refused n) q h = absurd h

  joined_safe : (σ : State) (y n : Code) (o : Out Conjuncts) → Safe σ (o >>= joined (walk y) (walk n)) → Safe σ (o >>= walk y) × Safe σ (o >>= walk n)
  joined_safe σ y n (ok D) h = joined-both σ (walk y D) (walk n D) h
  joined_safe σ y n (refused m) h = absurd h

  -- a settled set holds what it began with and the body's walk of itself
  rounds_safe : (σ : State) (n : ℕ) (f : Conjuncts → Out Conjuncts) (D S : Conjuncts) → Safe σ (rounds n f D S) → All (Meets I σ) D × Safe σ (rounds n f D S >>= f)
  unfolding rounds
  rounds_safe σ zero f D S h = absurd h
  rounds_safe σ (suc n) f D S h = first (f S) refl h (λ S'. rounds_safe σ n f D S')
    where
      either : Bool → Conjuncts → Out Conjuncts
      either b S' = elim b [ true ↦ ok S' | false ↦ rounds n f D S' ]

      next : Conjuncts → Out Conjuncts
      next S' = either (same S S') S'

      Below : Type 0
      Below = (S' : Conjuncts) → Safe σ (rounds n f D S') → All (Meets I σ) D × Safe σ (rounds n f D S' >>= f)

      third : (B S' : Conjuncts) → f S ≡ ok B → union_of D B ≡ S' → (b : Bool) → same S S' ≡ b → Safe σ (either b S') → Below → All (Meets I σ) D × Safe σ (either b S' >>= f)
      third B S' p q true r k ih =
          let u = union_all (Meets I σ) D B (subst (All (Meets I σ)) (sym q) k) in
          (u.0, subst (Safe σ) (sym p ∙ ap f (same_eq S S' r)) u.1)
      third B S' p q false r k ih = ih S' k

      second : (B : Conjuncts) → f S ≡ ok B → (o : Out Conjuncts) → limits (union_of D B) ≡ o → Safe σ (o >>= next) → Below → All (Meets I σ) D × Safe σ (o >>= next >>= f)
      second B p (ok S') q k ih = third B S' p (limits_inv (union_of D B) S' q).0 (same S S') refl k ih
      second B p (refused m) q k ih = absurd k

      first : (o : Out Conjuncts) → f S ≡ o → Safe σ (o >>= λ B. limits (union_of D B) >>= next) → Below → All (Meets I σ) D × Safe σ ((o >>= λ B. limits (union_of D B) >>= next) >>= f)
      first (ok B) p k ih = second B p (limits (union_of D B)) refl k ih
      first (refused m) p k ih = absurd k

  loop-safe : (σ : State) (body : Code) (o : Out Conjuncts) → Safe σ (o >>= λ D. rounds most_rounds (walk body) D D)
      → Safe σ o × Safe σ ((o >>= λ D. rounds most_rounds (walk body) D D) >>= walk body)
  loop-safe σ body (ok D) h = rounds_safe σ most_rounds (walk body) D D h
  loop-safe σ body (refused n) h = absurd h

  branch_good : (σ : State) (l v : ℕ) (y n rest : Code) (b : Bool) → Good σ (branch l v y n rest) → Good σ (cond b (append y rest) (append n rest))
  unfolding sites
  branch_good σ l v y n rest true h =
      let f = joined (walk y) (walk n) in
      let m = map (◌>>= f) (sites rest) in
      append-sites (Safe σ) y rest (all_left (Safe σ) (sites y) (sites n ++ m) h)
      (all_imp (λ o k. (joined_safe σ y n o k).0) (sites rest)
      (all_unmap (Safe σ) (◌>>= f) (sites rest) (all_right (Safe σ) (sites n) m (all_right (Safe σ) (sites y) (sites n ++ m) h))))
  branch_good σ l v y n rest false h =
      let f = joined (walk y) (walk n) in
      let m = map (◌>>= f) (sites rest) in
      let h₁ = all_right (Safe σ) (sites y) (sites n ++ m) h in
      append-sites (Safe σ) n rest (all_left (Safe σ) (sites n) m h₁)
      (all_imp (λ o k. (joined_safe σ y n o k).1) (sites rest) (all_unmap (Safe σ) (◌>>= f) (sites rest) (all_right (Safe σ) (sites n) m h₁)))

  loop-good : (σ : State) (l v : ℕ) (body rest : Code) (b : Bool) → Good σ (loop l v body rest) → Good σ (cond b (append body (loop l v body rest)) rest)
  unfolding sites
  loop-good σ l v body rest b h =
      let f : Conjuncts → Out Conjuncts = λ D. rounds most_rounds (walk body) D D in
      let h₁ = all_imp (loop-safe σ body) (sites body ++ sites rest) (all_unmap (Safe σ) (◌>>= f) (sites body ++ sites rest) h) in
      let all₀ = all_imp (λ o k. k.0) (sites body ++ sites rest) h₁ in
      let all₁ = all_map (λ o. Safe σ (o >>= walk body)) (◌>>= f) (sites body ++ sites rest) (all_imp (λ o k. k.1) (sites body ++ sites rest) h₁) in
      go' b (all_left (Safe σ) (sites body) (sites rest) all₀) (all_right (Safe σ) (sites body) (sites rest) all₀) all₁
    where
      go' : (b : Bool) → Good σ body → Good σ rest → All (λ o. Safe σ (o >>= walk body)) (sites (loop l v body rest)) → Good σ (cond b (append body (loop l v body rest)) rest)
      go' true p q r = append-sites (Safe σ) body (loop l v body rest) p r
      go' false p q r = q

  -- ---- runs

  abbrev Unmarked : Line → Type 0
  Unmarked line = line.value.mark ≡ false

  logged_unmarked : (σ : State) (l : ℕ) (i : Instr) → All (Safe σ) (here i) → All Unmarked (logged l i σ)
  unfolding here logged Meets eval push
  logged_unmarked σ l (assign a ty r) h = tt
  logged_unmarked σ l (store t k i x ty) h = tt
  logged_unmarked σ l (site a ty) h = (h.0.0 (λ s n. 0) (tt, tt), tt)

  run_unmarked : (o : Origins) (n room : ℕ) (σ : State) (c : Code) (ch : List ℕ) → Good σ c → All Unmarked (execute I o n room σ c ch).log
  unfolding sites
  run_unmarked o =
      run-all I o Unmarked Good
      (λ σ l i rest ch h. (logged_unmarked σ (label_of (o l)) i (all_left (Safe σ) (here i) (map (◌>>= back l i) (sites rest)) h), step_good σ l i rest ch h))
      branch_good loop-good

  -- ---- the start

  zeroed-source : (env : Env) (s : Source) (n : ℕ) (st : List Val) → push I zeros env (zeroed (atom (record { src = s; n = n }))) st ≡ push I zeros env (atom (record { src = s; n = n })) st
  unfolding push zeroed pick
  zeroed-source env (field f ty) n st = refl
  zeroed-source env (cell l t k ty) n st = ap (λ z. plain z ∷ st) (immediate-zero ty)

  zeroed_push : (env : Env) (v : Node) (st : List Val) → push I zeros env (zeroed v) st ≡ push I zeros env v st
  unfolding push zeroed
  zeroed_push env (const ty i) st = refl
  zeroed_push env (atom a) st = zeroed-source env a.src a.n st
  zeroed_push env (var x ty) st = ap (λ z. plain z ∷ st) (immediate-zero ty)
  zeroed_push env (op o ty) st = refl
  zeroed_push env (conv ty) st = refl

  abbrev LiveNode : Node → Type 0
  LiveNode = AtAtom (λ a. LiveAtom I a.src)

  zeroed-source_live : (s : Source) (n : ℕ) → LiveAtom I s → LiveNode (zeroed (atom (record { src = s; n = n })))
  unfolding zeroed
  zeroed-source_live (field f ty) n h = h
  zeroed-source_live (cell l t k ty) n h = tt

  zeroed_live : (v : Node) → LiveNode v → LiveNode (zeroed v)
  unfolding zeroed
  zeroed_live (const ty i) h = tt
  zeroed_live (atom a) h = zeroed-source_live a.src a.n h
  zeroed_live (var x ty) h = tt
  zeroed_live (op o ty) h = tt
  zeroed_live (conv ty) h = tt

  zeroed_meets : (e : Conj) → Meets I zeros (map zeroed e) → Meets I zeros e
  unfolding Meets
  zeroed_meets e h env live =
      ap top_mark (sym (eval_map I zeros zeros env env zeroed e (all_of (zeroed_push env) e) []))
      ∙ h env (all_map LiveNode zeroed e (all_imp zeroed_live e live))

  start_safe : (o : Out Conjuncts) → Safe zeros (o >>= start) → Safe zeros o
  unfolding start
  start_safe (ok S) h = all_imp (λ e k. zeroed_meets e k.0) S (safe_gather zeros (λ e. map zeroed e ∷ []) S h)
  start_safe (refused n) h = absurd h

  join_safe : (R : Conjuncts) (os : List (Out Conjuncts)) → Safe zeros (join R os) → All (Meets I zeros) R × All (Safe zeros) os
  unfolding join
  join_safe R [] h = (h, tt)
  join_safe R (o ∷ os) h = first (o >>= start) h (start_safe o) (λ R'. join_safe R' os)
    where
      Below : Type 0
      Below = (R' : Conjuncts) → Safe zeros (join R' os) → All (Meets I zeros) R' × All (Safe zeros) os

      second : (S : Conjuncts) (p : Out Conjuncts) → limits (union_of R S) ≡ p → Safe zeros (p >>= λ R'. join R' os) → (All (Meets I zeros) S → Safe zeros o) → Below
          → All (Meets I zeros) R × (Safe zeros o × All (Safe zeros) os)
      second S (ok R') q k f ih =
          let w = ih R' k in
          let u = union_all (Meets I zeros) R S (subst (All (Meets I zeros)) (sym (limits_inv (union_of R S) R' q).0) w.0) in
          (u.0, (f u.1, w.1))
      second S (refused n) q k f ih = absurd k

      first : (p : Out Conjuncts) → Safe zeros (p >>= λ S. limits (union_of R S) >>= λ R'. join R' os) → (Safe zeros p → Safe zeros o) → Below
          → All (Meets I zeros) R × (Safe zeros o × All (Safe zeros) os)
      first (ok S) k f ih = second S (limits (union_of R S)) refl k f ih
      first (refused n) k f ih = absurd k

  -- The analysis is sound
  pub sound : (c : Code) (R : Conjuncts) → derived c ≡ ok R → All (Meets I zeros) R
      → (o : Origins) (n room : ℕ) (ch : List ℕ) → All (λ line. line.value.mark ≡ false) (execute I o n room zeros c ch).log
  unfolding derived
  sound c R p h o n room ch = run_unmarked o n room zeros c ch (join_safe [] (sites c) (subst (Safe zeros) (sym p) h)).1
