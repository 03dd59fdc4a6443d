-- A property that every rule keeps is one of every set of an analysis: of those of the walk, of those of the sites and of the condition.
-- Each result has it, and each refusal's number has another.
use mathlib.Core.Path.{◌≡◌}
use mathlib.Core.Bool.{true, false}
use mathlib.Core.List.{List, [], ◌∷◌, ◌++◌, map}
use Prim.Native.Nat.{ℕ, zero, suc}
use Rattle.model.specs.Code.{Instr, assign, store, site, Code, done, step, branch, loop}
use Rattle.model.specs.Conjunct.{var, Conj, Conjuncts, union_of, same, limits, renumber}
use Rattle.model.specs.Lists.{All}
use Rattle.model.specs.Refusals.{Out, ok, ◌>>=◌}
use Rattle.model.specs.Sizes.{most_rounds}
use Rattle.model.specs.Walk.{before, gather, back, rounds, joined, walk, here, sites, zeroed, start, join, derived}
use Rattle.model.specs.Typing.{Each}
use Rattle.model.proofs.Conjuncts.Canonical.{union_every}
use Rattle.model.proofs.Conjuncts.Gather.{gather-every}
use Rattle.model.proofs.Conjuncts.Limits.{limits_cases}
use Rattle.model.proofs.Basics.Lists.{all_imp, all_append, all_map}
use Rattle.model.proofs.Basics.Results.{Ends, ends_bind, gives_ok, Gives}
use Rattle.model.proofs.Basics.Tests.{case}

-- ---- a property of sets that unions within the limits keep

module _ (K : Conjuncts → Type 0) (P : ℕ → Type 0) where
  -- f keeps the property K, and refuses with a number that has P
  abbrev pub Keeps : (Conjuncts → Out Conjuncts) → Type 0
  Keeps f = (S : Conjuncts) → K S → Ends K P (f S)

  bound : (f : Conjuncts → Out Conjuncts) → Keeps f → (os : List (Out Conjuncts)) → All (Ends K P) os → All (Ends K P) (map (◌>>= f) os)
  bound f k os h = all_map (Ends K P) (◌>>= f) os (all_imp (λ o p. ends_bind K K P o f p k) os h)

  module _ (both : (R S : Conjuncts) → K R → K S → Ends K P (limits (union_of R S))) where
    pub joined_keeps : (f g : Conjuncts → Out Conjuncts) → Keeps f → Keeps g → Keeps (joined f g)
    joined_keeps f g j k D h =
        ends_bind K K P (f D) (λ A. g D >>= λ B. limits (union_of A B)) (j D h) (λ A a.
        ends_bind K K P (g D) (λ B. limits (union_of A B)) (k D h) (λ B b. both A B a b))

    -- from sets with another property, which the rule at the program's start turns into K
    pub join_keeps : (L : Conjuncts → Type 0) → ((S : Conjuncts) → L S → Ends K P (start S))
        → (R : Conjuncts) (os : List (Out Conjuncts)) → K R → All (Ends L P) os → Ends K P (join R os)
    unfolding join
    join_keeps L turn R [] r h = r
    join_keeps L turn R (o ∷ os) r h =
        ends_bind K K P (o >>= start) (λ S. limits (union_of R S) >>= λ R'. join R' os) (ends_bind L K P o start h.0 turn) (λ S s.
        ends_bind K K P (limits (union_of R S)) (λ R'. join R' os) (both R S r s) (λ R' r'. join_keeps L turn R' os r' h.1))

    -- rounds that never settle are refused
    module _ (eleven : P 11) where
      pub rounds_keep : (n : ℕ) (f : Conjuncts → Out Conjuncts) → Keeps f → (D S : Conjuncts) → K D → K S → Ends K P (rounds n f D S)
      unfolding rounds
      rounds_keep zero f k D S d s = eleven
      rounds_keep (suc n) f k D S d s =
          let next : Conjuncts → Out Conjuncts = λ S'. elim (same S S') [ true ↦ ok S' | false ↦ rounds n f D S' ] in
          ends_bind K K P (f S) (λ B. limits (union_of D B) >>= next) (k S s) (λ B b.
          ends_bind K K P (limits (union_of D B)) next (both D B d b) (λ S' s'.
          case (same S S') (λ z. Ends K P (elim z [ true ↦ ok S' | false ↦ rounds n f D S' ])) (λ p. s') (λ p. rounds_keep n f k D S' d s')))

      -- the statements have the property W, and the rule of each such statement keeps K
      module _ (W : Instr → Type 0) (rule : (l : ℕ) (i : Instr) → W i → Keeps (back l i)) where
        pub walk_keeps : (c : Code) → Each W c → Keeps (walk c)
        unfolding walk
        walk_keeps done w C h = h
        walk_keeps (step l i rest) w C h = ends_bind K K P (walk rest C) (back l i) (walk_keeps rest w.1 C h) (rule l i w.0)
        walk_keeps (branch l v y n rest) w C h =
            ends_bind K K P (walk rest C) (joined (walk y) (walk n)) (walk_keeps rest w.2 C h)
            (joined_keeps (walk y) (walk n) (walk_keeps y w.0) (walk_keeps n w.1))
        walk_keeps (loop l v body rest) w C h =
            ends_bind K K P (walk rest C) (λ D. rounds most_rounds (walk body) D D) (walk_keeps rest w.1 C h)
            (λ D d. rounds_keep most_rounds (walk body) (walk_keeps body w.0) D D d d)

        module _ (first : (a ty : ℕ) → W (site a ty) → K ((var a ty ∷ []) ∷ [])) where
          here_keeps : (i : Instr) → W i → All (Ends K P) (here i)
          unfolding here
          here_keeps (assign a ty r) w = tt
          here_keeps (store t k i x ty) w = tt
          here_keeps (site a ty) w = (first a ty w, tt)

          pub sites_keep : (c : Code) → Each W c → All (Ends K P) (sites c)
          unfolding sites
          sites_keep done w = tt
          sites_keep (step l i rest) w =
              all_append (Ends K P) (here i) (map (◌>>= back l i) (sites rest)) (here_keeps i w.0)
              (bound (back l i) (rule l i w.0) (sites rest) (sites_keep rest w.1))
          sites_keep (branch l v y n rest) w =
              let f = joined (walk y) (walk n) in
              let m = map (◌>>= f) (sites rest) in
              all_append (Ends K P) (sites y) (sites n ++ m) (sites_keep y w.0)
              (all_append (Ends K P) (sites n) m (sites_keep n w.1)
              (bound f (joined_keeps (walk y) (walk n) (walk_keeps y w.0) (walk_keeps n w.1)) (sites rest) (sites_keep rest w.2)))
          sites_keep (loop l v body rest) w =
              bound (λ D. rounds most_rounds (walk body) D D) (λ D d. rounds_keep most_rounds (walk body) (walk_keeps body w.0) D D d d) (sites body ++ sites rest)
              (all_append (Ends K P) (sites body) (sites rest) (sites_keep body w.0) (sites_keep rest w.1))

-- ---- a property of every conjunct

module _ (P : Conj → Type 0) where
  limits-every : (S : Conjuncts) → All P S → Gives (All P) (limits S)
  limits-every S h = limits_cases (Gives (All P)) S tt tt (λ fine. h)

  pub both-every : (R S : Conjuncts) → All P R → All P S → Gives (All P) (limits (union_of R S))
  both-every R S h k = limits-every (union_of R S) (union_every P R S h k)

  -- from one that each conjunct has before the rule
  pub rule_every : ((e : Conj) → P e → P (renumber e)) → (Q : Conj → Type 0) (f : Conj → List Conj) → ((e : Conj) → Q e → All P (f e))
      → (S : Conjuncts) → All Q S → Gives (All P) (limits (gather f S))
  rule_every again Q f k S h = limits-every (gather f S) (gather-every P f Q (λ e q. all_map P renumber (f e) (all_imp again (f e) (k e q))) S h)

-- Q of every conjunct on the way, P of every conjunct of the condition
pub derived-every : (P Q : Conj → Type 0) (W : Instr → Type 0)
    → ((e : Conj) → P e → P (renumber e)) → ((e : Conj) → Q e → Q (renumber e))
    → ((a ty : ℕ) → W (site a ty) → Q (var a ty ∷ []))
    → ((l : ℕ) (i : Instr) → W i → (e : Conj) → Q e → All Q (before l i e))
    → ((e : Conj) → Q e → P (map zeroed e))
    → (c : Code) → Each W c → (S : Conjuncts) → derived c ≡ ok S → All P S
unfolding derived back start
derived-every P Q W againP againQ first rule turn c w S p =
    let any : ℕ → Type 0 = λ n. Unit {0} in
    gives_ok (All P) (join [] (sites c)) S p
    (join_keeps (All P) any (both-every P) (All Q) (rule_every P againP Q (λ e. map zeroed e ∷ []) (λ e h. (turn e h, tt))) [] (sites c) tt
    (sites_keep (All Q) any (both-every Q) tt W (λ l i v. rule_every Q againQ Q (before l i) (rule l i v)) (λ a ty v. (first a ty v, tt)) c w))
