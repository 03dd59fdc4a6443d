-- A property of sets that every rule, every union and every difference keeps is kept by the walk, light or not. Two of them: that sets
-- are tidy, and that flags cover them, where those of what the statements may bring are on.
use mathlib.Core.Bool.{Bool, true, false, cond}
use mathlib.Core.List.{[], ◌∷◌}
use Prim.Native.Nat.{ℕ, zero, suc}
use Rattle.model.specs.Code.{Instr, Code, done, step, branch, loop, Stmt, plain}
use Rattle.model.specs.Conjunct.{Conjuncts, union_of, same, limits}
use Rattle.model.specs.Placement.{Laid}
use Rattle.model.specs.Refusals.{Out, ok, ◌>>=◌}
use Rattle.model.specs.Sizes.{most_rounds}
use Rattle.model.specs.TidySets.{Tidy}
use Rattle.model.specs.Typing.{Each}
use Rattle.model.specs.Walk.{back, joined}
use Rattle.model.proofs.Basics.Results.{Gives, gives_bind}
use Rattle.model.proofs.Basics.Tests.{case}
use Rattle.model.proofs.Conjuncts.Remains.{remains_tidy}
use Rattle.model.proofs.Walks.Invariant.{joined_keeps, walk_keeps, both-every}
use Rattle.model.proofs.Walks.Tidied.{union_tidy, back-tidy}
use Rattle.model.proofs.Walks.Trees.{each_any}
use Rattle.sets.specs.Minus.{minus}
use Rattle.sets.proofs.Differing.{minus-every, minus_remains}
use Rattle.footprint.specs.Footprints.{Covers, CoversSet, Flags, FlagsAll}
use Rattle.footprint.specs.declared.Footprint.{Footprint}
use Rattle.footprint.proofs.Brought.{rule_covers, each_flagged}
use Rattle.walk.specs.Light.{Next, settled, again, by_new_lem, next_of, onward, rounds_by_lem, lightly, walk_by}

module _ (K : Conjuncts → Type 0) where
  -- every set of a round's end has the property
  abbrev pub KeptNext : Next → Type 0
  KeptNext (settled R) = K R
  KeptNext (again S X) = K S × K X

  module _ (both : (R S : Conjuncts) → K R → K S → Gives K (limits (union_of R S))) (less : (R S : Conjuncts) → K R → K (minus R S)) where
    next_keeps : (light : Bool) (D S B : Conjuncts) → K D → K S → K B → Gives KeptNext (next_of light D S B)
    next_keeps true D S B d s b = go (minus B S) (less B S b)
      where
        go : (N : Conjuncts) → K N → Gives KeptNext (by_new_lem S N)
        go [] t = s
        go (e ∷ N) t = gives_bind K KeptNext (limits (union_of (e ∷ N) S)) (λ U. ok (again U (e ∷ N))) (both (e ∷ N) S t s) (λ U u. (u, t))
    next_keeps false D S B d s b =
        gives_bind K KeptNext (limits (union_of D B)) (λ U. ok (cond (same S U) (settled U) (again U U))) (both D B d b) (λ U u.
        case (same S U) (λ z. KeptNext (cond z (settled U) (again U U))) (λ p. u) (λ p. (u, u)))

    module _ (light : Bool) (body : Conjuncts → Out Conjuncts) (keeps : (S : Conjuncts) → K S → Gives K (body S)) (D : Conjuncts) (d : K D) where
      rounds_keep : (n : ℕ) (S X : Conjuncts) → K S → K X → Gives K (rounds_by_lem light n body D S X)
      unfolding rounds_by_lem
      rounds_keep zero S X s x = tt
      rounds_keep (suc n) S X s x =
          gives_bind K K (body X) (λ B. next_of light D S B >>= onward (rounds_by_lem light n body D)) (keeps X x) (λ B b.
          gives_bind KeptNext K (next_of light D S B) (onward (rounds_by_lem light n body D)) (next_keeps light D S B d s b) (next (rounds_keep n)))
        where
          next : ((S X : Conjuncts) → K S → K X → Gives K (rounds_by_lem light n body D S X)) → (N : Next) → KeptNext N
              → Gives K (onward (rounds_by_lem light n body D) N)
          next ih (settled R) t = t
          next ih (again S' X') t = ih S' X' t.0 t.1

    -- the statements have the property W, and the rule of each such statement keeps K
    module _ (W : Instr → Type 0) (rule : (l : ℕ) (i : Instr) → W i → (S : Conjuncts) → K S → Gives K (back l i S)) where
      lightly_keeps : (c : Code) → Each W c → (S : Conjuncts) → K S → Gives K (lightly c S)
      unfolding lightly
      lightly_keeps done w S k = k
      lightly_keeps (step l i rest) w S k = gives_bind K K (lightly rest S) (back l i) (lightly_keeps rest w.1 S k) (rule l i w.0)
      lightly_keeps (branch l v y n rest) w S k =
          gives_bind K K (lightly rest S) (joined (lightly y) (lightly n)) (lightly_keeps rest w.2 S k)
          (joined_keeps K (λ r. Unit {0}) both (lightly y) (lightly n) (lightly_keeps y w.0) (lightly_keeps n w.1))
      lightly_keeps (loop l v body rest) w S k =
          gives_bind K K (lightly rest S) (λ D. rounds_by_lem true most_rounds (lightly body) D D D) (lightly_keeps rest w.1 S k) (λ D d.
          rounds_keep true (lightly body) (lightly_keeps body w.0) D d most_rounds D D d d)

      by_keeps : (light : Bool) (c : Code) → Each W c → (S : Conjuncts) → K S → Gives K (walk_by light c S)
      by_keeps true c w S k = lightly_keeps c w S k
      by_keeps false c w S k = walk_keeps K (λ n. Unit {0}) both tt W rule c w S k

-- ---- tidy sets

pub minus-tidy : (R S : Conjuncts) → Tidy R → Tidy (minus R S)
minus-tidy R S t = remains_tidy (minus R S) R S (minus_remains R S t.canon) t

pub next-tidy : (light : Bool) (D S B : Conjuncts) → Tidy D → Tidy S → Tidy B → Gives (KeptNext Tidy) (next_of light D S B)
next-tidy = next_keeps Tidy union_tidy minus-tidy

pub rounds-tidy : (light : Bool) (body : Conjuncts → Out Conjuncts) → ((S : Conjuncts) → Tidy S → Gives Tidy (body S)) → (D : Conjuncts) → Tidy D
    → (n : ℕ) (S X : Conjuncts) → Tidy S → Tidy X → Gives Tidy (rounds_by_lem light n body D S X)
rounds-tidy = rounds_keep Tidy union_tidy minus-tidy

pub by_tidy : (light : Bool) (c : Code) (S : Conjuncts) → Tidy S → Gives Tidy (walk_by light c S)
by_tidy light c = by_keeps Tidy union_tidy minus-tidy (λ i. Unit {0}) (λ l i w S t. back-tidy l i S) light c (each_any c)

-- ---- sets that flags cover

pub by_covers : (light : Bool) (m : Footprint) (stmt : ℕ → Stmt) (mate : ℕ → ℕ) (c : Code) (p q : ℕ) → Laid stmt mate c p q → FlagsAll m stmt p q
    → (S : Conjuncts) → CoversSet m S → Gives (CoversSet m) (walk_by light c S)
by_covers light m stmt mate c p q h f =
    by_keeps (CoversSet m) (both-every (Covers m)) (minus-every (Covers m)) (λ i. Flags m (plain i)) (rule_covers m) light c (each_flagged m stmt mate c p q h f)
