-- A while in two ways. By the definition a round walks the whole set of the round before. In a light walk it walks only what that
-- round brought: the same sets in the same rounds, but the limits are tested on parts only, so that its refusals count for nothing.
use Rattle.std.specs.Prelude.{Bool, true, false, cond, [], ◌∷◌, ℕ, zero, suc}
use Rattle.model.specs.Code.{Code, done, step, branch, loop}
use Rattle.model.specs.Conjunct.{Conjuncts, union_of, same, limits}
use Rattle.model.specs.Refusals.{Out, ok, refused, ◌>>=◌, never_settles}
use Rattle.model.specs.Sizes.{most_rounds}
use Rattle.model.specs.Walk.{back, joined, walk}
use Rattle.sets.specs.Minus.{minus}

-- how a round ends: settled at a set; or a next one is due from a set, of which so much is to be walked
pub data Next : Type 0 where
  settled : Conjuncts → Next
  again : Conjuncts → Conjuncts → Next

-- the end of a round by the definition: over D, from S, with the body's walk B of it
abbrev pub by_all : (D S B : Conjuncts) → Out Next
by_all D S B = limits (union_of D B) >>= λ U. ok (cond (same S U) (settled U) (again U U))

-- the end of a round in a light walk: N is new beside S
abbrev pub by_new_lem : (S N : Conjuncts) → Out Next
by_new_lem S [] = ok (settled S)
by_new_lem S (e ∷ N) = limits (union_of (e ∷ N) S) >>= λ U. ok (again U (e ∷ N))

-- the end of a round, light or not
abbrev pub next_of : (light : Bool) (D S B : Conjuncts) → Out Next
next_of true D S B = by_new_lem S (minus B S)
next_of false D S B = by_all D S B

-- the settled set, or what the next rounds give
abbrev pub onward : (Conjuncts → Conjuncts → Out Conjuncts) → Next → Out Conjuncts
onward go (settled R) = ok R
onward go (again S X) = go S X

-- n rounds at the most over D, from S, of which X is to be walked
unfoldable pub rounds_by_lem : (light : Bool) → ℕ → (Conjuncts → Out Conjuncts) → (D S X : Conjuncts) → Out Conjuncts
rounds_by_lem light zero body D S X = refused never_settles
rounds_by_lem light (suc n) body D S X = body X >>= λ B. next_of light D S B >>= onward (rounds_by_lem light n body D)

-- the light walk
unfoldable pub lightly : Code → Conjuncts → Out Conjuncts
lightly done C = ok C
lightly (step l i rest) C = lightly rest C >>= back l i
lightly (branch l v yes' no' rest) C = lightly rest C >>= joined (λ D. lightly yes' D) (λ D. lightly no' D)
lightly (loop l v body rest) C = lightly rest C >>= λ D. rounds_by_lem true most_rounds (λ S. lightly body S) D D D

-- the walk, light or not
abbrev pub walk_by : (light : Bool) → Code → Conjuncts → Out Conjuncts
walk_by true c C = lightly c C
walk_by false c C = walk c C

-- the rounds of a while from the set that it begins with
abbrev pub loop_by : (light : Bool) → Code → Conjuncts → Out Conjuncts
loop_by light body D = rounds_by_lem light most_rounds (walk_by light body) D D D
