-- The walk as a relation that knows no limits: from S after a piece of program it comes to R before it,
-- and the set after each rule has the property K at the rule's label. With K "within the limits" it is `walk`.
use mathlib.Core.Path.{◌≡◌}
use mathlib.Core.Logic.{◌⊎◌}
use Prim.Native.Nat.{ℕ, zero, suc}
use Rattle.model.specs.Code.{Code, done, step, branch, loop}
use Rattle.model.specs.Conjunct.{Conjuncts, union_of}
use Rattle.model.specs.Sizes.{most_rounds}
use Rattle.model.specs.Walk.{before, gather}

-- from S, with n rounds left, the rounds over D come to R: a round stays, or goes on with its set
abbrev pub Rounds : (Conjuncts → Conjuncts → Type 0) → (Conjuncts → Type 0) → ℕ → Conjuncts → Conjuncts → Conjuncts → Type 0
Rounds body K zero D S R = ⊥
Rounds body K (suc n) D S R =
    (B : Conjuncts) × body S B × K (union_of D B) × (((S ≡ union_of D B) × (R ≡ union_of D B)) ⊎ Rounds body K n D (union_of D B) R)

-- a round from S that comes to U: it stays there, or the rounds go on from U
abbrev pub After : (Conjuncts → Conjuncts → Type 0) → (Conjuncts → Type 0) → ℕ → Conjuncts → Conjuncts → Conjuncts → Conjuncts → Type 0
After body K n D S U R = ((S ≡ U) × (R ≡ U)) ⊎ Rounds body K n D U R

-- the walk, rule by rule
abbrev pub Goes : (ℕ → Conjuncts → Type 0) → Code → Conjuncts → Conjuncts → Type 0
Goes K done S R = S ≡ R
Goes K (step l i rest) S R = (D : Conjuncts) × Goes K rest S D × (gather (before l i) D ≡ R) × K l R
Goes K (branch l v yes' no' rest) S R = (D A B : Conjuncts) × Goes K rest S D × Goes K yes' D A × Goes K no' D B × (union_of A B ≡ R) × K l R
Goes K (loop l v body rest) S R = (D : Conjuncts) × Goes K rest S D × Rounds (λ X Y. Goes K body X Y) (K l) most_rounds D D R
