-- The walk without limits: what a set comes to where every loop settles, whatever the sizes of the sets on the way.
-- The idea: it is the walk as a relation that asks nothing of its sets, so it is put together rule by rule and piece by piece,
-- and every result of the walk is one of it. It says that no loop is refused by 11, and nothing of 9 and 10.
-- Assumes nothing.
use mathlib.Core.Path.{◌≡◌, refl, subst, ◌∙◌}
use mathlib.Core.List.{[]}
use Prim.Native.Nat.{ℕ}
use Rattle.model.specs.Code.{Instr, Code, done, step, branch, loop}
use Rattle.model.specs.Conjunct.{Conjuncts, union_of, limits}
use Rattle.model.specs.Refusals.{ok}
use Rattle.model.specs.Run.{append}
use Rattle.model.specs.Sizes.{most_rounds}
use Rattle.model.specs.Walk.{back, walk}
use Rattle.model.proofs.Walks.Distributes.{goes_union, goes-empty}
use Rattle.model.proofs.Walks.Goes.{goes_mono, walk-goes}
use Rattle.model.proofs.Conjuncts.Limits.{limits_inv}
use Rattle.model.proofs.Walks.OneResult.{goes_weaken, goes_unique, goes-canon}
use Rattle.model.proofs.Walks.Paths.{Rounds, Goes}
use Rattle.model.specs.TidySets.{Canon, Sub, Fine}
use Rattle.model.proofs.Walks.Walks.{back-piece}

-- nothing is asked of the sets
abbrev pub Any : ℕ → Conjuncts → Type 0
Any l X = Unit {0}

-- from S after a piece of program the walk without limits comes to R before it
abbrev pub Comes : Code → Conjuncts → Conjuncts → Type 0
Comes c S R = Goes Any c S R

-- from S, with n rounds left, the rounds over D come to R without limits
abbrev pub Settles : Code → ℕ → Conjuncts → Conjuncts → Conjuncts → Type 0
Settles body n D S R = Rounds (λ X Y. Comes body X Y) (λ X. Unit {0}) n D S R

-- ---- its laws

pub comes_unique : (c : Code) (S R Q : Conjuncts) → Comes c S R → Comes c S Q → R ≡ Q
comes_unique c S R Q g h = goes_unique Any Any c S S R Q refl g h

pub comes_canon : (c : Code) (S R : Conjuncts) → Canon S → Comes c S R → Canon R
comes_canon c S R s g = goes-canon Any c S R s g

pub comes_mono : (c : Code) (S T R Q : Conjuncts) → Sub S T → Comes c S R → Comes c T Q → Sub R Q
comes_mono c S T R Q s g h = goes_mono Any Any c S T R Q s g h

pub comes_empty : (c : Code) → Comes c [] []
comes_empty c = goes-empty Any (λ l. tt) c

-- the walk of a union is the union of the walks
pub comes_union : (c : Code) (A B Ra RB : Conjuncts) → Canon A → Canon B → Comes c A Ra → Comes c B RB → Comes c (union_of A B) (union_of Ra RB)
comes_union c A B Ra RB a b g h = goes_union Any Any Any (λ l X Y x y. tt) c A B Ra RB a b g h

-- ---- where it comes from

-- a result of the walk is one without limits
pub walk_comes : (c : Code) (S R : Conjuncts) → walk c S ≡ ok R → Comes c S R
walk_comes c S R h = goes_weaken (λ l X. Fine X) Any (λ l X f. tt) c S R (walk-goes c S R h)

-- one piece before another
pub comes_append : (c d : Code) (S D R : Conjuncts) → Comes d S D → Comes c D R → Comes (append c d) S R
comes_append done d S D R g h = subst (Comes d S) h g
comes_append (step l i rest) d S D R g h = (h.0, comes_append rest d S D h.0 g h.1, h.2, h.3)
comes_append (branch l v y n rest) d S D R g h = (h.0, h.1, h.2, comes_append rest d S D h.0 g h.3, h.4, h.5, h.6, h.7)
comes_append (loop l v body rest) d S D R g h = (h.0, comes_append rest d S D h.0 g h.1, h.2)

-- each rule, as a piece
pub comes_step : (l : ℕ) (i : Instr) (D R : Conjuncts) → back l i D ≡ ok R → Comes (step l i done) D R
comes_step l i D R h = walk_comes (step l i done) D R (back-piece l i D ∙ h)

pub comes_branch : (l v : ℕ) (y n : Code) (D A B R : Conjuncts) → Comes y D A → Comes n D B → limits (union_of A B) ≡ ok R → Comes (branch l v y n done) D R
comes_branch l v y n D A B R g h e = (D, A, B, refl, g, h, (limits_inv (union_of A B) R e).0, tt)

pub comes_loop : (l v : ℕ) (body : Code) (D R : Conjuncts) → Settles body most_rounds D D R → Comes (loop l v body done) D R
comes_loop l v body D R g = (D, refl, g)
