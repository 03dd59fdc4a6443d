-- Laws of the walk that a program over positions uses: one piece before another, and each rule as the walk of a piece.
use mathlib.Core.Path.{◌≡◌, refl, sym, ap, ◌∙◌}
use Prim.Native.Nat.{ℕ}
use Rattle.model.specs.Code.{Instr, Code, done, step, branch, loop}
use Rattle.model.specs.Conjunct.{Conjuncts}
use Rattle.model.specs.Refusals.{◌>>=◌}
use Rattle.model.specs.Run.{append}
use Rattle.model.specs.Sizes.{most_rounds}
use Rattle.model.specs.Walk.{back, joined, rounds, walk}
use Rattle.model.proofs.Basics.Results.{bind_self, bind_assoc}

-- the walk of one piece before another
pub walk-append : (c d : Code) (C : Conjuncts) → walk (append c d) C ≡ (walk d C >>= walk c)
unfolding walk
walk-append done d C = sym (bind_self (walk d C))
walk-append (step l i rest) d C = ap (◌>>= back l i) (walk-append rest d C) ∙ bind_assoc (walk d C) (walk rest) (back l i)
walk-append (branch l v y n rest) d C = ap (◌>>= joined (walk y) (walk n)) (walk-append rest d C) ∙ bind_assoc (walk d C) (walk rest) (joined (walk y) (walk n))
walk-append (loop l v body rest) d C =
    ap (◌>>= λ D. rounds most_rounds (walk body) D D) (walk-append rest d C) ∙ bind_assoc (walk d C) (walk rest) (λ D. rounds most_rounds (walk body) D D)

-- each rule on the way from a site is the walk of a piece, so that all laws of the walk hold of it

pub back-piece : (l : ℕ) (i : Instr) (D : Conjuncts) → walk (step l i done) D ≡ back l i D
unfolding walk
back-piece l i D = refl

pub joined-piece : (l v : ℕ) (y n : Code) (D : Conjuncts) → walk (branch l v y n done) D ≡ joined (walk y) (walk n) D
unfolding walk
joined-piece l v y n D = refl

pub rounds-piece : (l v : ℕ) (body : Code) (D : Conjuncts) → walk (loop l v body done) D ≡ rounds most_rounds (walk body) D D
unfolding walk
rounds-piece l v body D = refl
