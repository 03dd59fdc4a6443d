-- How deep the blocks of a piece of program are nested.
use Rattle.std.specs.Prelude.{ℕ, zero, suc}
use Rattle.model.specs.Code.{Code, done, step, branch, loop}

-- no block lies in more than so many others
abbrev pub Nested : ℕ → Code → Type 0
Nested d done = Unit {0}
Nested d (step l x rest) = Nested d rest
Nested zero (branch l v y n rest) = ⊥
Nested (suc d) (branch l v y n rest) = Nested d y × Nested d n × Nested (suc d) rest
Nested zero (loop l v body rest) = ⊥
Nested (suc d) (loop l v body rest) = Nested d body × Nested (suc d) rest
