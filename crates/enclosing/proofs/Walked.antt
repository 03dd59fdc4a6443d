-- The sets and the answers of walks one after the other.
use mathlib.Core.Path.{◌≡◌, ap, ◌∙◌}
use Rattle.model.specs.Code.{Code}
use Rattle.model.specs.Conjunct.{Conjuncts}
use Rattle.model.specs.Refusals.{ok, ◌>>=◌}
use Rattle.model.specs.Walk.{walk}
use Rattle.model.specs.TidySets.{Tidy}
use Rattle.model.proofs.Basics.Results.{gives_ok}
use Rattle.model.proofs.Walks.Tidied.{walk-tidy}
use Rattle.rules.specs.Answers.{Answer, answered}
use Rattle.std.specs.Prelude.{Ok}
use Rattle.enclosing.specs.Enclosing.{walk_both_lem}

module _ (c : Code) (S T : Conjuncts) (a : Answer) (h : walk c S ≡ answered a T) where
  pub walked : a ≡ Ok tt → walk c S ≡ ok T
  walked e = h ∙ ap (λ x. answered x T) e

  pub walked_tidy : Tidy S → a ≡ Ok tt → Tidy T
  walked_tidy t e = gives_ok Tidy (walk c S) T (walked e) (walk-tidy c S t)

  pub both_walked : (d : Code) (U : Conjuncts) (b : Answer) → a ≡ Ok tt → walk d T ≡ answered b U → walk_both_lem c d S ≡ answered b U
  both_walked d U b e k = ap (◌>>= walk d) (walked e) ∙ k
