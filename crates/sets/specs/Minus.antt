-- The difference of two sets.
use Rattle.std.specs.Prelude.{Bool, false, ◌||◌, cond, [], ◌∷◌}
use Rattle.std.proofs.Math.Dec.{compare_is_eq}
use Rattle.model.specs.Conjunct.{Conj, Conjuncts, order}

-- is e a conjunct of the set?
unfoldable pub has : Conj → Conjuncts → Bool
has e [] = false
has e (d ∷ T) = compare_is_eq (order e d) || has e T

-- the conjuncts of I that T has not, in their order
unfoldable pub minus : Conjuncts → Conjuncts → Conjuncts
minus [] T = []
minus (e ∷ I) T = cond (has e T) (minus I T) (e ∷ minus I T)
