-- A test of each element, in the model's word and in std's.
use Rattle.std.proofs.Common.{◌≡◌, refl, ap, Bool, ◌&&◌, List, [], ◌∷◌}
use Rattle.std.specs.List.{list_all}
use Rattle.model.specs.Lists.{every}

pub every-is : {A : Type 0} (f : A → Bool) (xs : List A) → every f xs ≡ list_all f xs
unfolding every
every-is f [] = refl
every-is f (x ∷ xs) = ap (f x &&◌) (every-is f xs)
