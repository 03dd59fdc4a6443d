-- A list with others stored over a part of it.
use Rattle.std.specs.Prelude.{List, [], ◌∷◌, ℕ, suc, set}

-- l with vs stored from place i on
unfoldable pub overlay : List ℕ → ℕ → List ℕ → List ℕ
overlay l i [] = l
overlay l i (v ∷ vs) = overlay (set l i v) (suc i) vs
