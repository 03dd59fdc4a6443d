-- Does a piece of program change a variable or an array that a set of conjuncts speaks of?
use Rattle.std.specs.Prelude.{Bool, false, ◌||◌, List, [], ◌∷◌, ℕ, eqb}
use Rattle.model.specs.Code.{Instr, assign, store, site, Code, done, step, branch, loop}
use Rattle.model.specs.Conjunct.{Node, const, atom, var, op, conv, Conj, Conjuncts}
use Rattle.model.specs.Walk.{on_array}

-- is it the variable a?
abbrev pub is_var : ℕ → Node → Bool
is_var a (const ty i) = false
is_var a (atom b) = false
is_var a (var x ty) = eqb x a
is_var a (op o ty) = false
is_var a (conv ty) = false

-- is it a load from this array?
abbrev pub is_load_lem : ℕ → ℕ → Node → Bool
is_load_lem t k (const ty i) = false
is_load_lem t k (atom b) = on_array t k b.src
is_load_lem t k (var x ty) = false
is_load_lem t k (op o ty) = false
is_load_lem t k (conv ty) = false

-- does one of the list pass the test?
unfoldable pub some : {A : Type 0} → (A → Bool) → List A → Bool
some f [] = false
some f (x ∷ xs) = f x || some f xs

-- does the statement change what the conjunct speaks of?
unfoldable pub writes : Instr → Conj → Bool
writes (assign a ty r) e = some (is_var a) e
writes (store t k i x ty) e = some (is_load_lem t k) e
writes (site a ty) e = false

-- does the piece of program, for one of the conjuncts?
unfoldable pub touches : Code → Conjuncts → Bool
touches done S = false
touches (step l i rest) S = some (writes i) S || touches rest S
touches (branch l v yes' no' rest) S = touches yes' S || (touches no' S || touches rest S)
touches (loop l v body rest) S = touches body S || touches rest S
