-- The backward walk that turns each critical site into a condition at the start: document 01, "The condition"
-- (document 002, figure 6). Figure 6 as printed names the body for a site inside a loop; the whole while is meant.
use Rattle.std.specs.Prelude.{Bool, true, false, ◌&&◌, cond, ℕ, zero, suc, eqb}
use mathlib.Core.List.{List, [], ◌∷◌, ◌++◌, map, flat_map}
use Rattle.model.specs.Sizes.{most_rounds}
use Rattle.model.specs.Refusals.{Out, ok, refused, ◌>>=◌, never_settles}
use Rattle.model.specs.Code.{Right, number, copy, calc, change, read, load, Instr, assign, store, site, Code, done, step, branch, loop}
use Rattle.model.specs.Conjunct.{Source, field, cell, Atom, Node, const, atom, var, op, conv, Conj, Conjuncts, with_conjunct, union_of, same, limits, same_atom, atoms, on_atom_lem, renumber}

-- ---- one statement

-- the right side as nodes; a read or a load is an atom with the number 0
unfoldable pub nodes : ℕ → ℕ → Right → List Node
nodes l ty (number i) = const ty i ∷ []
nodes l ty (copy b) = var b ty ∷ []
nodes l ty (calc o b c) = var b ty ∷ var c ty ∷ op o ty ∷ []
nodes l ty (change b u) = var b u ∷ conv ty ∷ []
nodes l ty (read f) = atom (record { src = field f ty; n = 0 }) ∷ []
nodes l ty (load t k i) = atom (record { src = cell l t k ty; n = 0 }) ∷ []

-- the variable a by r; every atom's number goes up by one, so that 0 is fresh
unfoldable pub replace : ℕ → List Node → Node → List Node
replace a r (const ty i) = const ty i ∷ []
replace a r (atom b) = atom (record { src = b.src; n = suc b.n }) ∷ []
replace a r (var x ty) = cond (eqb x a) r (var x ty ∷ [])
replace a r (op o ty) = op o ty ∷ []
replace a r (conv ty) = conv ty ∷ []

-- is it a load from this array?
unfoldable pub on_array : ℕ → ℕ → Source → Bool
on_array t k (field f ty) = false
on_array t k (cell l s j ty) = eqb s t && eqb j k

-- the loads from this array among the atoms
unfoldable pub loads : ℕ → ℕ → List Atom → List Atom
loads t k [] = []
loads t k (a ∷ ks) = cond (on_array t k a.src) (a ∷ loads t k ks) (loads t k ks)

-- the atom a by the variable x
unfoldable pub swap : Atom → ℕ → ℕ → Conj → Conj
swap a x ty e = map (on_atom_lem (λ b. cond (same_atom b a) (var x ty) (atom b))) e

-- every load from this array by the variable x
unfoldable pub swap_all : ℕ → ℕ → ℕ → ℕ → Conj → Conj
swap_all t k x ty e = map (on_atom_lem (λ b. cond (on_array t k b.src) (var x ty) (atom b))) e

-- a conjunct for each subset: each atom in turn is left, or replaced by the variable x
unfoldable pub subsets : List Atom → ℕ → ℕ → Conj → List Conj
subsets [] x ty e = e ∷ []
subsets (a ∷ ks) x ty e = subsets ks x ty e ++ subsets ks x ty (swap a x ty e)

-- the conjuncts before a statement, from one after it
unfoldable pub before : ℕ → Instr → Conj → List Conj
before l (assign a ty r) e = flat_map (replace a (nodes l ty r)) e ∷ []
before l (store t k i x ty) e = cond (eqb k 1) (swap_all t k x ty e ∷ []) (subsets (loads t k (atoms e)) x ty e)
before l (site a ty) e = e ∷ []

-- f at each conjunct, renumbered, as one set
unfoldable pub gather : (Conj → List Conj) → Conjuncts → Conjuncts
gather f [] = []
gather f (e ∷ S) = union_of (map renumber (f e)) (gather f S)

-- the rule of one statement
unfoldable pub back : ℕ → Instr → Conjuncts → Out Conjuncts
back l i S = limits (gather (before l i) S)

-- ---- blocks

-- S(k+1) is D joined with the body's walk of S(k); the first that equals the one before, or refusal 11 after n rounds
unfoldable pub rounds : ℕ → (Conjuncts → Out Conjuncts) → Conjuncts → Conjuncts → Out Conjuncts
rounds zero body D S = refused never_settles
rounds (suc n) body D S =
    body S >>= λ B. limits (union_of D B) >>= λ S'. elim (same S S') [ true ↦ ok S' | false ↦ rounds n body D S' ]

-- the union of two branches
abbrev pub joined : (Conjuncts → Out Conjuncts) → (Conjuncts → Out Conjuncts) → Conjuncts → Out Conjuncts
joined f g D = f D >>= λ A. g D >>= λ B. limits (union_of A B)

-- the set before a piece of program, from the set after it
unfoldable pub walk : Code → Conjuncts → Out Conjuncts
walk done C = ok C
walk (step l i rest) C = walk rest C >>= back l i
walk (branch l v yes' no' rest) C = walk rest C >>= joined (λ D. walk yes' D) (λ D. walk no' D)
walk (loop l v body rest) C = walk rest C >>= λ D. rounds most_rounds (λ S. walk body S) D D

-- ---- sites

-- a site starts with its variable
unfoldable pub here : Instr → List (Out Conjuncts)
here (assign a ty r) = []
here (store t k i x ty) = []
here (site a ty) = ok ((var a ty ∷ []) ∷ []) ∷ []

-- for each site by rising label, the set at the start of the piece of program
unfoldable pub sites : Code → List (Out Conjuncts)
sites done = []
sites (step l i rest) = here i ++ map (◌>>= back l i) (sites rest)
sites (branch l v yes' no' rest) = sites yes' ++ (sites no' ++ map (◌>>= joined (walk yes') (walk no')) (sites rest))
sites (loop l v body rest) = map (◌>>= λ D. rounds most_rounds (walk body) D D) (sites body ++ sites rest)

-- at the program's start variables and loads are 0
unfoldable pub zeroed : Node → Node
zeroed (const ty i) = const ty i
zeroed (atom a) = elim a.src [ field f ty ↦ atom a | cell l t k ty ↦ const ty 0 ]
zeroed (var x ty) = const ty 0
zeroed (op o ty) = op o ty
zeroed (conv ty) = conv ty

-- the rule at the program's start
unfoldable pub start : Conjuncts → Out Conjuncts
start S = limits (gather (λ e. map zeroed e ∷ []) S)

-- site by site, the union so far
unfoldable pub join : Conjuncts → List (Out Conjuncts) → Out Conjuncts
join R [] = ok R
join R (o ∷ os) = o >>= start >>= λ S. limits (union_of R S) >>= λ R'. join R' os

-- the set that the analysis derives from a program
unfoldable pub derived : Code → Out Conjuncts
derived c = join [] (sites c)
