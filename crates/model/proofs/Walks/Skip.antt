-- A piece of program that changes nothing a tidy set speaks of leaves it as it is.
use mathlib.Core.Path.{◌≡◌, refl, ◌∙◌, ap, ap₂}
use mathlib.Core.Bool.{Bool, true, false, ◌||◌, cond}
use mathlib.Core.List.{List, [], ◌∷◌, ◌++◌, map, flat_map}
use Prim.Native.Nat.{ℕ, suc}
use lib.Dec.{eqb}
use Rattle.model.specs.Code.{Instr, assign, store, site, Code, done, step, branch, loop}
use Rattle.model.specs.Conjunct.{Atom, Node, const, atom, var, op, conv, Conj, Conjuncts, union_of, same, limits, atoms, renumber, AtAtom}
use Rattle.model.specs.Lists.{All}
use Rattle.model.specs.Refusals.{Out, ok, ◌>>=◌}
use Rattle.model.specs.Sizes.{most_rounds}
use Rattle.model.specs.Walk.{nodes, replace, on_array, loads, swap_all, subsets, before, gather, back, rounds, joined, walk}
use Rattle.model.specs.TidySets.{Canon, Numbered, Tidy}
use Rattle.model.specs.Touch.{is_var, is_load_lem, some, writes, touches}
use Rattle.model.proofs.Conjuncts.Atoms.{atoms-all}
use Rattle.model.proofs.Conjuncts.Canonical.{union_idem, insert_least}
use Rattle.model.proofs.Conjuncts.Limits.{fine-limits}
use Rattle.model.proofs.Basics.Lists.{all_imp}
use Rattle.model.proofs.Conjuncts.Order.{same_self}
use Rattle.model.proofs.Conjuncts.Renumber.{moved, moved_all, renumber-raised}
use Rattle.model.proofs.Basics.Tests.{case, or_left, or_right}

-- ---- one statement that changes nothing of a conjunct

none-all : {A : Type 0} (f : A → Bool) (xs : List A) → some f xs ≡ false → All (λ x. f x ≡ false) xs
unfolding some
none-all f [] h = tt
none-all f (x ∷ xs) h = (or_left (f x) (some f xs) h, none-all f xs (or_right (f x) (some f xs) h))

replace-none : (a : ℕ) (r : List Node) (e : Conj) → All (λ v. is_var a v ≡ false) e → flat_map (replace a r) e ≡ moved_all (λ b. suc b.n) e
unfolding replace flat_map
replace-none a r [] h = refl
replace-none a r (const ty i ∷ e) h = ap (const ty i ∷◌) (replace-none a r e h.1)
replace-none a r (atom b ∷ e) h = ap (atom (moved (λ c. suc c.n) b) ∷◌) (replace-none a r e h.1)
replace-none a r (var x ty ∷ e) h = ap (λ z. cond z r (var x ty ∷ []) ++ flat_map (replace a r) e) h.0 ∙ ap (var x ty ∷◌) (replace-none a r e h.1)
replace-none a r (op o ty ∷ e) h = ap (op o ty ∷◌) (replace-none a r e h.1)
replace-none a r (conv ty ∷ e) h = ap (conv ty ∷◌) (replace-none a r e h.1)

swap_all-none : (t k x ty : ℕ) (e : Conj) → All (λ v. is_load_lem t k v ≡ false) e → swap_all t k x ty e ≡ e
unfolding swap_all
swap_all-none t k x ty [] h = refl
swap_all-none t k x ty (const u i ∷ e) h = ap (const u i ∷◌) (swap_all-none t k x ty e h.1)
swap_all-none t k x ty (atom b ∷ e) h = ap₂ (λ z d. cond z (var x ty) (atom b) ∷ d) h.0 (swap_all-none t k x ty e h.1)
swap_all-none t k x ty (var y u ∷ e) h = ap (var y u ∷◌) (swap_all-none t k x ty e h.1)
swap_all-none t k x ty (op o u ∷ e) h = ap (op o u ∷◌) (swap_all-none t k x ty e h.1)
swap_all-none t k x ty (conv u ∷ e) h = ap (conv u ∷◌) (swap_all-none t k x ty e h.1)

loads-none : (t k : ℕ) (ks : List Atom) → All (λ a. on_array t k a.src ≡ false) ks → loads t k ks ≡ []
unfolding loads
loads-none t k [] h = refl
loads-none t k (a ∷ ks) h = rw h.0 (loads-none t k ks h.1)

load-atom : (t k : ℕ) (v : Node) → is_load_lem t k v ≡ false → AtAtom (λ a. on_array t k a.src ≡ false) v
load-atom t k (const ty i) h = tt
load-atom t k (atom b) h = h
load-atom t k (var x ty) h = tt
load-atom t k (op o ty) h = tt
load-atom t k (conv ty) h = tt

pub before-none : (l : ℕ) (i : Instr) (e : Conj) → writes i e ≡ false → Numbered e → map renumber (before l i e) ≡ e ∷ []
unfolding before writes subsets
before-none l (assign a ty r) e w h =
    ap (◌∷ []) (ap renumber (replace-none a (nodes l ty r) e (none-all (is_var a) e w)) ∙ renumber-raised e ∙ h)
before-none l (store t k i x ty) e w h =
    let n = none-all (is_load_lem t k) e w in
    case (eqb k 1) (λ z. map renumber (cond z (swap_all t k x ty e ∷ []) (subsets (loads t k (atoms e)) x ty e)) ≡ e ∷ [])
    (λ p. ap (◌∷ []) (ap renumber (swap_all-none t k x ty e n) ∙ h))
    (λ p. ap (λ ks. map renumber (subsets ks x ty e)) (loads-none t k (atoms e) (atoms-all (λ a. on_array t k a.src ≡ false) e (all_imp (load-atom t k) e n))) ∙ ap (◌∷ []) h)
before-none l (site a ty) e w h = ap (◌∷ []) h

gather_none : (l : ℕ) (i : Instr) (S : Conjuncts) → All (λ e. writes i e ≡ false) S → All Numbered S → Canon S → gather (before l i) S ≡ S
unfolding gather union_of
gather_none l i [] w h c = refl
gather_none l i (e ∷ S) w h c = ap₂ union_of (before-none l i e w.0 h.0) (gather_none l i S w.1 h.1 c.1) ∙ insert_least e S c

-- ---- a piece of program

pub walk_skip : (c : Code) (S : Conjuncts) → touches c S ≡ false → Tidy S → walk c S ≡ ok S
unfolding touches walk back rounds
walk_skip done S w t = refl
walk_skip (step l i rest) S w t =
    let none = none-all (writes i) S (or_left (some (writes i) S) (touches rest S) w) in
    ap (◌>>= back l i) (walk_skip rest S (or_right (some (writes i) S) (touches rest S) w) t)
    ∙ ap limits (gather_none l i S none t.numbered t.canon) ∙ fine-limits S t.fine
walk_skip (branch l v y n rest) S w t =
    let w' = or_right (touches y S) (touches n S || touches rest S) w in
    ap (◌>>= joined (walk y) (walk n)) (walk_skip rest S (or_right (touches n S) (touches rest S) w') t)
    ∙ ap (◌>>= λ A. walk n S >>= λ B. limits (union_of A B)) (walk_skip y S (or_left (touches y S) (touches n S || touches rest S) w) t)
    ∙ ap (◌>>= λ B. limits (union_of S B)) (walk_skip n S (or_left (touches n S) (touches rest S) w') t)
    ∙ ap limits (union_idem S t.canon) ∙ fine-limits S t.fine
walk_skip (loop l v body rest) S w t =
    let next : Conjuncts → Out Conjuncts = λ S'. elim (same S S') [ true ↦ ok S' | false ↦ rounds 15 (walk body) S S' ] in
    let last : Bool → Out Conjuncts = λ z. elim z [ true ↦ ok S | false ↦ rounds 15 (walk body) S S ] in
    ap (◌>>= λ D. rounds most_rounds (walk body) D D) (walk_skip rest S (or_right (touches body S) (touches rest S) w) t)
    ∙ ap (◌>>= λ B. limits (union_of S B) >>= next) (walk_skip body S (or_left (touches body S) (touches rest S) w) t)
    ∙ ap (◌>>= next) (ap limits (union_idem S t.canon) ∙ fine-limits S t.fine)
    ∙ ap last (same_self S)
