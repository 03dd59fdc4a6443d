-- One statement: what the state before meets of the conjuncts before it, the state after meets of the conjunct after it.
use mathlib.Core.Path.{◌≡◌, refl, sym, ◌∙◌, ap, subst}
use mathlib.Core.Logic.{◌⊎◌, inl, inr}
use mathlib.Core.Bool.{Bool, true, false, ◌&&◌, ◌||◌, cond}
use mathlib.Core.List.{List, [], ◌∷◌, flat_map}
use Prim.Native.Nat.{ℕ, zero, suc, ◌%◌, ◌<◌, zero-le, suc-le-suc}
use native.Mathlib.Omega.{arith}
use lib.Dec.{eqb}
use lib.IntN.{ℤ, nat_abs}
use lib.ListN.{length}
use borrow.Author.Tests.{eqb-true}
use Rattle.model.specs.Code.{Right, number, copy, calc, change, read, load, Instr, assign, store, site}
use Rattle.model.specs.Conjunct.{Source, field, cell, Atom, Node, const, atom, var, op, conv, Conj, same_atom, atoms, has, AtAtom}
use Rattle.model.specs.Input.{Input}
use Rattle.model.specs.Lists.{All}
use Rattle.model.specs.Run.{State, set_var, set_cell, reading, taking_choice, index, exec}
use Rattle.model.specs.Values.{Val}
use Rattle.model.specs.Walk.{nodes, replace, on_array, loads, swap, swap_all, subsets, before}
use Rattle.model.proofs.Conjuncts.Atoms.{every_imp, every_map, has-atoms, atom_eq}
use Rattle.model.proofs.Conjuncts.Eval.{eval_flat_map, holds-map, holds_same, live_flat_map}
use Rattle.model.proofs.Basics.Lists.{all_imp, all_left, all_right}
use Rattle.model.proofs.Conjuncts.Meaning.{Env, pick, push, eval, top_mark, LiveAtom, Live, Holds, Meets}
use Rattle.model.proofs.Runs.Runs.{Leads}
use Rattle.model.proofs.Basics.Tests.{case, true→T, eqb_self, and_right}

-- ---- assignments

-- the choices with c for each fresh atom
fresh : ℕ → Env → Env
fresh c env s m = elim m [ zero ↦ c | suc k ↦ env s k ]

module _ (I : Input) (σ : State) (a : ℕ) (w : Val) where
  pick_var : (s : Source) (c : ℕ) → pick I σ s c ≡ pick I (set_var σ a w) s c
  unfolding pick
  pick_var (field f ty) c = refl
  pick_var (cell l t k ty) c = refl

  module _ (r : List Node) (c : ℕ) (value : (env : Env) (st : List Val) → eval I σ (fresh c env) r st ≡ w ∷ st) where
    replace_push : (env : Env) (v : Node) (st : List Val) → eval I σ (fresh c env) (replace a r v) st ≡ push I (set_var σ a w) env v st
    unfolding eval push replace fresh
    replace_push env (const ty i) st = refl
    replace_push env (atom b) st = ap (◌∷ st) (pick_var b.src (env b.src b.n))
    replace_push env (var x ty) st =
        case (eqb x a) (λ z. eval I σ (fresh c env) (cond z r (var x ty ∷ [])) st ≡ cond z w (σ.vars x) ∷ st) (λ p. value env st) (λ p. refl)
    replace_push env (op o ty) st = refl
    replace_push env (conv ty) st = refl

    replace_live : Live I r → (v : Node) → AtAtom (λ a. LiveAtom I a.src) v → Live I (replace a r v)
    unfolding replace
    replace_live live (const ty i) h = (tt, tt)
    replace_live live (atom b) h = (h, tt)
    replace_live live (var x ty) h = case (eqb x a) (λ z. Live I (cond z r (var x ty ∷ []))) (λ p. live) (λ p. (tt, tt))
    replace_live live (op o ty) h = (tt, tt)
    replace_live live (conv ty) h = (tt, tt)

    assigned : Live I r → (e : Conj) → Meets I σ (flat_map (replace a r) e) → Meets I (set_var σ a w) e
    unfolding Meets
    assigned live e h env live' =
        ap top_mark (sym (eval_flat_map I σ (set_var σ a w) (fresh c env) env (replace a r) e (replace_push env) []))
        ∙ h (fresh c env) (live_flat_map I (replace a r) (replace_live live) e live')

-- a read: the choice is the reading's number
taken_meets : (I : Input) (σ : State) (l a ty f : ℕ) (rs : List ℤ) → I f ≡ rs → (ch : List ℕ) (e : Conj)
    → Meets I σ (flat_map (replace a (nodes l ty (read f))) e) → Leads (λ σ'. Meets I σ' e) (taking_choice rs σ a ch)
unfolding nodes eval push pick fresh
taken_meets I σ l a ty f [] q ch e h = tt
taken_meets I σ l a ty f (r ∷ rs) q [] e h = tt
taken_meets I σ l a ty f (r ∷ rs) q (c ∷ ch) e h =
    assigned I σ a (reading (r ∷ rs) c) (nodes l ty (read f)) c (λ env st. ap (λ x. reading x c ∷ st) q) (subst (λ x. 0 < length x) (sym q) (suc-le-suc zero-le), tt) e h

assign_meets : (I : Input) (σ : State) (l a ty : ℕ) (r : Right) (ch : List ℕ) (e : Conj)
    → Meets I σ (flat_map (replace a (nodes l ty r)) e) → Leads (λ σ'. Meets I σ' e) (exec I σ (assign a ty r) ch)
unfolding nodes eval push pick fresh exec
assign_meets I σ l a ty (number i) ch e h = assigned I σ a _ (nodes l ty (number i)) 0 (λ env st. refl) (tt, tt) e h
assign_meets I σ l a ty (copy b) ch e h = assigned I σ a _ (nodes l ty (copy b)) 0 (λ env st. refl) (tt, tt) e h
assign_meets I σ l a ty (calc o b c) ch e h = assigned I σ a _ (nodes l ty (calc o b c)) 0 (λ env st. refl) (tt, (tt, (tt, tt))) e h
assign_meets I σ l a ty (change b u) ch e h = assigned I σ a _ (nodes l ty (change b u)) 0 (λ env st. refl) (tt, (tt, tt)) e h
assign_meets I σ l a ty (read f) ch e h = taken_meets I σ l a ty f (I f) refl ch e h
assign_meets I σ l a ty (load t k i) ch e h = assigned I σ a _ (nodes l ty (load t k i)) (nat_abs (σ.vars i).num) (λ env st. refl) (tt, tt) e h

-- ---- stores

-- is the cell that a source picks the one at i of this array?
hits : ℕ → ℕ → ℕ → Source → ℕ → Bool
hits t k i (field f ty) c = false
hits t k i (cell l s j ty) c = eqb s t && eqb j k && eqb (c % j) i

off_array : (t k i : ℕ) (s : Source) (c : ℕ) → on_array t k s ≡ false → hits t k i s c ≡ false
unfolding hits on_array
off_array t k i (field f ty) c p = refl
off_array t k i (cell l s j ty) c p = rw p

-- where the length leaves one index, a load from the array picks it
only-cell : (t k i : ℕ) → ((c : ℕ) → c % k ≡ i) → (s : Source) (c : ℕ) → on_array t k s ≡ true → hits t k i s c ≡ true
unfolding hits on_array
only-cell t k i one (field f ty) c p = p
only-cell t k i one (cell l s j ty) c p =
    rw (p, eqb-true j k (and_right (eqb s t) (eqb j k) p), one c) (eqb_self i)

has-loads : (t k : ℕ) (a : Atom) (ks : List Atom) → on_array t k a.src ≡ true → has a ks ≡ true → has a (loads t k ks) ≡ true
unfolding loads
has-loads t k a [] p h = h
has-loads t k a (b ∷ ks) p h =
    let ih = has-loads t k a ks p in
    let L = loads t k ks in
    case (same_atom a b) (λ z. (z || has a ks) ≡ true → has a (cond (on_array t k b.src) (b ∷ L) L) ≡ true)
    (λ q m. rw (sym (ap (λ c. on_array t k c.src) (atom_eq a b q)) ∙ p, q))
    (λ q m. case (on_array t k b.src) (λ z. has a (cond z (b ∷ L) L) ≡ true) (λ r. rw q (ih m)) (λ r. ih m)) h

module _ (I : Input) (σ : State) (t k i x ty : ℕ) where
  abbrev stored : State
  stored = set_cell σ t k i (σ.vars x)

  pick_cell : (s : Source) (c : ℕ) → pick I stored s c ≡ cond (hits t k i s c) (σ.vars x) (pick I σ s c)
  unfolding pick hits
  pick_cell (field f u) c = refl
  pick_cell (cell l s j u) c = refl

  -- the value of an atom after the store, by whether it hits
  hit_value : (s : Source) (c : ℕ) (b : Bool) → hits t k i s c ≡ b → cond b (σ.vars x) (pick I σ s c) ≡ pick I stored s c
  hit_value s c b p = sym (pick_cell s c ∙ ap (λ z. cond z (σ.vars x) (pick I σ s c)) p)

  -- the variable where the test passes, else the atom
  either : Bool → Atom → Node
  either b a = cond b (var x ty) (atom a)

  either_live : (b : Bool) (a : Atom) → LiveAtom I a.src → AtAtom (λ c. LiveAtom I c.src) (either b a)
  unfolding either
  either_live true a l = tt
  either_live false a l = l

  module _ (env : Env) where
    hit : Atom → Bool
    hit a = hits t k i a.src (env a.src a.n)

    -- an atom of the list, or one whose value is unchanged
    abbrev Covered : List Atom → Atom → Type 0
    Covered ks a = (has a ks ≡ true) ⊎ (hit a ≡ false)

    -- one atom fewer to look for
    less : (b a : Atom) (ks : List Atom) → same_atom a b ≡ false → Covered (b ∷ ks) a → Covered ks a
    less b a ks q (inl h) = inl (rw q at h)
    less b a ks q (inr h) = inr h

    -- where its cell is not the stored one
    covered_left : (b : Atom) (ks : List Atom) → hit b ≡ false → (a : Atom) → Covered (b ∷ ks) a → Covered ks a
    covered_left b ks p a h = case (same_atom a b) (λ z. Covered ks a) (λ q. inr (ap hit (atom_eq a b q) ∙ p)) (λ q. less b a ks q h)

    -- where it is replaced
    covered_swap : (b : Atom) (ks : List Atom) (a : Atom) → Covered (b ∷ ks) a → AtAtom (Covered ks) (either (same_atom a b) a)
    unfolding either
    covered_swap b ks a h = case (same_atom a b) (λ z. AtAtom (Covered ks) (either z a)) (λ q. tt) (λ q. less b a ks q h)

    swap_push : (b : Atom) → hit b ≡ true → (a : Atom) (st : List Val) → push I stored env (either (same_atom a b) a) st ≡ pick I stored a.src (env a.src a.n) ∷ st
    unfolding either push hit
    swap_push b p a st =
        let c = env a.src a.n in
        case (same_atom a b) (λ z. push I stored env (either z a) st ≡ pick I stored a.src c ∷ st)
        (λ q. ap (◌∷ st) (hit_value a.src c true (ap hit (atom_eq a b q) ∙ p))) (λ q. refl)

    uncovered : (a : Atom) → Covered [] a → pick I σ a.src (env a.src a.n) ≡ pick I stored a.src (env a.src a.n)
    unfolding hit
    uncovered a (inl q) = absurd (true→T q)
    uncovered a (inr q) = hit_value a.src (env a.src a.n) false q

    -- of the subsets there is one that holds exactly the atoms whose cell is the stored one
    subsets_hold : (ks : List Atom) (e : Conj) → All (AtAtom (Covered ks)) e → All (Holds I σ env) (subsets ks x ty e) → Holds I stored env e
    unfolding subsets swap either
    subsets_hold [] e cov h = holds_same I σ stored env env (λ y. refl) (Covered []) uncovered e cov h.0
    subsets_hold (b ∷ ks) e cov h =
        let left = subsets ks x ty e in
        let right = subsets ks x ty (swap b x ty e) in
        let g : Atom → Node = λ a. either (same_atom a b) a in
        case (hit b) (λ z. Holds I stored env e)
        (λ p. holds-map I stored stored env env (λ y. refl) (Covered (b ∷ ks)) g (λ a c. swap_push b p a) (λ a. either_live (same_atom a b) a) e cov
        (subsets_hold ks (swap b x ty e) (every_map (Covered (b ∷ ks)) (Covered ks) g (covered_swap b ks) e cov) (all_right (Holds I σ env) left right h)))
        (λ p. subsets_hold ks e (every_imp (Covered (b ∷ ks)) (Covered ks) (covered_left b ks p) e cov) (all_left (Holds I σ env) left right h))

    covered_start : (ks : List Atom) (a : Atom) → has a ks ≡ true → Covered (loads t k ks) a
    unfolding hit
    covered_start ks a h =
        case (on_array t k a.src) (λ z. Covered (loads t k ks) a) (λ p. inl (has-loads t k a ks p h)) (λ p. inr (off_array t k i a.src (env a.src a.n) p))

  subsets_meet : (e : Conj) → All (Meets I σ) (subsets (loads t k (atoms e)) x ty e) → Meets I stored e
  unfolding Meets
  subsets_meet e h env =
      let ks = atoms e in
      subsets_hold env (loads t k ks) e (every_imp (λ a. has a ks ≡ true) (Covered env (loads t k ks)) (covered_start env ks) e (has-atoms e))
      (all_imp (λ d m. m env) (subsets (loads t k ks) x ty e) h)

  -- an array with one index: every load from it is the stored value
  swap_all_push : ((c : ℕ) → c % k ≡ i) → (env : Env) (a : Atom) (st : List Val)
      → push I σ env (either (on_array t k a.src) a) st ≡ pick I stored a.src (env a.src a.n) ∷ st
  unfolding either push
  swap_all_push one env a st =
      let c = env a.src a.n in
      case (on_array t k a.src) (λ z. push I σ env (either z a) st ≡ pick I stored a.src c ∷ st)
      (λ p. ap (◌∷ st) (hit_value a.src c true (only-cell t k i one a.src c p))) (λ p. ap (◌∷ st) (hit_value a.src c false (off_array t k i a.src c p)))

  swap_all_meets : ((c : ℕ) → c % k ≡ i) → (e : Conj) → Meets I σ (swap_all t k x ty e) → Meets I stored e
  unfolding Meets swap_all either
  swap_all_meets one e h env =
      holds-map I σ stored env env (λ y. refl) (λ a. Unit {0}) (λ a. either (on_array t k a.src) a) (λ a u. swap_all_push one env a)
      (λ a. either_live (on_array t k a.src) a) e (every_imp (λ a. has a (atoms e) ≡ true) (λ a. Unit {0}) (λ a h. tt) e (has-atoms e)) (h env)

one_index : (k m c : ℕ) → k ≡ 1 → c % k ≡ m % k
one_index k m c q = rw q (omega arith)

store_meets : (I : Input) (σ : State) (t k i x ty : ℕ) (e : Conj)
    → All (Meets I σ) (cond (eqb k 1) (swap_all t k x ty e ∷ []) (subsets (loads t k (atoms e)) x ty e)) → Meets I (set_cell σ t k (index σ k i) (σ.vars x)) e
store_meets I σ t k i x ty e h =
    case (eqb k 1) (λ z. All (Meets I σ) (cond z (swap_all t k x ty e ∷ []) (subsets (loads t k (atoms e)) x ty e)) → Meets I (set_cell σ t k (index σ k i) (σ.vars x)) e)
    (λ p m. swap_all_meets I σ t k (index σ k i) x ty (λ c. one_index k (nat_abs (σ.vars i).num) c (eqb-true k 1 p)) e m.0)
    (λ p m. subsets_meet I σ t k (index σ k i) x ty e m) h

-- the law of one statement
pub before_meets : (I : Input) (σ : State) (l : ℕ) (i : Instr) (ch : List ℕ) (e : Conj)
    → All (Meets I σ) (before l i e) → Leads (λ σ'. Meets I σ' e) (exec I σ i ch)
unfolding before exec
before_meets I σ l (assign a ty r) ch e h = assign_meets I σ l a ty r ch e h.0
before_meets I σ l (store t k i x ty) ch e h = store_meets I σ t k i x ty e h
before_meets I σ l (site a ty) ch e h = h.0
