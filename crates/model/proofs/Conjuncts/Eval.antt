-- The value of a changed conjunct is the value of the conjunct in a changed state; renumbering changes no value.
use mathlib.Core.Path.{◌≡◌, refl, sym, ◌∙◌, ap}
use mathlib.Core.Bool.{true}
use mathlib.Core.List.{List, [], ◌∷◌, ◌++◌, map, flat_map}
use Prim.Native.Nat.{ℕ, zero, suc}
use Rattle.model.specs.Conjunct.{Atom, Node, const, atom, var, op, conv, Conj, atoms, renamed, on_atom_lem, renumber, has, AtAtom}
use Rattle.model.specs.Input.{Input}
use Rattle.model.specs.Lists.{All}
use Rattle.model.specs.Run.{State}
use Rattle.model.specs.Values.{Val}
use Rattle.model.proofs.Conjuncts.Atoms.{has-atoms, nth, nth_rank, every_map}
use Rattle.model.proofs.Basics.Lists.{all_imp, all_append}
use Rattle.model.proofs.Conjuncts.Meaning.{Env, pick, push, eval, top_mark, LiveAtom, Live, Holds, Meets}

-- ---- changed conjuncts

pub eval_append : (I : Input) (σ : State) (env : Env) (d e : Conj) (st : List Val) → eval I σ env (d ++ e) st ≡ eval I σ env e (eval I σ env d st)
unfolding eval
eval_append I σ env [] e st = refl
eval_append I σ env (v ∷ d) e st = eval_append I σ env d e (push I σ env v st)

map-id : (e : Conj) → map (on_atom_lem atom) e ≡ e
map-id [] = refl
map-id (const ty i ∷ e) = ap (const ty i ∷◌) (map-id e)
map-id (atom a ∷ e) = ap (atom a ∷◌) (map-id e)
map-id (var x ty ∷ e) = ap (var x ty ∷◌) (map-id e)
map-id (op o ty ∷ e) = ap (op o ty ∷◌) (map-id e)
map-id (conv ty ∷ e) = ap (conv ty ∷◌) (map-id e)

-- in what follows a node under σ and env stands for one under σ' and env'
module _ (I : Input) (σ σ' : State) (env env' : Env) where
  pub eval_flat_map : (g : Node → List Node) (e : Conj) → ((v : Node) (st : List Val) → eval I σ env (g v) st ≡ push I σ' env' v st)
      → (st : List Val) → eval I σ env (flat_map g e) st ≡ eval I σ' env' e st
  unfolding eval flat_map
  eval_flat_map g [] h st = refl
  eval_flat_map g (v ∷ e) h st =
      eval_append I σ env (g v) (flat_map g e) st ∙ ap (eval I σ env (flat_map g e)) (h v st) ∙ eval_flat_map g e h (push I σ' env' v st)

  pub eval_map : (g : Node → Node) (e : Conj) → All (λ v. (st : List Val) → push I σ env (g v) st ≡ push I σ' env' v st) e
      → (st : List Val) → eval I σ env (map g e) st ≡ eval I σ' env' e st
  unfolding eval
  eval_map g [] h st = refl
  eval_map g (v ∷ e) h st = ap (eval I σ env (map g e)) (h.0 st) ∙ eval_map g e h.1 (push I σ' env' v st)

  -- where the variables are the same and every atom's stand-in has its value, so has the conjunct
  module _ (same : (x : ℕ) → σ.vars x ≡ σ'.vars x) (P : Atom → Type 0) (g : Atom → Node)
      (value : (a : Atom) → P a → (st : List Val) → push I σ env (g a) st ≡ pick I σ' a.src (env' a.src a.n) ∷ st) where
    push_on_atom : (v : Node) → AtAtom P v → (st : List Val) → push I σ env (on_atom_lem g v) st ≡ push I σ' env' v st
    unfolding push
    push_on_atom (const ty i) h st = refl
    push_on_atom (atom a) h st = value a h st
    push_on_atom (var x ty) h st = ap (◌∷ st) (same x)
    push_on_atom (op o ty) h st = refl
    push_on_atom (conv ty) h st = refl

    pub holds-map : ((a : Atom) → LiveAtom I a.src → AtAtom (λ b. LiveAtom I b.src) (g a))
        → (e : Conj) → All (AtAtom P) e → Holds I σ env (map (on_atom_lem g) e) → Holds I σ' env' e
    holds-map live e h k l =
        ap top_mark (sym (eval_map (on_atom_lem g) e (all_imp push_on_atom e h) []))
        ∙ k (every_map (λ a. LiveAtom I a.src) (λ a. LiveAtom I a.src) g live e l)

  -- the same conjunct, where every atom has the same value
  pub holds_same : ((x : ℕ) → σ.vars x ≡ σ'.vars x) → (P : Atom → Type 0)
      → ((a : Atom) → P a → pick I σ a.src (env a.src a.n) ≡ pick I σ' a.src (env' a.src a.n))
      → (e : Conj) → All (AtAtom P) e → Holds I σ env e → Holds I σ' env' e
  unfolding push
  holds_same same P f e h k = holds-map same P atom (λ a p st. ap (◌∷ st) (f a p)) (λ a l. l) e h (rw map-id k)

pub live_flat_map : (I : Input) (g : Node → List Node) → ((v : Node) → AtAtom (λ a. LiveAtom I a.src) v → Live I (g v))
    → (e : Conj) → Live I e → Live I (flat_map g e)
unfolding flat_map
live_flat_map I g f [] h = tt
live_flat_map I g f (v ∷ e) h = all_append (AtAtom (λ a. LiveAtom I a.src)) (g v) (flat_map g e) (f v h.0) (live_flat_map I g f e h.1)

-- ---- renumbered conjuncts

-- the choices for a renumbered conjunct that pick what `env` picks
back_env : List Atom → Env → Env
back_env ks env s m = env s (elim m [ zero ↦ 0 | suc k ↦ nth s k ks ])

pub renumber_meets : (I : Input) (σ : State) (e : Conj) → Meets I σ (renumber e) → Meets I σ e
unfolding Meets renumber renamed push back_env
renumber_meets I σ e h env =
    let ks = atoms e in
    holds-map I σ σ (back_env ks env) env (λ x. refl) (λ a. has a ks ≡ true) (λ a. atom (renamed ks a))
    (λ a p st. ap (λ n. pick I σ a.src (env a.src n) ∷ st) (nth_rank a ks p)) (λ a l. l) e (has-atoms e) (h (back_env ks env))
