-- Where no step of the step-by-step evaluation overflows, the evaluation with marks in the zero state has the same
-- numbers, all unmarked: the zero state meets every safe conjunct.
use mathlib.Core.Path.{◌≡◌, refl, sym, ap, ◌∙◌}
use mathlib.Core.Bool.{true, false, cond}
use mathlib.Core.List.{List, [], ◌∷◌, map}
use Prim.Native.Nat.{ℕ, ◌%◌}
use native.Mathlib.Nat.{mod-lt}
use lib.IntN.{ℤ, pos}
use lib.ListN.{length, get_or, drop, get_or-map}
use Rattle.arith.specs.declared.Op.{Op}
use Rattle.arith.specs.declared.Op.TheVariants.{Convert}
use Rattle.arith.specs.Step.{value, overflow, passes, exact_of_lem, overflows, cause_of_lem, step_of}
use Rattle.arith.proofs.StepLaws.{step_wraps}
use Rattle.model.specs.Lists.{All}
use Rattle.model.specs.Values.{Val, plain, Operation, step_op, operated, converted}
use Rattle.model.specs.Conjunct.{Source, field, cell, Atom, Node, const, atom, var, op, conv, Conj, atoms, has, AtAtom}
use Rattle.model.specs.Input.{Input}
use Rattle.model.specs.Filter.{from_top}
use Rattle.model.specs.Run.{zeros, reading}
use Rattle.model.specs.Demands.{IsReading, Safe}
use Rattle.model.proofs.Conjuncts.Atoms.{every_imp, has-atoms, atoms-all}
use Rattle.model.proofs.Filters.Choosing.{IsField, OfFields}
use Rattle.model.proofs.Basics.Lists.{all_imp₂, get_or_mem, drop-map}
use Rattle.model.proofs.Conjuncts.Meaning.{Env, pick, push, eval, top_mark, LiveAtom, Meets}
use Rattle.model.proofs.Basics.Tests.{case, true→T}
use Rattle.model.proofs.Filters.Worked.{Stack, stack, stopped, on_top, go_on, outcome, works_out, worked, evaluate-worked}

-- the values are the stack's numbers, unmarked, unless a step overflowed
abbrev Unmarked : Stack → List Val → Type 0
Unmarked (stack st) vs = vs ≡ map plain st
Unmarked (stopped c) vs = Unit {0}

-- ---- one step

operated-plain : (o : Operation) (ty : ℕ) (a b : ℤ) → overflows (step_op o) ty a b ≡ false → operated o ty (plain a) (plain b) ≡ plain (exact_of_lem (step_op o) a b)
unfolding operated
operated-plain o ty a b q = λ i. record { num = step_wraps (step_op o) ty a b q i; mark = q i }

converted-plain : (ty : ℕ) (a : ℤ) → overflows Convert ty a (pos 0) ≡ false → converted ty (plain a) ≡ plain a
unfolding converted
converted-plain ty a q = λ i. record { num = step_wraps Convert ty a (pos 0) q i; mark = q i }

-- a value put on top: the result, where the step does not overflow
on_top_unmarked : (o : Op) (ty : ℕ) (a b : ℤ) (v : Val) (st : List ℤ) → (overflows o ty a b ≡ false → v ≡ plain (exact_of_lem o a b))
    → Unmarked (on_top (step_of o ty a b) st) (v ∷ map plain st)
on_top_unmarked o ty a b v st h =
    case (overflows o ty a b) (λ z. Unmarked (on_top (cond z (overflow (cause_of_lem o ty a b)) (value (exact_of_lem o a b))) st) (v ∷ map plain st)) (λ q. tt) (λ q. ap (◌∷ map plain st) (h q))

-- ---- the nodes

module _ (I : Input) (env : Env) (at : Atom → ℤ) where
  -- the atom's value is the same, unmarked
  abbrev Picked : Atom → Type 0
  Picked a = pick I zeros a.src (env a.src a.n) ≡ plain (at a)

  push_unmarked : (v : Node) → AtAtom Picked v → (st : List ℤ) → Unmarked (works_out at v st) (push I zeros env v (map plain st))
  unfolding works_out push
  push_unmarked (const ty i) h st = refl
  push_unmarked (atom a) h st = ap (◌∷ map plain st) h
  push_unmarked (var x ty) h st = refl
  push_unmarked (op o ty) h st =
      rw (get_or-map plain st 1 (pos 0), get_or-map plain st 0 (pos 0), drop-map plain 2 st)
      (on_top_unmarked (step_op o) ty (from_top st 1) (from_top st 0) (operated o ty (plain (from_top st 1)) (plain (from_top st 0))) (drop 2 st)
      (operated-plain o ty (from_top st 1) (from_top st 0)))
  push_unmarked (conv ty) h st =
      rw (get_or-map plain st 0 (pos 0), drop-map plain 1 st)
      (on_top_unmarked Convert ty (from_top st 0) (pos 0) (converted ty (plain (from_top st 0))) (drop 1 st) (converted-plain ty (from_top st 0)))

  eval_unmarked : (e : Conj) → All (AtAtom Picked) e → (st : List ℤ) → Unmarked (worked at e st) (eval I zeros env e (map plain st))
  unfolding worked eval
  eval_unmarked [] h st = refl
  eval_unmarked (v ∷ e) h st = go (works_out at v st) (push I zeros env v (map plain st)) (push_unmarked v h.0 st) (eval_unmarked e h.1)
    where
      go : (s : Stack) (vs : List Val) → Unmarked s vs → ((st : List ℤ) → Unmarked (worked at e st) (eval I zeros env e (map plain st)))
          → Unmarked (go_on s (worked at e)) (eval I zeros env e vs)
      go (stack st') vs q ih = rw q (ih st')
      go (stopped c) vs q ih = tt

-- ---- the choices

top_mark_plain : (st : List ℤ) → top_mark (map plain st) ≡ false
top_mark_plain [] = refl
top_mark_plain (z ∷ st) = refl

outcome_mark : (s : Stack) (vs : List Val) → passes (outcome s) ≡ true → Unmarked s vs → top_mark vs ≡ false
outcome_mark (stack st) vs p q = ap top_mark q ∙ top_mark_plain st
outcome_mark (stopped c) vs p q = absurd (true→T p)

-- what a source has in the zero state is unmarked
picked : (I : Input) (s : Source) (c : ℕ) → pick I zeros s c ≡ plain (pick I zeros s c).num
unfolding pick reading
picked I (field f ty) c = refl
picked I (cell l r k ty) c = refl

-- and it is a reading of its field
picked_reading : (I : Input) (s : Source) (c : ℕ) → IsField s → LiveAtom I s → IsReading I s (pick I zeros s c).num
unfolding pick reading
picked_reading I (field f ty) c h live = get_or_mem (I f) (c % length (I f)) (pos 0) (mod-lt c live)
picked_reading I (cell l r k ty) c h live = h

pub safe_meets : (I : Input) (e : Conj) → OfFields e → Safe I e → Meets I zeros e
unfolding Meets
safe_meets I e fields safe env live =
    let number : Atom → ℕ = λ a. env a.src a.n in
    let at : Atom → ℤ = λ a. (pick I zeros a.src (number a)).num in
    let of_Fields = atoms-all (λ a. IsField a.src) e fields in
    let live-atoms = atoms-all (λ a. LiveAtom I a.src) e live in
    let chooses = all_imp₂ (λ a. picked_reading I a.src (number a)) (atoms e) of_Fields live-atoms in
    let p = every_imp (λ a. has a (atoms e) ≡ true) (Picked I env at) (λ a h. picked I a.src (number a)) e (has-atoms e) in
    outcome_mark (worked at e []) (eval I zeros env e []) (ap passes (sym (evaluate-worked at e [])) ∙ safe at chooses) (eval_unmarked I env at e p [])
