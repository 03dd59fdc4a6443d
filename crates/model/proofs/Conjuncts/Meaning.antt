-- What a conjunct means in a state, whichever readings and cells its atoms take: its value with its mark, as the run would
-- work it out, and when a state meets it.
use mathlib.Core.Path.{◌≡◌}
use mathlib.Core.Bool.{Bool, false}
use mathlib.Core.List.{List, [], ◌∷◌}
use Prim.Native.Nat.{ℕ, ◌%◌, ◌<◌}
use lib.IntN.{pos}
use lib.ListN.{length, get_or, drop}
use Rattle.arith.specs.Words.{immediate}
use Rattle.model.specs.Lists.{All}
use Rattle.model.specs.Values.{Val, plain, operated, converted}
use Rattle.model.specs.Conjunct.{Source, field, cell, Atom, Node, const, atom, var, op, conv, Conj, AtAtom}
use Rattle.model.specs.Input.{Input}
use Rattle.model.specs.Run.{State, reading}

-- for each source and n the number of the reading or of the cell, taken modulo how many there are
abbrev pub Env : Type 0
Env = Source → ℕ → ℕ

-- the value that a source has at a choice
unfoldable pub pick : Input → State → Source → ℕ → Val
pick I σ (field f ty) c = reading (I f) c
pick I σ (cell l r k ty) c = σ.cells r k (c % k)

-- the k-th value from the top of the stack
abbrev pub on_stack : List Val → ℕ → Val
on_stack st k = get_or st k (plain (pos 0))

-- one node on a stack of values
unfoldable pub push : Input → State → Env → Node → List Val → List Val
push I σ env (const ty i) st = plain (immediate ty i) ∷ st
push I σ env (atom a) st = pick I σ a.src (env a.src a.n) ∷ st
push I σ env (var x ty) st = σ.vars x ∷ st
push I σ env (op o ty) st = operated o ty (on_stack st 1) (on_stack st 0) ∷ drop 2 st
push I σ env (conv ty) st = converted ty (on_stack st 0) ∷ drop 1 st

-- the nodes one after the other
unfoldable pub eval : Input → State → Env → Conj → List Val → List Val
eval I σ env [] st = st
eval I σ env (v ∷ e) st = eval I σ env e (push I σ env v st)

-- the mark of the value on top
abbrev pub top_mark : List Val → Bool
top_mark [] = false
top_mark (v ∷ st) = v.mark

-- the field of a reading has readings
abbrev pub LiveAtom : Input → Source → Type 0
LiveAtom I (field f ty) = 0 < length (I f)
LiveAtom I (cell l r k ty) = Unit {0}

-- so has every field that the conjunct reads
abbrev pub Live : Input → Conj → Type 0
Live I e = All (AtAtom (λ a. LiveAtom I a.src)) e

-- with these choices the conjunct's value is unmarked
abbrev pub Holds : Input → State → Env → Conj → Type 0
Holds I σ env e = Live I e → top_mark (eval I σ env e []) ≡ false

-- whichever readings and cells its atoms take
unfoldable pub Meets : Input → State → Conj → Type 0
Meets I σ e = (env : Env) → Holds I σ env e
