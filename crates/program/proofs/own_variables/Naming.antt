-- The variables that a statement names, in the code's five words.
use mathlib.Core.Path.{◌≡◌, refl, ap}
use mathlib.Core.Bool.{Bool, true, false}
use mathlib.Core.List.{[], ◌∷◌}
use Prim.Native.Nat.{ℕ, ◌+◌, ◌≤◌}
use native.Mathlib.Numerals.{add-one}
use native.Mathlib.Omega.{arith}
use borrow.Author.Tests.{eqb-true, eqb-false}
use lib.Dec.{eqb}
use lib.ListN.{get_or, take}
use Rattle.model.specs.Bytes.{bytes4}
use Rattle.model.specs.Procedures.{named}
use Rattle.model.specs.Program.{Tables, Statement, item_of}
use Rattle.program.specs.Numbers.{else_kind, while_kind, procedure_kind, call_kind}
use Rattle.program.proofs.Items.{item_else, item_procedure, item_end}

-- a target and the first k bytes of an immediate
pub target-bytes : (k v a w x y z : ℕ) → w ≡ get_or (bytes4 v) 0 0 → x ≡ get_or (bytes4 v) 1 0 → y ≡ get_or (bytes4 v) 2 0 → z ≡ get_or (bytes4 v) 3 0
    → take (k + 1) (a ∷ w ∷ x ∷ y ∷ z ∷ []) ≡ a ∷ take k (bytes4 v)
unfolding bytes4
target-bytes k v a w x y z e₁ e₂ e₃ e₄ = rw (add-one k, e₁, e₂, e₃, e₄)

-- an else, an end, the beginning of a procedure and what is no kind name none
pub names-none : (T : Tables) (q : Statement) → else_kind ≤ q.kind → (q.kind ≡ while_kind → ⊥) → (q.kind ≡ call_kind → ⊥) → named (item_of T q) ≡ []
names-none T q h no_while no_call = go (eqb q.kind else_kind) (eqb q.kind procedure_kind) refl refl
  where
    go : (a b : Bool) → eqb q.kind else_kind ≡ a → eqb q.kind procedure_kind ≡ b → named (item_of T q) ≡ []
    go true b e f = ap named (item_else T q (eqb-true q.kind else_kind e))
    go false true e f = ap named (item_procedure T q (eqb-true q.kind procedure_kind f))
    go false false e f =
        ap named
        (item_end T q (omega arith) (λ z. absurd (omega (arith, z))) (eqb-false q.kind else_kind e) no_while (eqb-false q.kind procedure_kind f) no_call)
