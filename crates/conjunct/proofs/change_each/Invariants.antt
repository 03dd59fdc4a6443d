-- `conjunct::change_each` meets its contract: a loop that changes words (`Words.Changed`), each by f.
use mathlib.Core.Path.{◌≡◌}
use Prim.Native.Nat.{ℕ}
use Rattle.model.specs.Conjunct.{Node}
use Rattle.conjunct.specs.Word.{node_of}
use Rattle.conjunct.proofs.Words.{Changed}
use Rattle.conjunct.proofs.change_each.Given as goal

abbrev pub invariant-loop-i : goal.invariant-loop-i
invariant-loop-i g l =
    Changed ((h : Node → Node) × ((x y : ℕ) → goal.F-post g l.f x y → node_of y ≡ h (node_of x))) (λ k. k.0) l.initial.w l.n l.w l.i
