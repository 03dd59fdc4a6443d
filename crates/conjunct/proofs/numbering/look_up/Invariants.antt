-- `conjunct::numbering::look_up` meets its contract.
use mathlib.Core.Path.{◌≡◌}
use Prim.Native.Nat.{◌≤◌}
use Rattle.conjunct.specs.Word.{key_of}
use Rattle.conjunct.proofs.numbering.Ranks.{Left}
use Rattle.conjunct.proofs.numbering.look_up.Given as goal

abbrev pub invariant-loop-j : goal.invariant-loop-j
invariant-loop-j l = (l.n ≤ l.j) × (l.s ≡ key_of l.w) × Left l.seen l.m l.w l.j l.n
