-- The bytes before the place are the same.
use mathlib.Core.Path.{◌≡◌}
use lib.ListN.{length, drop}
use Rattle.model.specs.Conjunct.{order_numbers}
use Rattle.condition.proofs.comes_before.Given as goal

abbrev pub invariant-loop-i : goal.invariant-loop-i
invariant-loop-i l = (length l.a ≡ length l.b) × (order_numbers l.a l.b ≡ order_numbers (drop l.i l.a) (drop l.i l.b))
