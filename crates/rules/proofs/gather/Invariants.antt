-- `rules::gather` meets its contract: after k turns the room has what the first k conjuncts come to.
use mathlib.Core.Path.{◌≡◌}
use Prim.Native.Nat.{ℕ}
use lib.ListN.{take}
use Rattle.model.specs.Walk.{before, gather}
use Rattle.code_table.specs.Statements.{instr_of}
use Rattle.sets.specs.Region.{set_of, Within}
use Rattle.rules.proofs.gather.Given as goal

abbrev pub invariant-loop-k : goal.invariant-loop-k
invariant-loop-k l =
    Within l.room l.initial.s l.s × ((label : ℕ) → set_of l.s l.room ≡ gather (before label (instr_of l.d)) (take l.k (set_of l.initial.s l.b)))
