-- `program::calls::arguments_right` meets its contract. The invariant: the bytes before j pass, those from j on are left.
use mathlib.Core.Path.{◌≡◌}
use Prim.Native.Nat.{◌-◌}
use lib.Dec.{ltb}
use lib.ListN.{drop}
use Rattle.model.specs.Bytes.{bytes4}
use Rattle.model.specs.Program.{unused}
use Rattle.program.proofs.calls.Arguments.{parted}
use Rattle.program.proofs.calls.arguments_right.Given as goal

abbrev pub invariant-loop-j : goal.invariant-loop-j
invariant-loop-j l =
    let passes = parted (λ x. ltb x l.variables) unused in
    passes l.n (bytes4 l.imm) ≡ passes (l.n - l.j) (drop l.j (bytes4 l.imm))
