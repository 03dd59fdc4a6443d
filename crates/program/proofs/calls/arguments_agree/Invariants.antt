-- `program::calls::arguments_agree` meets its contract. The invariant: the bytes before j agree, those from j on are left.
use mathlib.Core.Path.{◌≡◌}
use Prim.Native.Nat.{◌-◌, ◌+◌}
use lib.ListN.{take, drop}
use Rattle.model.specs.Bytes.{bytes4}
use Rattle.model.specs.Program.{all_alike}
use Rattle.program.specs.Reading.{tables_of}
use Rattle.program.proofs.calls.arguments_agree.Given as goal

abbrev pub invariant-loop-j : goal.invariant-loop-j
invariant-loop-j l =
    let T = tables_of l.program in
    all_alike T (take l.n (bytes4 l.imm)) l.x ≡ all_alike T (take (l.n - l.j) (drop l.j (bytes4 l.imm))) (l.x + l.j)
