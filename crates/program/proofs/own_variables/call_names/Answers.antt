-- `program::own_variables::call_names` meets its contract.
use mathlib.Core.Path.{ap, ◌∙◌}
use mathlib.Core.List.{◌∷◌}
use Prim.Native.Nat.{ℕ}
use native.Mathlib.Omega.{arith}
use lib.ListN.{take}
use Rattle.model.specs.Bytes.{bytes4}
use Rattle.model.specs.Program.{Statement}
use Rattle.program.proofs.own_variables.Naming.{target-bytes}
use Rattle.std.proofs.lemmas.List.{take_min}
use Rattle.program.proofs.own_variables.call_names.Goals as goal

pub returns : goal.returns
unfolding bytes4
returns c =
    let q = c.args.q in
    let params = ap (λ (s : Statement). s.a) c.beginning-begun.ensures.0 in
    let bytes = target-bytes c.min.result q.imm q.a _ _ _ _ c.argument.ensures c.argument-2.ensures c.argument-3.ensures c.argument-4.ensures in
    record {
      same = bytes ∙ ap (q.a ∷◌) (rw c.min.ensures (take_min c.beginning-begun.result.a (bytes4 q.imm)) ∙ ap (λ (n : ℕ). take n (bytes4 q.imm)) params);
      few = omega (arith, c.min.ensures);
    }
