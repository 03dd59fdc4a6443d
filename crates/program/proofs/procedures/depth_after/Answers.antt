-- `program::procedures::depth_after` meets its contract.
use mathlib.Core.Path.{◌∙◌}
use native.Mathlib.Omega.{arith}
use Rattle.std.proofs.Common.{◌≡◌, ◌⊎◌, inl, inr}
use Rattle.program.specs.Numbers.{procedure_kind, call_kind}
use Rattle.program.proofs.Items.{item_plain, item_if, item_else, item_while, item_procedure, item_call, OtherKind, item_otherwise}
use Rattle.program.proofs.procedures.depth_after.Goals as goal

pub returns-then-kind-lt-IF : goal.returns-then-kind-lt-IF
returns-then-kind-lt-IF c = λ T q e. rw (item_plain T q (omega (arith, e))).1

pub returns-in-11 : goal.returns-in-11
returns-in-11 c = λ T q e. elim c.in-11.is [ inl k ↦ rw (item_if T q (e ∙ k)) | inr k ↦ rw (item_while T q (e ∙ k)) ]

pub returns-in-12 : goal.returns-in-12
returns-in-12 c = λ T q e. rw (item_else T q (e ∙ c.in-12.is))

pub returns-in-12-2 : goal.returns-in-12-2
returns-in-12-2 c =
    let k : (c.args.kind ≡ procedure_kind) ⊎ (c.args.kind ≡ call_kind) = grind arith in
    λ T q e. elim k [ inl l ↦ rw (item_procedure T q (e ∙ l)) | inr l ↦ rw (item_call T q (e ∙ l)) ]

pub returns-in_default : goal.returns-in_default
returns-in_default c =
    let other : OtherKind c.args.kind = (grind arith, grind arith, grind arith, grind arith, grind arith) in
    λ T q e. rw (item_otherwise T q e (omega arith) other)
