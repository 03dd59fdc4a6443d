-- `analysis::keeps` meets its contract.
use mathlib.Core.Bool.{not, true, true≢false}
use mathlib.Core.Path.{◌≡◌, sym, ap, subst, ◌∙◌}
use Prim.Native.Nat.{ℕ}
use native.Mathlib.Omega.{arith}
use lib.Dec.{eqb}
use borrow.Author.Tests.{eq-eqb}
use Rattle.code_table.specs.Statements.{stmt_from}
use Rattle.code_table.specs.declared.Decoded.{Decoded}
use Rattle.analysis.specs.Joining.{Keeps}
use Rattle.analysis.proofs.Repeating.{keeps_row}
use Rattle.analysis.proofs.keeps.Goals as goal

differs : (a x : ℕ) → not (eqb a x) ≡ true → a ≡ x → ⊥
differs a x h e = true≢false (sym (sym (ap not (eq-eqb a x e)) ∙ h))

pub returns-then-kind-ge9 : goal.returns-then-kind-ge9
returns-then-kind-ge9 c =
    let x = c.args.x in
    λ e. subst (λ (d : Decoded). Keeps x (stmt_from d)) c.fetch-d.ensures
    (keeps_row c.fetch-d.result x (omega (arith, c.if-kind-ge11.false)) (λ h. absurd (omega (arith, h, c.if-kind-ge9.true))))

pub returns : goal.returns
returns c =
    let x = c.args.x in
    λ e. subst (λ (d : Decoded). Keeps x (stmt_from d)) c.fetch-d.ensures
    (keeps_row c.fetch-d.result x (omega (arith, c.if-kind-ge11.false)) (λ h. differs c.fetch-d.result.a x e))
