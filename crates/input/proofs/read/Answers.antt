-- `input::read` meets its contract.
use mathlib.Core.Path.{◌≡◌, sym, ◌∙◌, ap, subst}
use mathlib.Core.List.{List}
use Prim.Native.Nat.{ℕ}
use native.Mathlib.Omega.{arith}
use Rattle.model.specs.Refusals.{Out, ok, refused, check, mapped, wrong_input}
use Rattle.model.specs.Fields.{types_in, fields_in}
use Rattle.model.specs.Input.{read_input}
use Rattle.model.proofs.Files.FieldTables.{types-length}
use Rattle.input.specs.FirstWrong.{RightBefore}
use Rattle.input.proofs.Pass.{one_wrong, ends-inside, ends_elsewhere, readings_decide, readings-are, with_value}
use Rattle.input.specs.Answers.{file_of, InputIsRead}
use Rattle.input.proofs.read.Goals as goal
use Rattle.input.proofs.read.Goals.{After-bits_right, Else-not-bits_right}

-- where the last pair ends the file, the readings decide
decided : (c : After-bits_right)
    → mapped (λ I. tt {0}) (read_input (fields_in c.args.fields.now) c.args.input.now)
    ≡ check c.bits_right.result wrong_input (ok tt)
decided c =
    let g = c.args in
    let end = c.in-Ok.end in
    let right = c.in-Ok.ensures in
    readings_decide (fields_in g.fields.now) g.input.now end right
    (omega (arith, c.if-end-input.false, ends-inside (types_in (fields_in g.fields.now)) g.input.now end right))
    ∙ ap (λ b. check b wrong_input (ok tt)) (readings-are (fields_in g.fields.now) g.input.now ∙ sym c.bits_right.ensures)

-- the answer, by that of its form alone
told : (fields input : List ℕ) (o : Out (Unit {0})) → mapped (λ I. tt {0}) (read_input (fields_in fields) input) ≡ o
    → mapped (λ (u : Unit {0}). file_of fields input) o ≡ mapped (λ I. file_of fields input) (read_input (fields_in fields) input)
told fields input o e = sym (with_value (file_of fields input) (read_input (fields_in fields) input) o e)

pub returns-in_default : goal.returns-in_default
returns-in_default c =
    let g = c.args in
    let e = one_wrong (fields_in g.fields.now) g.input.now _ c.in_default.ensures in
    record { form = sym e; file = told g.fields.now g.input.now (refused wrong_input) e }

pub returns-then-end-input : goal.returns-then-end-input
returns-then-end-input c =
    let g = c.args in
    let end = c.in-Ok.end in
    let e = ends_elsewhere (fields_in g.fields.now) g.input.now end c.in-Ok.ensures (λ q. absurd (omega (arith, q, c.if-end-input.true))) in
    record { form = sym e; file = told g.fields.now g.input.now (refused wrong_input) e }

pub bits_right-requires : goal.bits_right-requires
bits_right-requires c =
    let g = c.args in
    subst (RightBefore (types_in (fields_in g.fields.now)) g.input.now) (types-length g.fields.now) c.in-Ok.ensures.0

pub returns-then-not-bits_right : goal.returns-then-not-bits_right
returns-then-not-bits_right c =
    let g = c.args in
    let e = decided (goal.at.returns-then-not-bits_right c).After-bits_right ∙ ap (λ b. check b wrong_input (ok tt)) c.if-not-bits_right.true in
    record { form = sym e; file = told g.fields.now g.input.now (refused wrong_input) e }

-- the input is in its form
formed : (c : Else-not-bits_right) → InputIsRead c.args.fields.now c.args.input.now
formed c = decided (goal.at.Else-not-bits_right c).After-bits_right ∙ ap (λ b. check b wrong_input (ok tt)) c.if-not-bits_right.false

pub invariant_of-result : goal.invariant_of-result
invariant_of-result c = formed (goal.at.invariant_of-result c).Else-not-bits_right

pub returns : goal.returns
returns c =
    let e = formed (goal.at.returns c).Else-not-bits_right in
    record { form = sym e; file = told c.args.fields.now c.args.input.now (ok tt) e }
