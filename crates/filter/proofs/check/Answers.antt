-- `filter::check` meets its contract.
use mathlib.Core.Path.{◌≡◌, sym, ap, subst, ◌∙◌}
use mathlib.Core.Bool.{true}
use native.Mathlib.Omega.{arith}
use Rattle.std.proofs.lemmas.Result.{err_from_is_err_and}
use Rattle.model.specs.Lists.{every}
use Rattle.model.specs.Refusals.{ok, refused, mapped}
use Rattle.model.specs.Program.{type_right}
use Rattle.model.specs.Fields.{types_in, fields_in}
use Rattle.model.specs.Condition.{read_condition}
use Rattle.model.specs.Input.{read_input}
use Rattle.model.specs.Failure.{verdict}
use Rattle.refusals.specs.Answers.{number_of}
use Rattle.condition.specs.Answers.{fields_of, conjuncts_of}
use Rattle.input.specs.Answers.{InputFile, file_of}
use Rattle.input.proofs.Pass.{constant_read}
use Rattle.filter.specs.Verdict.{judged, InputOf}
use Rattle.filter.specs.Decoding.{input_in}
use Rattle.filter.proofs.Conjuncts.{fields-narrow, types-right}
use Rattle.filter.proofs.Verdicts.{condition-refused, input-refused, both_read}
use Rattle.filter.proofs.check.Goals as goal
use Rattle.filter.proofs.check.Goals.{After-fields, In_ok-input}

-- the verdict is on the caller's bytes
on-caller : (c : After-fields) → verdict c.in_ok-condition.condition c.args.input.now ≡ verdict c.args.condition.now c.args.input.now
on-caller c =
    ap (λ s. verdict s c.args.input.now)
    (constant_read c.args.condition.now (read_condition c.args.condition.now) c.in_ok-condition.condition c.in_ok-condition.ensures.bytes)

-- so is the input that is read
same-input : (c : In_ok-input) → c.in_ok-input.input ≡ file_of c.fields.result.now c.args.input.now
same-input c = constant_read _ (read_input (fields_in c.fields.result.now) c.args.input.now) c.in_ok-input.input c.in_ok-input.ensures.file

pub returns-in_err-condition : goal.returns-in_err-condition
returns-in_err-condition c =
    let p = err_from_is_err_and c.from_residual.result c.from_residual.ensures.1 in
    rw (p.1, p.2) (condition-refused c.args.condition.now c.args.input.now (number_of c.in_err-condition.field-0.0) c.in_err-condition.ensures.bytes)

pub returns-in_err-input : goal.returns-in_err-input
returns-in_err-input c =
    let n = number_of c.in_err-input.field-0.0 in
    let p = err_from_is_err_and c.from_residual-in_err-input.result c.from_residual-in_err-input.ensures.1 in
    let file = file_of c.fields.result.now c.args.input.now in
    rw (p.1, p.2)
    (input-refused c.in_ok-condition.condition c.args.input.now c.fields.ensures.read file n
    (subst (λ fs. refused n ≡ mapped (λ I. file) (read_input fs c.args.input.now)) c.fields.ensures.table.0 c.in_err-input.ensures.file)
    ∙ on-caller (goal.at.returns-in_err-input c).After-fields)

pub judge_input-requires : goal.judge_input-requires
judge_input-requires c =
    let s = c.in_ok-condition.condition in
    let read = c.fields.ensures.read in
    let table = c.fields.ensures.table in
    subst (λ (i : InputFile). InputOf s i.fields) (sym (same-input (goal.at.judge_input-requires c).In_ok-input))
    (record {
      same = table.0;
      few = omega (arith, table.1, fields-narrow s read);
      typed = subst (λ fs. every type_right (types_in fs) ≡ true) (sym table.0) (types-right s read);
    })

pub returns : goal.returns
returns c =
    let s = c.in_ok-condition.condition in
    let t = c.args.input.now in
    let file = file_of c.fields.result.now t in
    let i = c.in_ok-input.input in
    c.judge_input.ensures
    ∙ ap (λ (i : InputFile). judged (input_in (fields_of s) i.bytes) (conjuncts_of s)) (same-input (goal.at.returns c).In_ok-input)
    ∙ sym (both_read s t c.fields.ensures.read file i
    (subst (λ fs. ok i ≡ mapped (λ I. file) (read_input fs t)) c.fields.ensures.table.0 c.in_ok-input.ensures.file))
    ∙ on-caller (goal.at.returns c).After-fields
