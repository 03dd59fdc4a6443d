-- `condition::read` meets its contract: by the tests of the form, one after the other.
use mathlib.Core.Path.{◌≡◌, refl, sym, ap, ◌∙◌}
use mathlib.Core.Bool.{true, false}
use mathlib.Core.List.{map}
use Prim.Native.Nat.{◌+◌, ◌*◌, ◌≤◌}
use native.Mathlib.Omega.{arith}
use lib.ListN.{length}
use Rattle.model.specs.Sizes.{field_size, counts_size}
use Rattle.model.specs.Condition.{Condition, conjunct_at, rising, read_condition}
use Rattle.model.specs.Lists.{every}
use Rattle.model.specs.Fields.{field_right}
use Rattle.model.specs.Refusals.{refused, mapped, wrong_condition}
use Rattle.std.specs.Prelude.{Ok, Err}
use Rattle.refusals.specs.declared.Refusal.TheVariants.{WrongCondition}
use Rattle.condition.specs.Answers.{bytes_answer, pair_right, pairs_of, fields_at, types_at, linked}
use Rattle.condition.proofs.Passes.{formed-true, formed-false}
use Rattle.condition.proofs.Table.{fields-taken, form_by, refuses, accepts, accepts-sizes, numbers_by_bytes, form-short, form-many, form_wide, form_cut}
use Rattle.condition.proofs.Table.{form_unchained, form_unlisted, form_wrong, form-is}
use Rattle.std.proofs.lemmas.Result.{err_from_is_err_and}
use Rattle.refusals.specs.Answers.{number_of}
use Rattle.condition.proofs.read.Goals as goal
use Rattle.condition.proofs.read.Goals.{After-u32_at-fields, Else-condition-start, Else-not-is_chained, Else-not-all_right, Else-not-is_rising, In_ok-read_conjuncts}

-- ---- the places: where the counts were read, and where each test has passed

-- ---- what is known there
not-read : (c : After-u32_at-fields) → form_by c.args.condition.now c.u32_at-conjuncts.result c.u32_at-fields.result ≡ false → refused wrong_condition ≡ mapped (λ (C : Condition). c.args.condition.now) (read_condition c.args.condition.now)
not-read c e = refuses c.args.condition.now c.u32_at-conjuncts.result c.u32_at-fields.result c.u32_at-conjuncts.ensures.0 c.u32_at-fields.ensures.0 e

chain : (c : Else-not-is_chained) → linked c.args.condition.now c.u32_at-fields.result c.u32_at-conjuncts.result ≡ true
chain c = sym c.is_chained.ensures ∙ c.if-not-is_chained.false

-- the table lies in the file
room : (w : Else-condition-start) → counts_size + field_size * w.u32_at-fields.result ≤ length w.args.condition.now
room w = omega (arith, w.if-condition-start.false)

listed : (c : Else-not-all_right) → every field_right (fields_at c.args.condition.now c.u32_at-fields.result) ≡ true
listed c =
    ap (every field_right) (sym (fields-taken c.args.condition.now c.u32_at-fields.result (room (goal.at.Else-not-all_right c).Else-condition-start))) ∙ sym c.all_right.ensures
    ∙ c.if-not-all_right.false

pairs : (c : In_ok-read_conjuncts) → every (pair_right (types_at c.args.condition.now c.u32_at-fields.result) c.args.condition.now)
    (pairs_of c.args.condition.now c.u32_at-fields.result c.u32_at-conjuncts.result) ≡ true
pairs c = formed-true _ c.in_ok-read_conjuncts.ensures

-- the form is the order
ordered : (c : In_ok-read_conjuncts) → form_by c.args.condition.now c.u32_at-conjuncts.result c.u32_at-fields.result
    ≡ rising (map (conjunct_at c.args.condition.now) (pairs_of c.args.condition.now c.u32_at-fields.result c.u32_at-conjuncts.result))
ordered c =
    form-is c.args.condition.now c.u32_at-conjuncts.result c.u32_at-fields.result c.if-condition-lt-COUNTS_SIZE.false c.if-conjuncts-gt-MOST_CONJUNCTS.false c.if-fields-gt-MOST_FIELDS.false (chain (goal.at.In_ok-read_conjuncts c).Else-not-is_chained)
    (listed (goal.at.In_ok-read_conjuncts c).Else-not-all_right) (pairs c)

-- ---- the answers
pub returns-then-condition-lt-COUNTS_SIZE : goal.returns-then-condition-lt-COUNTS_SIZE
returns-then-condition-lt-COUNTS_SIZE c =
    let h : bytes_answer (Err WrongCondition) ≡ mapped (λ (C : Condition). c.args.condition.now) (read_condition c.args.condition.now) =
    let s = c.args.condition.now in
    refuses s _ _ refl refl (form-short s _ _ c.if-condition-lt-COUNTS_SIZE.true) in
    record { numbers = numbers_by_bytes c.args.condition.now (Err WrongCondition) h; bytes = h }

pub returns-then-conjuncts-gt-MOST_CONJUNCTS : goal.returns-then-conjuncts-gt-MOST_CONJUNCTS
returns-then-conjuncts-gt-MOST_CONJUNCTS c =
    let h : bytes_answer (Err WrongCondition) ≡ mapped (λ (C : Condition). c.args.condition.now) (read_condition c.args.condition.now) =
    not-read (goal.at.returns-then-conjuncts-gt-MOST_CONJUNCTS c).After-u32_at-fields (form-many c.args.condition.now c.u32_at-conjuncts.result c.u32_at-fields.result c.if-condition-lt-COUNTS_SIZE.false c.if-conjuncts-gt-MOST_CONJUNCTS.true) in
    record { numbers = numbers_by_bytes c.args.condition.now (Err WrongCondition) h; bytes = h }

pub returns-then-fields-gt-MOST_FIELDS : goal.returns-then-fields-gt-MOST_FIELDS
returns-then-fields-gt-MOST_FIELDS c =
    let h : bytes_answer (Err WrongCondition) ≡ mapped (λ (C : Condition). c.args.condition.now) (read_condition c.args.condition.now) =
    not-read (goal.at.returns-then-fields-gt-MOST_FIELDS c).After-u32_at-fields (form_wide c.args.condition.now c.u32_at-conjuncts.result c.u32_at-fields.result c.if-condition-lt-COUNTS_SIZE.false c.if-conjuncts-gt-MOST_CONJUNCTS.false c.if-fields-gt-MOST_FIELDS.true) in
    record { numbers = numbers_by_bytes c.args.condition.now (Err WrongCondition) h; bytes = h }

pub returns-then-condition-start : goal.returns-then-condition-start
returns-then-condition-start c =
    let h : bytes_answer (Err WrongCondition) ≡ mapped (λ (C : Condition). c.args.condition.now) (read_condition c.args.condition.now) =
    not-read (goal.at.returns-then-condition-start c).After-u32_at-fields (form_cut c.args.condition.now c.u32_at-conjuncts.result c.u32_at-fields.result c.if-condition-lt-COUNTS_SIZE.false c.if-conjuncts-gt-MOST_CONJUNCTS.false c.if-fields-gt-MOST_FIELDS.false
    c.if-condition-start.true) in
    record { numbers = numbers_by_bytes c.args.condition.now (Err WrongCondition) h; bytes = h }

pub returns-then-not-is_chained : goal.returns-then-not-is_chained
returns-then-not-is_chained c =
    let h : bytes_answer (Err WrongCondition) ≡ mapped (λ (C : Condition). c.args.condition.now) (read_condition c.args.condition.now) =
    let broken = sym c.is_chained.ensures ∙ c.if-not-is_chained.true in
    not-read (goal.at.returns-then-not-is_chained c).After-u32_at-fields (form_unchained c.args.condition.now c.u32_at-conjuncts.result c.u32_at-fields.result c.if-condition-lt-COUNTS_SIZE.false c.if-conjuncts-gt-MOST_CONJUNCTS.false
    c.if-fields-gt-MOST_FIELDS.false broken) in
    record { numbers = numbers_by_bytes c.args.condition.now (Err WrongCondition) h; bytes = h }

pub returns-then-not-all_right : goal.returns-then-not-all_right
returns-then-not-all_right c =
    let h : bytes_answer (Err WrongCondition) ≡ mapped (λ (C : Condition). c.args.condition.now) (read_condition c.args.condition.now) =
    let wrong = ap (every field_right) (sym (fields-taken c.args.condition.now c.u32_at-fields.result (room (goal.at.returns-then-not-all_right c).Else-condition-start))) ∙ sym c.all_right.ensures
    ∙ c.if-not-all_right.true in
    not-read (goal.at.returns-then-not-all_right c).After-u32_at-fields (form_unlisted c.args.condition.now c.u32_at-conjuncts.result c.u32_at-fields.result c.if-condition-lt-COUNTS_SIZE.false c.if-conjuncts-gt-MOST_CONJUNCTS.false c.if-fields-gt-MOST_FIELDS.false
    (chain (goal.at.returns-then-not-all_right c).Else-not-is_chained) wrong) in
    record { numbers = numbers_by_bytes c.args.condition.now (Err WrongCondition) h; bytes = h }

pub returns-in_err-read_conjuncts : goal.returns-in_err-read_conjuncts
returns-in_err-read_conjuncts c =
    let h : bytes_answer c.from_residual.result ≡ mapped (λ (C : Condition). c.args.condition.now) (read_condition c.args.condition.now) =
    let off = formed-false _ (number_of c.in_err-read_conjuncts.field-0.0) c.in_err-read_conjuncts.ensures in
    let p = err_from_is_err_and c.from_residual.result c.from_residual.ensures.1 in
    rw (p.1, p.2, off.1)
    (not-read (goal.at.returns-in_err-read_conjuncts c).After-u32_at-fields (form_wrong c.args.condition.now c.u32_at-conjuncts.result c.u32_at-fields.result c.if-condition-lt-COUNTS_SIZE.false c.if-conjuncts-gt-MOST_CONJUNCTS.false c.if-fields-gt-MOST_FIELDS.false
    (chain (goal.at.returns-in_err-read_conjuncts c).Else-not-is_chained) (listed (goal.at.returns-in_err-read_conjuncts c).Else-not-all_right) off.0)) in
    record { numbers = numbers_by_bytes c.args.condition.now c.from_residual.result h; bytes = h }

pub returns-then-not-is_rising : goal.returns-then-not-is_rising
returns-then-not-is_rising c =
    let h : bytes_answer (Err WrongCondition) ≡ mapped (λ (C : Condition). c.args.condition.now) (read_condition c.args.condition.now) =
    not-read (goal.at.returns-then-not-is_rising c).After-u32_at-fields (ordered (goal.at.returns-then-not-is_rising c).In_ok-read_conjuncts ∙ sym c.is_rising.ensures ∙ c.if-not-is_rising.true) in
    record { numbers = numbers_by_bytes c.args.condition.now (Err WrongCondition) h; bytes = h }

-- all tests pass
right : (c : Else-not-is_rising) → form_by c.args.condition.now c.u32_at-conjuncts.result c.u32_at-fields.result ≡ true
right c = ordered (goal.at.Else-not-is_rising c).In_ok-read_conjuncts ∙ sym c.is_rising.ensures ∙ c.if-not-is_rising.false

pub invariant_of-result : goal.invariant_of-result
invariant_of-result c =
    accepts-sizes c.args.condition.now c.u32_at-conjuncts.result c.u32_at-fields.result c.u32_at-conjuncts.ensures.0 c.u32_at-fields.ensures.0
    (right (goal.at.invariant_of-result c).Else-not-is_rising)

pub returns : goal.returns
returns c =
    let h : bytes_answer (Ok c.args.condition.now) ≡ mapped (λ (C : Condition). c.args.condition.now) (read_condition c.args.condition.now) =
    accepts c.args.condition.now c.u32_at-conjuncts.result c.u32_at-fields.result c.u32_at-conjuncts.ensures.0 c.u32_at-fields.ensures.0
    (right (goal.at.returns c).Else-not-is_rising) in
    record { numbers = numbers_by_bytes c.args.condition.now (Ok c.args.condition.now) h; bytes = h }
