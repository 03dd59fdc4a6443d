-- `filter::judge` meets its contract: what the numbers of combinations tell decides, or lets the evaluations decide.
use mathlib.Core.Path.{◌≡◌, sym, ap, ◌∙◌}
use Rattle.std.proofs.lemmas.Result.{err_from_is_err_and}
use Rattle.std.specs.Prelude.{Result}
use Rattle.model.specs.Refusals.{ok}
use Rattle.model.specs.Input.{Input}
use Rattle.arith.specs.declared.Cause.{Cause}
use Rattle.condition.specs.Answers.{conjuncts_of}
use Rattle.plan.specs.Readings.{Decoded}
use Rattle.refusals.specs.Answers.{number_of}
use Rattle.evaluator.specs.Answer.{answer_of}
use Rattle.filter.specs.Verdict.{judged}
use Rattle.filter.proofs.Verdicts.{judged-refused, judged-within, within-full, none-blank}
use Rattle.filter.proofs.judge.Goals as goal
use Rattle.filter.proofs.judge.Goals.{After-try_all}

pub returns-in_err-products : goal.returns-in_err-products
returns-in_err-products c = λ I d.
    let p = err_from_is_err_and c.from_residual.result c.from_residual.ensures.1 in
    rw (p.1, p.2) (judged-refused I (conjuncts_of c.args.condition.now) (number_of c.in_err-products.field-0.0) (c.in_err-products.ensures I d.number))

pub try_all-requires : goal.try_all-requires
try_all-requires c =
    let S = conjuncts_of c.args.condition.now in
    record {
      lent = c.requires;
      none-blank = none-blank c.args.counts.now S (λ I n. within-full I S (c.in_ok-products.ensures I n));
    }

-- the verdict by the evaluations' answer r
evaluated : (c : After-try_all) (r : Result (Unit {0}) Cause) → c.try_all.result ≡ r → (I : Input)
    → Decoded I c.args.counts.now c.args.mags.now
    c.args.negs.now
    → ok (answer_of r) ≡ judged I (conjuncts_of c.args.condition.now)
evaluated c r e I d =
    judged-within I (conjuncts_of c.args.condition.now) (c.in_ok-products.ensures I d.number) (answer_of r)
    (sym (ap answer_of e) ∙ c.try_all.ensures I d)

pub returns-in-Ok : goal.returns-in-Ok
returns-in-Ok c = λ I d. evaluated (goal.at.returns-in-Ok c).After-try_all _ c.in-Ok.is I d

pub returns-in-Err : goal.returns-in-Err
returns-in-Err c = λ I d. evaluated (goal.at.returns-in-Err c).After-try_all _ c.in-Err.is I d
