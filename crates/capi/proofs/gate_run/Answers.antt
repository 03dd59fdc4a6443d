-- `capi::gate_run` meets its contract.
use mathlib.Core.Path.{◌≡◌, sym, ap, subst, ◌∙◌}
use Prim.Native.Nat.{ℕ}
use native.Mathlib.Omega.{arith}
use lib.ListN.{length}
use Rattle.analysis.specs.Deriving.{analysis_words}
use Rattle.interpreter.specs.Answers.{run_lent, Interprets}
use Rattle.capi.specs.Words.{GateRun}
use Rattle.capi.proofs.Leaving.{ran_word, ran_steps, ran_records, ran-left, run_enough}
use Rattle.capi.proofs.gate_run.Goals as goal
use Rattle.capi.proofs.gate_run.Goals.{After-run}

-- the word of a run, with the numbers of steps and records
left : (c : After-run) (w n k : ℕ)
    → let a = c.args in
    w ≡ ran_word c.run.result → n ≡ ran_steps c.run.result a.steps.now → k ≡ ran_records c.run.result a.records.now
    → GateRun (run_lent analysis_words (length a.scratch.now) a.recipe.now a.sheet.now a.limit a.choices.now a.log.now) w a.log.now
    c.run.new.log a.scratch.now c.run.new.scratch a.steps.now n a.records.now k
left c w n k e steps records =
    let a = c.args in
    let s = a.scratch.now in
    let log' = c.run.new.log in
    let s' = c.run.new.scratch in
    let o = run_lent analysis_words (length s) a.recipe.now a.sheet.now a.limit a.choices.now a.log.now in
    let enough = run_enough (length s) a.recipe.now a.sheet.now a.limit a.choices.now a.log.now (omega (arith, c.if-scratch-lt-SCRATCH.false)) in
    ran-left o c.run.result a.log.now log' s s' w a.steps.now n a.records.now k
    (subst (λ x. Interprets x c.run.result a.log.now log' s s') enough c.run.ensures) e steps records

pub returns-in-Err : goal.returns-in-Err
returns-in-Err c =
    let told = c.in-Err.is in
    let a = c.args in
    left (goal.at.returns-in-Err c).After-run c.refusal-in-Err.result a.steps.now a.records.now (c.refusal-in-Err.ensures ∙ sym (ap ran_word told))
    (sym (ap (λ r. ran_steps r a.steps.now) told)) (sym (ap (λ r. ran_records r a.records.now) told))

pub returns-in-Ok : goal.returns-in-Ok
returns-in-Ok c =
    let told = c.in-Ok.is in
    let a = c.args in
    left (goal.at.returns-in-Ok c).After-run _ c.in-Ok.ran.steps c.in-Ok.ran.records (c.from-in-Ok.ensures ∙ c.from.ensures ∙ sym (ap ran_word told)) (sym (ap (λ r. ran_steps r a.steps.now) told))
    (sym (ap (λ r. ran_records r a.records.now) told))
