-- `capi::gate_convert` meets its contract.
use mathlib.Core.Path.{◌≡◌, sym, ap, subst, ◌∙◌}
use Prim.Native.Nat.{ℕ}
use native.Mathlib.Omega.{arith}
use lib.ListN.{length}
use Rattle.analysis.specs.Deriving.{analysis_words}
use Rattle.widening.specs.Converting.{conversion, Converts}
use Rattle.capi.specs.Words.{GateConvert}
use Rattle.capi.proofs.Leaving.{length_word, converted-left, convert-short, convert_enough}
use Rattle.capi.proofs.gate_convert.Goals as goal
use Rattle.capi.proofs.gate_convert.Goals.{After-convert}

-- the word of what was converted
left : (c : After-convert) (w : ℕ) → w ≡ length_word c.convert.result
    → let a = c.args in
    GateConvert (conversion analysis_words (length a.recipe.now) (length a.scratch.now) a.old.now) w a.recipe.now c.convert.new.output
    a.scratch.now c.convert.new.scratch
left c w e =
    let a = c.args in
    let o = conversion analysis_words (length a.recipe.now) (length a.scratch.now) a.old.now in
    let enough = convert_enough (length a.recipe.now) (length a.scratch.now) a.old.now (omega (arith, c.if-scratch-lt-SCRATCH.false)) in
    converted-left o c.convert.result a.recipe.now c.convert.new.output a.scratch.now c.convert.new.scratch w
    (subst (λ x. Converts x c.convert.result a.recipe.now c.convert.new.output a.scratch.now c.convert.new.scratch) enough c.convert.ensures)
    e

pub returns-then-scratch-lt-SCRATCH : goal.returns-then-scratch-lt-SCRATCH
returns-then-scratch-lt-SCRATCH c =
    let a = c.args in
    convert-short (length a.recipe.now) (length a.scratch.now) a.old.now a.recipe.now a.scratch.now c.refusal.result
    c.if-scratch-lt-SCRATCH.true c.refusal.ensures

pub returns-in-Err : goal.returns-in-Err
returns-in-Err c =
    let told = c.in-Err.is in
    left (goal.at.returns-in-Err c).After-convert c.refusal-in-Err.result (c.refusal-in-Err.ensures ∙ sym (ap length_word told))

pub returns-in-Ok : goal.returns-in-Ok
returns-in-Ok c = left (goal.at.returns-in-Ok c).After-convert c.in-Ok.converted (sym (ap length_word c.in-Ok.is))
