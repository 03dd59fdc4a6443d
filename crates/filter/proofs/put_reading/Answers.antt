-- `filter::put_reading` meets its contract.
use mathlib.Core.Path.{◌∙◌}
use native.Mathlib.Omega.{arith}
use Rattle.plan.proofs.Inputs.{signed_same, signed-other}
use Rattle.filter.proofs.put_reading.Goals as goal

pub returns : goal.returns
returns c = λ ty row.
    let a = c.args in
    let z = c.reading_by_row-z.result in (
      signed_same a.mags.now a.negs.now a.at z.mag z.neg (omega arith) (omega arith) ∙ c.reading_by_row-z.ensures ty row,
      signed-other a.mags.now a.negs.now a.at z.mag z.neg,
    )
