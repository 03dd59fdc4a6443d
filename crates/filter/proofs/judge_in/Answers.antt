-- `filter::judge_in` meets its contract.
use mathlib.Core.Path.{subst}
use Rattle.condition.specs.Answers.{fields_of}
use Rattle.plan.specs.Readings.{Decoded}
use Rattle.filter.specs.Decoding.{input_in}
use Rattle.filter.proofs.judge_in.Goals as goal

pub decode-requires : goal.decode-requires
decode-requires c =
    (record { typed = c.requires.of.typed; magnitudes = c.requires.magnitudes; signs = c.requires.signs }, c.requires.counts-long)

pub returns : goal.returns
returns c =
    let l = c.decode.new in
    c.judge.ensures (input_in (fields_of c.args.condition.now) c.args.input.now.bytes)
    (subst (λ fs. Decoded (input_in fs c.args.input.now.bytes) l.counts l.mags l.negs) c.requires.of.same c.decode.ensures.1)
