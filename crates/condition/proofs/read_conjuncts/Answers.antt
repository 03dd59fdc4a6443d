-- `condition::read_conjuncts` meets its contract. The invariant: the pairs before i are right.
use mathlib.Core.Path.{◌∙◌}
use Prim.Native.Nat.{◌+◌, ◌*◌}
use native.Mathlib.Omega.{arith}
use Rattle.std.proofs.lemmas.Result.{err_from_is_err_and}
use Rattle.model.specs.Sizes.{field_size, counts_size}
use Rattle.refusals.specs.Answers.{number_of}
use Rattle.condition.proofs.Passes.{pairs_all, formed-true, formed-false}
use Rattle.condition.proofs.Table.{table-inside, pair_inside, pairs_on, pairs_off, pairs_end}
use Rattle.condition.proofs.read_conjuncts.Invariants.{test}
use Rattle.condition.proofs.read_conjuncts.Goals as goal

pub loop-i-init : goal.loop-i-init
loop-i-init c =
    let g = c.args in (
      table-inside g.condition.now g.fields g.count c.requires.1,
      rw (pairs_all g.condition.now (counts_size + field_size * g.fields) g.count),
    )

pub read_pair-requires : goal.read_pair-requires
read_pair-requires c =
    record {
      few = omega arith;
      table = omega arith;
      pair = omega arith;
      inside = pair_inside c.args.condition.now c.args.fields c.args.count c.requires.1 c.loop-i.i c.loop-i-test.true;
    }

pub returns-in_err-read_pair : goal.returns-in_err-read_pair
returns-in_err-read_pair c =
    let g = c.args in
    let off = formed-false _ (number_of c.in_err-read_pair.field-0.0) c.in_err-read_pair.ensures in
    let p = err_from_is_err_and c.from_residual.result c.from_residual.ensures.1 in
    let none = pairs_off (test g.condition.now g.fields) g.condition.now (counts_size + field_size * g.fields) g.count c.loop-i.i
    c.loop-i-test.true off.0 in
    rw (p.1, p.2, c.loop-i.invariant.1 ∙ none, off.1)

pub loop-i-preserved : goal.loop-i-preserved
loop-i-preserved c =
    let g = c.args in
    let more = pairs_on (test g.condition.now g.fields) g.condition.now (counts_size + field_size * g.fields) g.count c.loop-i.i
    c.loop-i-test.true (formed-true _ c.in_ok-read_pair.ensures) in
    (c.loop-i.invariant.0, c.loop-i.invariant.1 ∙ more)

pub returns : goal.returns
returns c = rw (c.loop-i.invariant.1 ∙ pairs_end _ _ _ _ _ (omega arith))
