-- `condition::is_rising` meets its contract.
use mathlib.Core.Path.{◌≡◌, sym, ◌∙◌, ap}
use Prim.Native.Nat.{◌+◌, ◌*◌, ◌<◌}
use native.Mathlib.Omega.{arith}
use Rattle.model.specs.Sizes.{field_size, counts_size}
use Rattle.model.specs.Bytes.{pair_at}
use Rattle.model.specs.Conjunct.{order}
use Rattle.condition.specs.Answers.{pair_place}
use Rattle.condition.proofs.Table.{table-inside, pair_inside, order_neighbours, rising_on, rising_off, rising-end}
use Rattle.model.specs.Condition.{is_before, conjunct_at}
use Rattle.condition.proofs.Passes.{pairs_all}
use Rattle.condition.proofs.is_rising.Goals as goal
use Rattle.condition.proofs.is_rising.Goals.{After-comes_before, In-loop-i}

-- the turn has a neighbour
more : (c : In-loop-i) → c.loop-i.i + 1 < c.args.count
more c = omega arith

-- the order of the two of a turn
ordered : (c : After-comes_before)
    → (let s = c.args.condition.now in
    let place = pair_place c.args.fields in
    is_before (order (conjunct_at s (pair_at s (place c.loop-i.i))) (conjunct_at s (pair_at s (place (c.loop-i.i + 1))))) ≡ c.comes_before.result)
ordered c =
    ap is_before (order_neighbours c.args.condition.now c.args.fields c.args.count c.requires.1 c.requires.2
    (λ i. omega (arith, c.type_inv.condition i)) c.loop-i.i (omega arith) _ _
    c.part_of-a.ensures c.part_of-b.ensures) ∙ sym c.comes_before.ensures

pub loop-i-init : goal.loop-i-init
loop-i-init c =
    let g = c.args in (
      table-inside g.condition.now g.fields g.count c.requires.1,
      rw (pairs_all g.condition.now (counts_size + field_size * g.fields) g.count),
    )

pub part_of-a-requires : goal.part_of-a-requires
part_of-a-requires c = record {
  few = omega arith;
  table = omega arith;
  pair = omega arith;
  inside = pair_inside c.args.condition.now c.args.fields c.args.count c.requires.1 c.loop-i.i (omega arith);
}

pub part_of-b-requires : goal.part_of-b-requires
part_of-b-requires c = record {
  few = omega arith;
  table = omega arith;
  pair = omega arith;
  inside = pair_inside c.args.condition.now c.args.fields c.args.count c.requires.1 (c.loop-i.i + 1) (omega arith);
}

pub returns-then-not-comes_before : goal.returns-then-not-comes_before
returns-then-not-comes_before c =
    sym (c.loop-i.invariant.1 ∙ rising_off c.args.condition.now (counts_size + field_size * c.args.fields) c.args.count c.loop-i.i
    (omega arith)
    (ordered (goal.at.returns-then-not-comes_before c).After-comes_before ∙ c.if-not-comes_before.true))

pub loop-i-preserved : goal.loop-i-preserved
loop-i-preserved c = (
  c.loop-i.invariant.0,
  c.loop-i.invariant.1 ∙ rising_on c.args.condition.now (counts_size + field_size * c.args.fields) c.args.count c.loop-i.i
      (omega arith)
      (ordered (goal.at.loop-i-preserved c).After-comes_before ∙ c.if-not-comes_before.false),
)

pub returns : goal.returns
returns c = sym (c.loop-i.invariant.1 ∙ rising-end _ _ _ _ (omega arith))
