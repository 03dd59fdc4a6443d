-- `input::first_wrong` meets its contract: every pair that was looked at is right.
use Prim.Native.Nat.{◌*◌}
use mathlib.Core.Path.{subst}
use native.Mathlib.Omega.{arith}
use Rattle.model.specs.Fields.{types_in, fields_in}
use Rattle.model.proofs.Files.FieldTables.{types-length}
use Rattle.input.proofs.Search.{RightSoFar, short-first, right-start, right-more, by_type, all-right}
use Rattle.input.proofs.first_wrong.Goals as goal

pub returns-then-input-count : goal.returns-then-input-count
returns-then-input-count c =
    let g = c.args in
    short-first (types_in (fields_in g.fields.now)) g.input.now (omega (arith, types-length g.fields.now, c.if-input-count.true))

pub loop-f-init : goal.loop-f-init
loop-f-init c =
    let g = c.args in
    (subst (λ n. RightSoFar (types_in (fields_in g.fields.now)) g.input.now 0 (8 * n)) (types-length g.fields.now) (right-start _ _), omega arith)

pub loop-f-preserved : goal.loop-f-preserved
loop-f-preserved c =
    let g = c.args in
    let l = c.loop-f in (
      right-more (types_in (fields_in g.fields.now)) g.input.now l.f l.next l.invariant.0 c.in-Some.end
          (by_type g.fields.now g.input.now l.f l.next _ _ c.in-Some.is (omega arith) c.part_end.ensures),
      l.invariant.1,
    )

pub returns : goal.returns
returns c =
    let g = c.args in
    let l = c.loop-f in
    all-right (types_in (fields_in g.fields.now)) g.input.now l.f l.next l.invariant.0 (omega (arith, types-length g.fields.now))
