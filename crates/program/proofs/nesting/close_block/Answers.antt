-- `program::nesting::close_block` meets its contract.
use Prim.Native.Nat.{◌≤◌}
use native.Mathlib.Omega.{arith}
use Rattle.program.specs.OpenBlocks.{in_procedures, blocks_in}
use Rattle.program.proofs.nesting.Words.{word_less, closes_procedure, closes_no_if, closes_other}
use Rattle.program.proofs.nesting.close_block.Goals as goal
use Rattle.program.proofs.nesting.close_block.Goals.{then-nested-eq0-via-then-nested-eq0, then-nested-eq0-via-else-nested-eq0+then-word-eq-IF_CODE}

pub returns-then-inner-ne0 : goal.returns-then-inner-ne0
returns-then-inner-ne0 c =
    let o = c.args.blocks in
    (rw (closes_procedure o.inner (blocks_in o.nested o.word) (omega (arith, c.if-inner-ne0.true))), record { few = c.requires.few; small = c.requires.small })

pub returns-then-nested-eq0 : goal.returns-then-nested-eq0
unfolding in_procedures blocks_in
returns-then-nested-eq0 c =
    let o = c.args.blocks in
    elim c.then-nested-eq0.branch [
      | then-nested-eq0-via-then-nested-eq0 w ↦ (rw (c.if-inner-ne0.false, w.if-nested-eq0.true), tt)
      | then-nested-eq0-via-else-nested-eq0+then-word-eq-IF_CODE w ↦
          (rw (c.if-inner-ne0.false, closes_no_if o.nested o.word (omega (arith, w.if-nested-eq0.false)) w.if-word-eq-IF_CODE.true), tt)
    ]

pub returns : goal.returns
unfolding in_procedures
returns c =
    let o = c.args.blocks in
    let some : 1 ≤ o.nested = omega (arith, c.if-nested-eq0.false) in (
      rw (c.if-inner-ne0.false, closes_other o.nested o.word some c.if-word-eq-IF_CODE.false),
      record { few = omega (arith, c.requires.few); small = word_less o.nested o.word some c.requires.few c.requires.small },
    )
