-- `program::nesting::open_block` meets its contract.
use mathlib.Core.Path.{◌≡◌, sym, ◌∙◌}
use Prim.Native.Nat.{◌*◌, ◌+◌, ◌<◌}
use native.Mathlib.Omega.{arith}
use borrow.Author.Tests.{lt-ltb, ltb-true}
use Rattle.model.specs.Procedures.{nesting}
use Rattle.model.specs.Sizes.{most_nested}
use Rattle.program.specs.OpenBlocks.{in_procedures, blocks_in, blocks_of}
use Rattle.program.specs.declared.nesting.Open.{Open}
use Rattle.program.proofs.nesting.Words.{word_room, word_more, nesting-procedures, nesting-blocks, blocks_more}
use Rattle.program.proofs.nesting.open_block.Goals as goal
use Rattle.program.proofs.nesting.open_block.Goals.{Else-not-has_room}

counted : (o : Open) → nesting (blocks_of o) ≡ o.nested
counted o = nesting-procedures o.inner (blocks_in o.nested o.word) ∙ nesting-blocks o.nested o.word

-- one more may be open
fewer : (c : Else-not-has_room) → c.args.blocks.nested < most_nested
fewer c = ltb-true _ most_nested (sym c.has_room.ensures ∙ c.if-not-has_room.false)

room : (c : Else-not-has_room) → c.args.blocks.word < 0x10_0000_0000
room c = word_room c.args.blocks.nested c.args.blocks.word (fewer c) c.requires.packed.small

pub returns-then-not-has_room : goal.returns-then-not-has_room
returns-then-not-has_room c =
    (rw (counted c.args.blocks, sym c.has_room.ensures ∙ c.if-not-has_room.true), tt)

pub overflow_mul-result : goal.overflow_mul-result
overflow_mul-result c = omega (arith, room c)

pub overflow_add-result-3 : goal.overflow_add-result-3
overflow_add-result-3 c = omega (arith, room c)

pub returns : goal.returns
unfolding in_procedures
returns c =
    let o = c.args.blocks in
    let k = c.args.code in
    let more = blocks_more o.nested o.word k o.inner c.requires.known c.requires.inner in (
      rw (counted o, lt-ltb o.nested most_nested (fewer c), more),
      record {
        few = omega (arith, fewer c);
        small = word_more o.nested o.word (o.inner * 4 + k) (fewer c) c.requires.packed.small (omega arith);
      },
    )
