-- `program::nesting::open_procedure` meets its contract.
use Rattle.program.specs.OpenBlocks.{blocks_in}
use Rattle.program.proofs.nesting.Words.{procedure_more}
use Rattle.program.proofs.nesting.open_procedure.Goals as goal

pub returns : goal.returns
returns c =
    let o = c.args.blocks in
    (rw (procedure_more o.inner (blocks_in o.nested o.word)), record { few = c.requires.0.few; small = c.requires.0.small })
