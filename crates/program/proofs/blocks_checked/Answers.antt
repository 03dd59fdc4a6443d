-- `program::blocks_checked` meets its contract.
use Rattle.std.proofs.Common.{sym, ap, subst, ◌∙◌}
use Rattle.model.specs.Program.{items_of}
use Rattle.refusals.specs.declared.Refusal.TheVariants.{WrongBlocks}
use Rattle.program.specs.OpenBlocks.{NestingIs, BlocksMatch, is_plain}
use Rattle.program.specs.Reading.{tables_of}
use Rattle.program.proofs.Answers.{taken_of}
use Rattle.program.proofs.Listing.{parts-plain, right-plain}
use Rattle.program.proofs.blocks_checked.Goals as goal
use Rattle.program.proofs.blocks_checked.Goals.{In_ok-ok_or}

matched : (c : In_ok-ok_or) → BlocksMatch (tables_of c.args.program.now) (is_plain c.in_ok-ok_or.field-0)
matched c =
    subst (NestingIs (tables_of c.args.program.now)) (taken_of c.nesting_right-nested.result WrongBlocks c.in_ok-ok_or.field-0 c.in_ok-ok_or.ensures.value) c.nesting_right-nested.ensures

pub returns-in-Plain : goal.returns-in-Plain
returns-in-Plain c =
    let T = tables_of c.args.program.now in
    let match = matched (goal.at.returns-in-Plain c).In_ok-ok_or in
    let none = sym match.none ∙ ap is_plain c.in-Plain.is in
    rw (match.closed, parts-plain T none, right-plain (items_of T))
