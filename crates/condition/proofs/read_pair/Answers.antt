-- `condition::read_pair` meets its contract.
use mathlib.Core.Path.{ap, ◌∙◌}
use Rattle.model.specs.Bytes.{pair_at}
use Rattle.condition.specs.Answers.{formed, types_at, pair_place}
use Rattle.condition.proofs.Nodes.{some}
use Rattle.condition.proofs.Table.{pair-empty, pair-long, pair_broken, pair-part, fields-taken}
use Rattle.condition.proofs.read_pair.Goals as goal
use Rattle.condition.proofs.read_pair.Goals.{After-part_of-held}

pub returns-then-len-eq0 : goal.returns-then-len-eq0
returns-then-len-eq0 c =
    rw (pair-empty (types_at c.args.condition.now c.args.fields) c.args.condition.now (pair_at c.args.condition.now (pair_place c.args.fields c.args.i)) c.requires.inside c.part_of-held.result.now c.part_of-held.ensures c.if-len-eq0.true)

pub returns-then-len-gt-LONGEST_PART : goal.returns-then-len-gt-LONGEST_PART
returns-then-len-gt-LONGEST_PART c =
    rw (pair-long (types_at c.args.condition.now c.args.fields) c.args.condition.now (pair_at c.args.condition.now (pair_place c.args.fields c.args.i)) c.requires.inside c.part_of-held.result.now c.part_of-held.ensures c.if-len-eq0.false
    c.if-len-gt-LONGEST_PART.true)

pub returns-then-len-ne0 : goal.returns-then-len-ne0
returns-then-len-ne0 c =
    rw (pair_broken (types_at c.args.condition.now c.args.fields) c.args.condition.now (pair_at c.args.condition.now (pair_place c.args.fields c.args.i)) c.requires.inside c.part_of-held.result.now c.part_of-held.ensures
    (some _ c.if-len-eq0.false) c.if-len-gt-LONGEST_PART.false c.if-len-ne0.true)

pub returns : goal.returns
returns c =
    c.read_conjunct.ensures
    ∙ rw (fields-taken c.args.condition.now c.args.fields c.requires.table)
    (ap formed (pair-part (types_at c.args.condition.now c.args.fields) c.args.condition.now (pair_at c.args.condition.now (pair_place c.args.fields c.args.i)) c.requires.inside c.part_of-held.result.now c.part_of-held.ensures
    (some _ c.if-len-eq0.false) c.if-len-gt-LONGEST_PART.false c.if-len-ne0.false))
