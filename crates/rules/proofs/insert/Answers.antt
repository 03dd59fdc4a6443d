-- `rules::insert` meets its contract.
use Rattle.conjunct.specs.Value.{conj_of}
use Rattle.rules.proofs.Additions.{added_in, added_out}
use Rattle.rules.proofs.insert.Goals as goal

pub returns-then-insert : goal.returns-then-insert
returns-then-insert c =
    let a = c.args in
    (added_in (conj_of a.e.now a.n) a.room a.s.now c.insert.new.s c.insert.result c.if-insert.true c.insert.ensures.0, c.insert.ensures.1)

pub returns : goal.returns
returns c =
    let a = c.args in
    (added_out (conj_of a.e.now a.n) a.room a.s.now c.insert.new.s c.insert.result c.if-insert.false c.requires.0.canon c.insert.ensures.0, c.insert.ensures.1)
