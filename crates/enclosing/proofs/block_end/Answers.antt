-- `enclosing::block_end` meets its contract.
use mathlib.Core.Path.{sym, ap, ◌∙◌}
use Rattle.code_table.specs.Table.{table_of, row_in, mates}
use Rattle.enclosing.proofs.Ends.{if-ends, while-ends, none-ends}
use Rattle.enclosing.proofs.block_end.Goals as goal

pub returns-in-11 : goal.returns-in-11
returns-in-11 c =
    let a = c.args in
    let kind = sym c.kind_at-kind.ensures ∙ c.in-11.is in
    c.mate.ensures ∙ ap (mates a.s.now) c.mate-other.ensures ∙ sym (if-ends (row_in (table_of 0 a.s.now) a.at) (mates a.s.now) a.at kind)

pub returns-in-14 : goal.returns-in-14
returns-in-14 c =
    let a = c.args in
    let kind = sym c.kind_at-kind.ensures ∙ c.in-14.is in
    c.mate-in-14.ensures ∙ sym (while-ends (row_in (table_of 0 a.s.now) a.at) (mates a.s.now) a.at kind)

pub returns-in_default : goal.returns-in_default
returns-in_default c =
    let a = c.args in
    let kind = c.kind_at-kind.ensures in
    sym (none-ends (row_in (table_of 0 a.s.now) a.at) (mates a.s.now) a.at (λ e. c.in_default.in_default-own.rest.0.1 (kind ∙ e)) (λ e. c.in_default.in_default-own.rest.1 (kind ∙ e)))
