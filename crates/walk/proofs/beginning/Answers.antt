-- `walk::beginning` meets its contract.
use mathlib.Core.Path.{sym, subst, ◌∙◌}
use Prim.Native.Nat.{◌≤◌, ◌<◌}
use Rattle.code_table.specs.Table.{table_of, row_in, mates}
use Rattle.walk.proofs.ByKind.{first_below, first-from}
use Rattle.walk.proofs.beginning.Goals as goal

pub returns-then-kind_at-lt11 : goal.returns-then-kind_at-lt11
returns-then-kind_at-lt11 c =
    let a = c.args in
    sym (first_below (row_in (table_of 0 a.s.now) a.i) (mates a.s.now) a.i (subst (◌< 11) c.kind_at.ensures c.if-kind_at-lt11.true))

pub returns : goal.returns
returns c =
    let a = c.args in
    c.mate.ensures ∙ sym (first-from (row_in (table_of 0 a.s.now) a.i) (mates a.s.now) a.i (subst (11 ≤◌) c.kind_at.ensures c.if-kind_at-lt11.false))
