-- `walk::join_start` meets its contract.
use mathlib.Core.Path.{sym, ◌∙◌}
use Rattle.walk.proofs.Closings.{start-refused, start-settled, start-again}
use Rattle.std.proofs.lemmas.Result.{err_from_is_err_and}
use Rattle.walk.proofs.join_start.Goals as goal

pub returns-in_err-unite : goal.returns-in_err-unite
returns-in_err-unite c =
    let gone = err_from_is_err_and c.from_residual.result c.from_residual.ensures.1 in
    rw (gone.1, gone.2)
    (start-refused c.args.s.now c.unite.new.s c.args.b c.requires.room c.unite.auto.s c.unite.ensures.1 c.in_err-unite.field-0.0 c.in_err-unite.ensures.0)

pub returns-then-settled : goal.returns-then-settled
returns-then-settled c =
    start-settled c.args.s.now c.unite.new.s c.args.b c.requires.room c.unite.auto.s c.unite.ensures.1 c.in_ok-unite.ensures.0 c.copy.new.s c.copy.auto.s
    c.copy.ensures.0 c.copy.ensures.1 (sym c.equal-settled.ensures ∙ c.if-settled.true)

pub returns : goal.returns
returns c =
    start-again c.args.s.now c.unite.new.s c.args.b c.requires.room c.unite.auto.s c.unite.ensures.1 c.in_ok-unite.ensures.0 c.copy.new.s c.copy.auto.s
    c.copy.ensures.0 c.copy.ensures.1 (sym c.equal-settled.ensures ∙ c.if-settled.false)
