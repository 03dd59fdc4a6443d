-- `analysis::repeats` meets its contract.
use mathlib.Core.Path.{sym, ap, ap₂, ◌∙◌}
use Rattle.model.specs.Code.{site, plain}
use Rattle.code_table.specs.Statements.{stmt_from}
use Rattle.analysis.proofs.Repeating.{site-row}
use Rattle.analysis.proofs.repeats.Goals as goal

pub returns-then-e-d-2 : goal.returns-then-e-d-2
returns-then-e-d-2 c =
    let same = c.if-e-d-2.true in
    λ e.
    record {
      earlier = c.if-i-j.false;
      is-site = ap stmt_from (sym c.fetch-e.ensures) ∙ site-row c.fetch-e.result same.0 ∙ ap₂ (λ a ty. plain (site a ty)) same.1 same.2;
      kept = c.keep_all.ensures e;
    }
