-- `analysis::pass` meets its contract.
use mathlib.Core.Path.{◌≡◌, refl, sym, ap, subst, ◌∙◌}
use Rattle.code_table.specs.Statements.{Known}
use Rattle.code_table.specs.Table.{table_of, row_in}
use Rattle.code_table.specs.declared.Decoded.{Decoded}
use Rattle.sets.specs.Region.{set_of}
use Rattle.analysis.specs.Deriving.{union_at}
use Rattle.analysis.specs.Joining.{Sited}
use Rattle.analysis.proofs.Passing.{site_leads, pass_site, pass_repeated, pass_other}
use Rattle.analysis.proofs.pass.Goals as goal
use Rattle.analysis.proofs.pass.Goals.{After-fetch-d}

is-site : (c : After-fetch-d) → c.fetch-d.result.kind ≡ 10 → (row_in (table_of 0 c.args.s.now) c.args.i).kind ≡ 10
is-site c e = sym (ap (λ (r : Decoded). r.kind) c.fetch-d.ensures) ∙ e

-- the row is one of the program
known : (c : After-fetch-d) → Known c.fetch-d.result
known c = subst Known (sym c.fetch-d.ensures) (c.requires.0.known.known c.args.i c.requires.0.inside)

pub returns-then-kind-ne10 : goal.returns-then-kind-ne10
returns-then-kind-ne10 c =
    record {
      does = λ m l.
          pass_other (table_of 0 c.args.s.now) m c.args.i l (set_of c.args.s.now union_at) (λ e. c.if-kind-ne10.true (ap (λ (r : Decoded). r.kind) c.fetch-d.ensures ∙ e));
      tidy = λ e. c.requires.0.words.tidy;
      below = λ x h. refl;
    }

pub returns-then-repeats : goal.returns-then-repeats
returns-then-repeats c =
    let k = table_of 0 c.args.s.now in
    let R = set_of c.args.s.now union_at in
    record {
      does = λ m l.
          pass_repeated k m c.args.i l R (is-site (goal.at.returns-then-repeats c).After-fetch-d c.if-kind-ne10.false) c.fetch-d.result c.fetch-d.ensures
          (c.repeats.ensures c.if-repeats.true) c.requires.0.words.tidy;
      tidy = λ e. c.requires.0.words.tidy;
      below = λ x h. refl;
    }

pub site-requires : goal.site-requires
site-requires c =
    let label = c.requires.0 in
    record {
      words = label.words;
      variable = (known (goal.at.site-requires c).After-fetch-d).a;
      type = (known (goal.at.site-requires c).After-fetch-d).ty;
      statements = label.statements;
      enclosed =
          site_leads (table_of 0 c.args.s.now) label.statements c.args.i label.inside (set_of c.args.s.now union_at)
          (is-site (goal.at.site-requires c).After-fetch-d c.if-kind-ne10.false) label.known label.results label.sites;
    }

pub returns : goal.returns
returns c =
    let k = table_of 0 c.args.s.now in
    let R = set_of c.args.s.now union_at in
    let Q = set_of c.site.new.s union_at in
    record {
      does = λ m l.
          pass_site k m c.args.i l R (is-site (goal.at.returns c).After-fetch-d c.if-kind-ne10.false) c.site.result Q
          (subst (λ (d : Decoded). Sited k m c.args.i d.a d.ty R c.site.result Q) c.fetch-d.ensures (c.site.ensures.does m));
      tidy = c.site.ensures.tidy;
      below = c.site.ensures.below;
    }
