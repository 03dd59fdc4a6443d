-- `analysis::site` meets its contract.
use mathlib.Core.Path.{◌≡◌, sym, subst}
use Prim.Native.Nat.{ℕ}
use native.Mathlib.Omega.{arith}
use Rattle.model.specs.TidySets.{Tidy}
use Rattle.code_table.specs.Table.{table_of}
use Rattle.conjunct.specs.Word.{node_of}
use Rattle.sets.specs.Region.{set_of}
use Rattle.walk.proofs.Regions.{within-below, below-table, below_trans}
use Rattle.enclosing.specs.Enclosing.{Enclosed, WalksOut}
use Rattle.analysis.specs.Deriving.{union_at, site_at}
use Rattle.analysis.proofs.OneSite.{region-tidy, union_stays, site-below, sited_refused, sited_done}
use Rattle.std.proofs.lemmas.Result.{err_from_is_err_and}
use Rattle.analysis.proofs.site.Goals as goal
use Rattle.analysis.proofs.site.Goals.{After-single, After-walk_out}

-- the table is as it was behind the first set
single-table : (c : After-single) → table_of 0 c.single.new.s ≡ table_of 0 c.args.s.now
single-table c =
    below-table site_at c.args.s.now c.single.new.s (omega arith) (omega (arith, c.requires.words.room)) c.single.auto.s
    (within-below site_at site_at c.args.s.now c.single.new.s (omega arith) c.single.ensures.1)

-- the walk, by the table that there was at first
site_walks : (c : After-walk_out) (n : ℕ) → let g = c.args in
    WalksOut (table_of 0 g.s.now) n g.i (set_of c.single.new.s site_at) c.walk_out.result (set_of c.walk_out.new.s site_at)
site_walks c n =
    subst (λ k. WalksOut k n c.args.i (set_of c.single.new.s site_at) c.walk_out.result (set_of c.walk_out.new.s site_at))
    (single-table (goal.at.After-walk_out c).After-single) (c.walk_out.ensures.0 n)

pub walk_out-requires : goal.walk_out-requires
walk_out-requires c = (
  record {
    behind = omega arith;
    room = omega (arith, c.requires.words.room, c.single.auto.s);
    tidy = region-tidy c.args.x c.args.ty (node_of c.variable-w.result) c.single.new.s c.variable-w.ensures c.single.ensures.0;
  },
  (c.requires.statements, subst (λ k. Enclosed k c.requires.statements c.args.i) (sym (single-table (goal.at.walk_out-requires c).After-single)) c.requires.enclosed),
)

pub join_next-requires : goal.join_next-requires
join_next-requires c =
    let same =
    union_stays (table_of 0 c.args.s.now) c.args.i c.args.x c.args.ty (node_of c.variable-w.result) c.args.s.now c.single.new.s c.walk_out.new.s c.walk_out.result
    c.requires.words.room c.variable-w.ensures c.single.ensures.0 c.single.auto.s c.single.ensures.1 c.walk_out.auto.s c.walk_out.ensures.1 (site_walks (goal.at.join_next-requires c).After-walk_out) in
    (omega (arith, c.requires.words.room, c.single.auto.s, c.walk_out.auto.s), subst Tidy (sym same) c.requires.words.tidy)

pub returns-in_err-walk_out : goal.returns-in_err-walk_out
returns-in_err-walk_out c =
    let gone = err_from_is_err_and c.from_residual.result c.from_residual.ensures.1 in
    rw (gone.1, gone.2) record {
      does =
          sited_refused (table_of 0 c.args.s.now) c.args.i c.args.x c.args.ty (node_of c.variable-w.result) c.args.s.now c.single.new.s c.walk_out.new.s c.walk_out.result
          c.requires.words.room c.variable-w.ensures c.single.ensures.0 c.single.auto.s c.single.ensures.1 c.walk_out.auto.s c.walk_out.ensures.1 (site_walks (goal.at.returns-in_err-walk_out c).After-walk_out)
          _ c.in_err-walk_out.was (set_of c.walk_out.new.s union_at);
      tidy = λ e. cc;
      below =
          site-below (table_of 0 c.args.s.now) c.args.i c.args.x c.args.ty (node_of c.variable-w.result) c.args.s.now c.single.new.s c.walk_out.new.s c.walk_out.result
          c.requires.words.room c.variable-w.ensures c.single.ensures.0 c.single.auto.s c.single.ensures.1 c.walk_out.auto.s c.walk_out.ensures.1 (site_walks (goal.at.returns-in_err-walk_out c).After-walk_out);
    }

pub returns : goal.returns
returns c =
    record {
      does =
          sited_done (table_of 0 c.args.s.now) c.args.i c.args.x c.args.ty (node_of c.variable-w.result) c.args.s.now c.single.new.s c.walk_out.new.s c.walk_out.result
          c.requires.words.room c.variable-w.ensures c.single.ensures.0 c.single.auto.s c.single.ensures.1 c.walk_out.auto.s c.walk_out.ensures.1 (site_walks (goal.at.returns c).After-walk_out)
          c.in_ok-walk_out.was c.join_next.result (set_of c.join_next.new.s union_at) c.join_next.ensures.does;
      tidy = c.join_next.ensures.tidy;
      below =
          below_trans union_at c.args.s.now c.walk_out.new.s c.join_next.new.s
          (site-below (table_of 0 c.args.s.now) c.args.i c.args.x c.args.ty (node_of c.variable-w.result) c.args.s.now c.single.new.s c.walk_out.new.s c.walk_out.result
          c.requires.words.room c.variable-w.ensures c.single.ensures.0 c.single.auto.s c.single.ensures.1 c.walk_out.auto.s c.walk_out.ensures.1 (site_walks (goal.at.returns c).After-walk_out)) c.join_next.ensures.below;
    }
