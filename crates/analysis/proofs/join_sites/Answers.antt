-- `analysis::join_sites` meets its contract. The invariant: the sites before the label are joined.
use mathlib.Core.Path.{◌≡◌, refl, subst, sym, ◌∙◌}
use native.Mathlib.Omega.{arith}
use Rattle.code_table.specs.Table.{table_of, KnownBelow}
use Rattle.sets.specs.Region.{set_of}
use Rattle.walk.proofs.Regions.{within-below, below-table, lies_on}
use Rattle.analysis.specs.Deriving.{union_at}
use Rattle.analysis.specs.Joining.{SitesFrom}
use Rattle.analysis.proofs.Passing.{empty-tidy, left-all, left-none, passed-refused, passed-next}
use Rattle.std.proofs.lemmas.Result.{err_from_is_err_and}
use Rattle.analysis.proofs.join_sites.Goals as goal
use Rattle.analysis.proofs.join_sites.Goals.{After-clear}

-- the table is as it was
clear_table : (c : After-clear) → table_of 0 c.clear.new.s ≡ table_of 0 c.args.s.now
clear_table c =
    below-table union_at c.args.s.now c.clear.new.s (omega arith) (omega (arith, c.requires.0.room)) c.clear.auto.s
    (within-below union_at union_at c.args.s.now c.clear.new.s (omega arith) c.clear.ensures.1)

pub loop-i-init : goal.loop-i-init
loop-i-init c =
    record {
      same_length = refl;
      tidy = empty-tidy (set_of c.clear.new.s union_at) c.clear.ensures.0;
      table = refl;
      left = left-all (table_of 0 c.clear.new.s) c.args.n (set_of c.clear.new.s union_at) c.clear.ensures.0;
      all = λ j q x ty w h. absurd (omega (arith, h));
    }

pub pass-requires : goal.pass-requires
pass-requires c =
    let piece = c.requires.0.piece in
    let l = c.loop-i.invariant.left piece.code (lies_on c.args.s.now c.clear.new.s (clear_table (goal.at.pass-requires c).After-clear) piece.code 0 c.args.n piece.lies) piece.nested in (
      record {
        words = record { room = omega (arith, c.requires.0.room, c.clear.auto.s, c.loop-i.invariant.same_length); tidy = c.loop-i.invariant.tidy };
        statements = c.args.n;
        known = subst (KnownBelow c.args.n) (sym (c.loop-i.invariant.table ∙ clear_table (goal.at.pass-requires c).After-clear)) c.requires.0.known;
        inside = c.loop-i-test.true;
        results = l.0;
        sites = subst (λ k. SitesFrom k c.args.n c.loop-i.i l.0) (sym c.loop-i.invariant.table) l.1;
      },
      omega (arith, c.loop-i.auto.last, c.requires.1),
    )

pub returns-in_err-pass : goal.returns-in_err-pass
returns-in_err-pass c =
    let gone = err_from_is_err_and c.from_residual.result c.from_residual.ensures.1 in
    λ x h k.
    rw (gone.1, gone.2)
    (passed-refused c.clear.new.s c.args.n c.loop-i.s c.loop-i.i c.loop-i.invariant c.pass.new.s c.pass.result c.loop-i-test.true
    c.pass.ensures.does _ c.in_err-pass.was x (lies_on c.args.s.now c.clear.new.s (clear_table (goal.at.returns-in_err-pass c).After-clear) x 0 c.args.n h) k)

pub loop-i-preserved : goal.loop-i-preserved
loop-i-preserved c =
    let piece = c.requires.0.piece in
    passed-next c.clear.new.s c.args.n c.loop-i.s c.loop-i.i c.loop-i.invariant c.pass.new.s c.pass.result c.loop-i-test.true
    c.pass.ensures.does c.in_ok-pass.was (omega (arith, c.requires.0.room, c.clear.auto.s)) c.pass.auto.s
    (c.pass.ensures.tidy c.in_ok-pass.was) c.pass.ensures.below piece.code
    (lies_on c.args.s.now c.clear.new.s (clear_table (goal.at.loop-i-preserved c).After-clear) piece.code 0 c.args.n piece.lies) piece.nested

pub returns : goal.returns
returns c =
    λ x h k.
    left-none (table_of 0 c.clear.new.s) c.args.n c.loop-i.i (omega arith) (set_of c.loop-i.s union_at) c.loop-i.invariant.left x
    (lies_on c.args.s.now c.clear.new.s (clear_table (goal.at.returns c).After-clear) x 0 c.args.n h) k
