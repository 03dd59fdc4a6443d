-- `enclosing::walk_out` meets its contract. The invariant: the walk from the label goes on from the block where the code stands.
use Prim.Native.Nat.{◌≤◌, ◌<◌}
use native.Mathlib.Omega.{arith}
use Rattle.model.specs.Sizes.{most_rows}
use Rattle.code_table.specs.Table.{table_of}
use Rattle.sets.specs.Region.{set_of}
use Rattle.walk.proofs.Regions.{knows_less}
use Rattle.enclosing.proofs.Leaving.{label-below, top-known, walks_out_top}
use Rattle.enclosing.proofs.WalkingOut.{enclosed-here, outward_start, outward_refused, outward_next}
use Rattle.std.proofs.lemmas.Result.{err_from_is_err_and}
use Rattle.enclosing.proofs.walk_out.Goals as goal
use Rattle.enclosing.proofs.walk_out.Goals.{At-loop-r}

-- the label is one of the program's
below : (c : At-loop-r) → (c.loop-r.at < c.loop-r.invariant.statements) × (c.loop-r.invariant.statements ≤ most_rows)
below c = label-below (table_of 0 c.args.s.now) c.loop-r.invariant.statements c.loop-r.at c.loop-r.invariant.enclosed

pub innermost-requires : goal.innermost-requires
innermost-requires c =
    let w = c.requires.0 in
    (omega (arith, w.behind, w.room, c.loop-r.invariant.same_length), omega (arith, (below c).0, (below c).1))

pub walk-requires : goal.walk-requires
walk-requires c =
    let piece = top-known (table_of 0 c.loop-r.s) c.loop-r.invariant.statements c.loop-r.at c.in_default.ensures (enclosed-here c.args.s.now c.args.b c.args.i c.loop-r.s c.loop-r.at c.loop-r.invariant) in (
      record {
        knows = knows_less c.loop-r.at c.loop-r.invariant.statements c.loop-r.s (omega (arith, (below (goal.at.walk-requires c).At-loop-r).0)) (enclosed-here c.args.s.now c.args.b c.args.i c.loop-r.s c.loop-r.at c.loop-r.invariant).known;
        shallow = omega arith;
        behind = c.requires.0.behind;
        room = omega (arith, c.requires.0.room, c.loop-r.invariant.same_length);
        tidy = c.loop-r.invariant.tidy;
      },
      record { code = piece.code; lies = piece.lies; nested = piece.nested },
    )

pub returns : goal.returns
returns c =
    outward_start c.args.s.now c.args.b c.args.i c.loop-r.s c.loop-r.at c.loop-r.invariant c.walk.new.s c.walk.result
    (λ n. walks_out_top (table_of 0 c.loop-r.s) n c.loop-r.at c.in_default.ensures (set_of c.loop-r.s c.args.b) (set_of c.walk.new.s c.args.b) c.walk.result c.walk.ensures.0)
    c.walk.ensures.1

pub returns-in_err-leave_block : goal.returns-in_err-leave_block
returns-in_err-leave_block c =
    let gone = err_from_is_err_and c.from_residual.result c.from_residual.ensures.1 in
    rw (gone.1, gone.2)
    (outward_refused c.args.s.now c.args.b c.args.i c.loop-r.s c.loop-r.at c.loop-r.invariant _ c.leave_block.result c.leave_block.new.s c.leave_block.ensures.does c.leave_block.ensures.below _ c.in_err-leave_block.was)

pub loop-r-preserved : goal.loop-r-preserved
loop-r-preserved c =
    outward_next c.args.s.now c.args.b c.args.i c.loop-r.s c.loop-r.at c.loop-r.invariant _ c.leave_block.result c.leave_block.new.s c.leave_block.ensures.does c.leave_block.ensures.below c.in_ok-leave_block.was c.requires.0.behind
    (omega (arith, c.requires.0.room)) c.leave_block.auto.s (c.leave_block.ensures.tidy c.in_ok-leave_block.was)
