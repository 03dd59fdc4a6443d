-- `listing::put_lines` meets its contract. What is left to put are the lines from i on.
use mathlib.Core.Path.{◌≡◌}
use mathlib.Core.List.{List, ◌++◌}
use native.Mathlib.Omega.{arith}
use Prim.Native.Nat.{ℕ, ◌+◌}
use Rattle.model.specs.Listing.{line_text}
use Rattle.condition.specs.Answers.{part_nodes, conjuncts_of}
use Rattle.listing.proofs.Texts.{remains_next, remains_none, room_as, room-part, lines, lines_step, lines_end}
use Rattle.listing.proofs.put_lines.Goals as goal
use Rattle.listing.proofs.put_lines.Goals.{After-conjunct}

abbrev file : After-conjunct → List ℕ
file c = c.args.condition.now

step : (c : After-conjunct) → let S = conjuncts_of (file c) in let i = c.loop-i.i in
    lines S i ≡ line_text i (part_nodes c.conjunct.result.now) ++ lines S (i + 1)
step c = lines_step (conjuncts_of (file c)) c.loop-i.i (part_nodes c.conjunct.result.now) (omega (arith, c.conjuncts-n.ensures.many)) c.conjunct.ensures.nodes

pub returns : goal.returns
returns c = remains_none (lines_end (conjuncts_of c.args.condition.now) c.loop-i.i (omega (arith, c.conjuncts-n.ensures.many))) c.loop-i.invariant

pub loop-i-preserved : goal.loop-i-preserved
loop-i-preserved c = remains_next (step (goal.at.loop-i-preserved c).After-conjunct) c.loop-i.invariant c.put_line-next.ensures

pub put_line-next-requires : goal.put_line-next-requires
put_line-next-requires c = room-part _ (room_as (step c) c.loop-i.invariant.room)
