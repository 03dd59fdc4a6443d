-- `listing::put_nodes` meets its contract. What is left to put is the text of the nodes from k on.
use mathlib.Core.Path.{◌≡◌, ap}
use mathlib.Core.List.{List, ◌++◌, flat_map}
use native.Mathlib.Omega.{arith}
use Prim.Native.Nat.{ℕ, ◌+◌, ◌/◌}
use lib.ListN.{length}
use Rattle.model.specs.Listing.{node_text_lem}
use Rattle.condition.specs.Answers.{node_from}
use Rattle.condition.proofs.Nodes.{rest, rest_all}
use Rattle.listing.proofs.Texts.{remains_next, remains_none, room_as, room-part, puts_as, nodes-step, nodes-end}
use Rattle.listing.proofs.put_nodes.Goals as goal
use Rattle.listing.proofs.put_nodes.Goals.{After-node_at}

-- the text of the nodes from a number on
abbrev left : After-node_at → ℕ → List ℕ
left c k = let s = c.args.part.now in flat_map node_text_lem (rest s (length s / 8) k)

step : (c : After-node_at)
    → left c c.loop-k.k ≡ node_text_lem (node_from c.node_at.result) ++ left c (c.loop-k.k + 1)
step c = nodes-step _ _ _ _ (omega arith) c.node_at.ensures

pub returns : goal.returns
returns c =
    let s = c.args.part.now in
    puts_as (ap (flat_map node_text_lem) (rest_all s (length s / 8)))
    (remains_none (nodes-end s (length s / 8) c.loop-k.k (omega arith)) c.loop-k.invariant)

pub put_node-next-requires : goal.put_node-next-requires
put_node-next-requires c = room-part _ (room_as (step c) c.loop-k.invariant.room)

pub loop-k-preserved : goal.loop-k-preserved
loop-k-preserved c = remains_next (step (goal.at.loop-k-preserved c).After-node_at) c.loop-k.invariant c.put_node-next.ensures
