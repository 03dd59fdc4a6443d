-- `listing::put_nodes` meets its contract. What is left to put is the text of the nodes from k on.
use mathlib.Core.List.{flat_map}
use Rattle.model.specs.Listing.{node_text_lem}
use Rattle.condition.proofs.Nodes.{rest}
use Rattle.listing.proofs.Texts.{Remains}
use Rattle.listing.proofs.put_nodes.Given as goal

abbrev pub invariant-loop-k : goal.invariant-loop-k
invariant-loop-k l = Remains (flat_map node_text_lem (rest l.part l.n 0)) l.at l.initial.out (flat_map node_text_lem (rest l.part l.n l.k)) l.next l.out
