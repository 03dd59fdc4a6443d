-- `condition::is_numbered` meets its contract.
use mathlib.Core.Path.{◌≡◌}
use Prim.Native.Nat.{◌/◌}
use lib.ListN.{length}
use Rattle.model.specs.Sizes.{node_size, most_fields}
use Rattle.model.specs.Fields.{types_in, fields_in}
use Rattle.model.specs.Condition.{numbered}
use Rattle.condition.specs.Answers.{part_nodes}
use Rattle.condition.proofs.Nodes.{rest}
use Rattle.condition.proofs.Numbering.{counted, seen_of}
use Rattle.condition.proofs.is_numbered.Given as goal

abbrev pub invariant-loop-k : goal.invariant-loop-k
invariant-loop-k l =
    (l.n ≡ length l.part / node_size) × (length l.seen ≡ most_fields) × (numbered (part_nodes l.part) ≡ counted (seen_of (types_in (fields_in l.fields)) l.seen) (rest l.part l.n l.k))
