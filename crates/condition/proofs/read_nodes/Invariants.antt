-- `condition::read_nodes` meets its contract. The invariant: the nodes before k have their form, and the stack has the types that
-- they leave.
use mathlib.Core.Path.{◌≡◌}
use mathlib.Core.List.{[]}
use Prim.Native.Nat.{◌/◌, ◌≤◌}
use lib.ListN.{length}
use Rattle.model.specs.Sizes.{node_size}
use Rattle.model.specs.Fields.{types_in, fields_in}
use Rattle.model.specs.Condition.{type_nodes}
use Rattle.model.specs.Lists.{every}
use Rattle.condition.specs.Numbers.{stack_cells}
use Rattle.condition.specs.Answers.{part_nodes, part_right_lem}
use Rattle.condition.proofs.Nodes.{rest}
use Rattle.condition.proofs.Passes.{forms_from}
use Rattle.condition.proofs.Stacks.{stack_of}
use Rattle.condition.proofs.read_nodes.Given as goal

abbrev pub invariant-loop-k : goal.invariant-loop-k
invariant-loop-k l =
    (l.n ≡ length l.part / node_size) × (length l.stack ≡ stack_cells) × (l.height ≤ l.k)
    × (type_nodes (part_nodes l.part) [] ≡ type_nodes (rest l.part l.n l.k) (stack_of l.stack l.height))
    × (part_right_lem (types_in (fields_in l.fields)) l.part ≡ every (λ b. b) (forms_from (types_in (fields_in l.fields)) l.part l.n l.k))
