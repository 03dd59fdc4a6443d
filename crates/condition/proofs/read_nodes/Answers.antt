-- `condition::read_nodes` meets its contract. The invariant: the nodes before k have their form, and the stack has the types that
-- they leave.
use mathlib.Core.Path.{◌≡◌, refl, sym, ap, ◌∙◌}
use mathlib.Core.Bool.{Bool, true, false, ◌&&◌}
use mathlib.Core.List.{List, []}
use Prim.Native.Nat.{ℕ, ◌+◌, ◌*◌, ◌/◌}
use native.Mathlib.Omega.{arith}
use lib.ListN.{length, set, length-set}
use borrow.Author.Tests.{eq-eqb, ne_eqb}
use Rattle.model.specs.Sizes.{node_size}
use Rattle.model.specs.Fields.{types_in, fields_in}
use Rattle.model.specs.Condition.{operation, conversion, type_nodes, whole}
use Rattle.model.specs.Lists.{every}
use Rattle.model.specs.Refusals.{Out, refused, ◌>>=◌, wrong_condition}
use Rattle.refusals.specs.Answers.{number_of}
use Rattle.condition.specs.Answers.{node_from, NodeIs, part_nodes, part_right_lem, formed}
use Rattle.condition.proofs.Nodes.{rest, some}
use Rattle.condition.proofs.Passes.{forms_from, forms_all, forms_on, forms_off, forms_end}
use Rattle.condition.proofs.Stacks.{stack_of, stack_push, operation-short, operation_upper, operation_lower, operation-right}
use Rattle.condition.proofs.Stacks.{conversion-short, conversion-right, typed_push, typed-operation, typed-conversion, whole-start}
use Rattle.condition.proofs.Stacks.{whole-refused, whole-end}
use Rattle.condition.proofs.read_nodes.Goals as goal
use Rattle.condition.proofs.read_nodes.Goals.{At-loop-k, Else-v-lt-CONVERSION, In-Ok, Then-v-lt-CONVERSION, Then-v-lt-SUM}

-- ---- one node
entry-is : (c : In-Ok) → NodeIs c.in-Ok.v c.args.part.now (node_size * c.loop-k.k)
entry-is c = c.in-Ok.ensures.1

-- the nodes up to it have their form
forms : (c : In-Ok) → part_right_lem (types_in (fields_in c.args.fields.now)) c.args.part.now
    ≡ every (λ b. b) (forms_from (types_in (fields_in c.args.fields.now)) c.args.part.now (length c.args.part.now / node_size) (c.loop-k.k + 1))
forms c =
    c.loop-k.invariant.4
    ∙ forms_on (types_in (fields_in c.args.fields.now)) c.args.part.now (length c.args.part.now / node_size) c.loop-k.k c.loop-k-test.true
    (node_from c.in-Ok.v) c.in-Ok.ensures.0

-- what is left to be typed after it
after-atom : (c : Then-v-lt-SUM) → type_nodes (part_nodes c.args.part.now) []
    ≡ type_nodes (rest c.args.part.now (length c.args.part.now / node_size) (c.loop-k.k + 1))
    (stack_of (set c.loop-k.stack c.loop-k.height c.in-Ok.v.ty) (c.loop-k.height + 1))
after-atom c =
    let n = length c.args.part.now / node_size in
    c.loop-k.invariant.3
    ∙ typed_push c.args.part.now n c.loop-k.k c.in-Ok.v (entry-is (goal.at.Then-v-lt-SUM c).In-Ok) c.loop-k-test.true (stack_of c.loop-k.stack c.loop-k.height) c.if-v-lt-SUM.true
    ∙ ap (type_nodes (rest c.args.part.now n (c.loop-k.k + 1))) (sym (stack_push c.loop-k.stack c.loop-k.height c.in-Ok.v.ty (omega arith)))

after-operation : (c : Then-v-lt-CONVERSION) → (o : Out (List ℕ))
    → operation c.in-Ok.v.ty (stack_of c.loop-k.stack c.loop-k.height) ≡ o
    → type_nodes (part_nodes c.args.part.now) [] ≡ (o >>= type_nodes (rest c.args.part.now (length c.args.part.now / node_size) (c.loop-k.k + 1)))
after-operation c o e =
    c.loop-k.invariant.3
    ∙ typed-operation c.args.part.now (length c.args.part.now / node_size) c.loop-k.k c.in-Ok.v (entry-is (goal.at.Then-v-lt-CONVERSION c).In-Ok) c.loop-k-test.true (stack_of c.loop-k.stack c.loop-k.height)
    c.if-v-lt-SUM.false c.if-v-lt-CONVERSION.true o e

after-conversion : (c : Else-v-lt-CONVERSION) → (o : Out (List ℕ))
    → conversion c.in-Ok.v.ty (stack_of c.loop-k.stack c.loop-k.height) ≡ o
    → type_nodes (part_nodes c.args.part.now) [] ≡ (o >>= type_nodes (rest c.args.part.now (length c.args.part.now / node_size) (c.loop-k.k + 1)))
after-conversion c o e =
    c.loop-k.invariant.3
    ∙ typed-conversion c.args.part.now (length c.args.part.now / node_size) c.loop-k.k c.in-Ok.v (entry-is (goal.at.Else-v-lt-CONVERSION c).In-Ok) c.loop-k-test.true (stack_of c.loop-k.stack c.loop-k.height)
    c.if-v-lt-CONVERSION.false o e

-- a part that is no whole expression, or whose nodes are not in their form, is refused
not-whole : (a b : Bool) → b ≡ false → refused wrong_condition ≡ formed (a && b)
not-whole true b e = rw e
not-whole false b e = refl

not-operated : (c : Then-v-lt-CONVERSION) → operation c.in-Ok.v.ty (stack_of c.loop-k.stack c.loop-k.height) ≡ refused wrong_condition
    → refused wrong_condition ≡ formed (part_right_lem (types_in (fields_in c.args.fields.now)) c.args.part.now && whole (part_nodes c.args.part.now))
not-operated c e =
    not-whole (part_right_lem (types_in (fields_in c.args.fields.now)) c.args.part.now) (whole (part_nodes c.args.part.now))
    (whole-refused (part_nodes c.args.part.now) (after-operation c (refused wrong_condition) e))

-- ---- the answers
pub loop-k-init : goal.loop-k-init
loop-k-init c = (refl, refl, omega arith, whole-start _ _ refl, forms_all _ _ _ refl)

pub returns-in_default : goal.returns-in_default
returns-in_default c =
    let off = forms_off (types_in (fields_in c.args.fields.now)) c.args.part.now (length c.args.part.now / node_size) c.loop-k.k c.loop-k-test.true
    (number_of c.in_default.field-0) c.in_default.ensures.0 in
    rw (c.loop-k.invariant.4 ∙ off.0)

pub loop-k-preserved-then-v-lt-SUM : goal.loop-k-preserved-then-v-lt-SUM
loop-k-preserved-then-v-lt-SUM c =
    (refl, simp length-set c.loop-k.invariant.1, omega arith, after-atom c, forms (goal.at.loop-k-preserved-then-v-lt-SUM c).In-Ok)

pub returns-then-height-lt2 : goal.returns-then-height-lt2
returns-then-height-lt2 c =
    not-operated (goal.at.returns-then-height-lt2 c).Then-v-lt-CONVERSION (operation-short c.in-Ok.v.ty c.loop-k.stack c.loop-k.height c.if-height-lt2.true)

pub returns-then-stack-height : goal.returns-then-stack-height
returns-then-stack-height c =
    not-operated (goal.at.returns-then-stack-height c).Then-v-lt-CONVERSION (operation_upper c.in-Ok.v.ty c.loop-k.stack c.loop-k.height c.if-height-lt2.false c.if-stack-height.true)

pub returns-then-stack-height-2 : goal.returns-then-stack-height-2
returns-then-stack-height-2 c =
    not-operated (goal.at.returns-then-stack-height-2 c).Then-v-lt-CONVERSION (operation_lower c.in-Ok.v.ty c.loop-k.stack c.loop-k.height c.if-height-lt2.false c.if-stack-height-2.true)

pub loop-k-preserved-then-v-lt-CONVERSION : goal.loop-k-preserved-then-v-lt-CONVERSION
loop-k-preserved-then-v-lt-CONVERSION c =
    let right = operation-right c.in-Ok.v.ty c.loop-k.stack c.loop-k.height c.if-height-lt2.false c.if-stack-height.false
    c.if-stack-height-2.false in
    (refl, c.loop-k.invariant.1, omega arith, after-operation (goal.at.loop-k-preserved-then-v-lt-CONVERSION c).Then-v-lt-CONVERSION _ right, forms (goal.at.loop-k-preserved-then-v-lt-CONVERSION c).In-Ok)

pub returns-then-height-eq0 : goal.returns-then-height-eq0
returns-then-height-eq0 c =
    let short = conversion-short c.in-Ok.v.ty c.loop-k.stack c.loop-k.height c.if-height-eq0.true in
    not-whole (part_right_lem (types_in (fields_in c.args.fields.now)) c.args.part.now) (whole (part_nodes c.args.part.now))
    (whole-refused (part_nodes c.args.part.now) (after-conversion (goal.at.returns-then-height-eq0 c).Else-v-lt-CONVERSION (refused wrong_condition) short))

pub loop-k-preserved : goal.loop-k-preserved
loop-k-preserved c =
    let right = conversion-right c.in-Ok.v.ty c.loop-k.stack c.loop-k.height (some c.loop-k.height c.if-height-eq0.false) (omega arith) in
    (refl, simp length-set c.loop-k.invariant.1, omega arith, after-conversion (goal.at.loop-k-preserved c).Else-v-lt-CONVERSION _ right, forms (goal.at.loop-k-preserved c).In-Ok)

pub returns-then-height-ne1 : goal.returns-then-height-ne1
returns-then-height-ne1 c =
    let end = whole-end _ _ _ c.loop-k.stack c.loop-k.height _ (omega arith) c.loop-k.invariant.3 in
    not-whole (part_right_lem (types_in (fields_in c.args.fields.now)) c.args.part.now) (whole (part_nodes c.args.part.now)) (end ∙ ne_eqb c.loop-k.height 1 c.if-height-ne1.true)

pub returns : goal.returns
returns c =
    let end = whole-end _ _ _ c.loop-k.stack c.loop-k.height _ (omega arith) c.loop-k.invariant.3 in
    rw (c.loop-k.invariant.4 ∙ forms_end _ _ _ _ (omega arith), end ∙ eq-eqb c.loop-k.height 1 c.if-height-ne1.false)
