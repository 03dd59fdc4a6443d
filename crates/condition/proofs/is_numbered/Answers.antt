-- `condition::is_numbered` meets its contract.
use mathlib.Core.Path.{◌≡◌, refl, sym, ◌∙◌}
use mathlib.Core.Bool.{true}
use mathlib.Core.List.{List}
use Prim.Native.Nat.{ℕ, ◌*◌, ◌/◌, ◌<◌, ◌≤◌}
use native.Mathlib.Omega.{arith}
use lib.ListN.{length, length-set}
use Rattle.model.specs.Sizes.{node_size, field_size, most_fields}
use Rattle.model.specs.Fields.{types_in, fields_in}
use Rattle.model.proofs.Files.FieldTables.{types-length}
use Rattle.condition.specs.declared.Node.{Node}
use Rattle.condition.specs.Answers.{NodeIs, part_right_lem}
use Rattle.condition.proofs.Numbering.{seen_of}
use Rattle.condition.proofs.Counting.{counted_none, counted_skip, field-listed, counted-zero, counted_met, counted_jump}
use Rattle.condition.proofs.Counting.{counted_next, counted-end}
use Rattle.condition.proofs.is_numbered.Goals as goal

-- the field of a reading is listed
few : (fields part : List ℕ) (k : ℕ) (v : Node) (seen : List ℕ) → NodeIs v part (node_size * k) → k < length part / node_size
    → part_right_lem (types_in (fields_in fields)) part ≡ true → length fields ≤ field_size * most_fields → v.kind ≡ 1 → v.field < most_fields
few fields part k v seen is more right short reading =
    omega (arith, field-listed part (length part / node_size) k v is more (types_in (fields_in fields)) seen right reading, types-length fields)

-- ---- the answers
pub loop-k-init : goal.loop-k-init
loop-k-init c = (refl, refl, counted_none _ _ _ refl)

pub loop-k-preserved-then-kind-ne-READING : goal.loop-k-preserved-then-kind-ne-READING
loop-k-preserved-then-kind-ne-READING c =
    let v = c.node_at-v in (
      refl,
      c.loop-k.invariant.1,
      c.loop-k.invariant.2
          ∙ counted_skip c.args.part.now (length c.args.part.now / node_size) c.loop-k.k v.result v.ensures c.loop-k-test.true
          (seen_of (types_in (fields_in c.args.fields.now)) c.loop-k.seen) c.if-kind-ne-READING.true,
    )

pub bounds-seen-f : goal.bounds-seen-f
bounds-seen-f c = omega (arith, few c.args.fields.now c.args.part.now c.loop-k.k c.node_at-v.result c.loop-k.seen c.node_at-v.ensures c.loop-k-test.true c.requires.1 c.requires.0 c.if-kind-ne-READING.false)

pub returns-then-i-eq0 : goal.returns-then-i-eq0
returns-then-i-eq0 c =
    sym (c.loop-k.invariant.2
    ∙ counted-zero c.args.part.now (length c.args.part.now / node_size) c.loop-k.k c.node_at-v.result c.node_at-v.ensures c.loop-k-test.true (types_in (fields_in c.args.fields.now)) c.loop-k.seen c.requires.1
    c.if-kind-ne-READING.false c.if-i-eq0.true)

pub loop-k-preserved-then-i-last : goal.loop-k-preserved-then-i-last
loop-k-preserved-then-i-last c = (
  refl,
  c.loop-k.invariant.1,
  c.loop-k.invariant.2
      ∙ counted_met c.args.part.now (length c.args.part.now / node_size) c.loop-k.k c.node_at-v.result c.node_at-v.ensures c.loop-k-test.true (types_in (fields_in c.args.fields.now)) c.loop-k.seen
      c.requires.1 c.if-kind-ne-READING.false c.if-i-eq0.false c.if-i-last.true,
)

pub returns-then-i-last-2 : goal.returns-then-i-last-2
returns-then-i-last-2 c =
    sym (c.loop-k.invariant.2
    ∙ counted_jump c.args.part.now (length c.args.part.now / node_size) c.loop-k.k c.node_at-v.result c.node_at-v.ensures c.loop-k-test.true (types_in (fields_in c.args.fields.now)) c.loop-k.seen c.requires.1
    c.if-kind-ne-READING.false c.if-i-last.false c.if-i-last-2.true)

pub bounds-seen-f-in-loop-k : goal.bounds-seen-f-in-loop-k
bounds-seen-f-in-loop-k c = omega (arith, few c.args.fields.now c.args.part.now c.loop-k.k c.node_at-v.result c.loop-k.seen c.node_at-v.ensures c.loop-k-test.true c.requires.1 c.requires.0 c.if-kind-ne-READING.false)

pub loop-k-preserved : goal.loop-k-preserved
loop-k-preserved c = (
  refl,
  simp length-set c.loop-k.invariant.1,
  c.loop-k.invariant.2
      ∙ counted_next c.args.part.now (length c.args.part.now / node_size) c.loop-k.k c.node_at-v.result c.node_at-v.ensures c.loop-k-test.true (types_in (fields_in c.args.fields.now)) c.loop-k.seen
      c.requires.1 c.if-kind-ne-READING.false (omega (arith, types-length c.args.fields.now)) c.if-i-last.false c.if-i-last-2.false,
)

pub returns : goal.returns
returns c = sym (c.loop-k.invariant.2 ∙ counted-end _ _ _ _ (omega arith))
