-- `condition::Condition::conjunct` meets its contract.
use mathlib.Core.Path.{◌∙◌, ap, subst}
use Prim.Native.Nat.{◌<◌}
use Rattle.condition.proofs.Table.{conjunct-placed, conjunct-nodes, conjunct-short, conjuncts-read, counts-read}
use Rattle.condition.specs.Answers.{part_nodes, ConjunctIs}
use Rattle.condition.proofs.Condition.conjunct.Goals as goal
use Rattle.condition.proofs.Condition.conjunct.Goals.{After-part_of}

-- the number is below the count
listed : (c : After-part_of) → c.args.i < c.self.inside.counts.conjuncts
listed c = rw (conjuncts-read c.self.inside.bytes.now c.self.inside.counts c.self.invariant, c.self.view_is) c.requires

pub part_of-requires : goal.part_of-requires
part_of-requires c =
    conjunct-placed c.self.inside.bytes.now c.self.inside.counts c.self.invariant c.args.i
    (rw (conjuncts-read c.self.inside.bytes.now c.self.inside.counts c.self.invariant, c.self.view_is) c.requires)

pub returns : goal.returns
returns c =
    let s = c.self.inside.bytes.now in
    let k = c.self.inside.counts in
    let below = listed (goal.at.returns c).After-part_of in
    rw (← c.self.view_is)
    (subst (λ k. ConjunctIs s k c.args.i c.part_of.result.now) (counts-read s k c.self.invariant)
    (record {
      is-part = c.part_of.ensures;
      nodes = ap part_nodes c.part_of.ensures ∙ conjunct-nodes s k c.self.invariant c.args.i below;
      short = rw c.part_of.ensures (conjunct-short s k c.self.invariant c.args.i below);
    }))
