-- `walk::unite` meets its contract.
use mathlib.Core.Path.{sym, ap, subst, ◌∙◌}
use Prim.Native.Nat.{◌≤◌}
use lib.ListN.{length}
use Rattle.model.specs.Conjunct.{union_of}
use Rattle.model.specs.Refusals.{ok}
use Rattle.model.specs.Sizes.{most_conjuncts}
use Rattle.sets.proofs.Rows.{set-few}
use Rattle.sets.specs.Region.{set_of, Joined}
use Rattle.walk.proofs.Regions.{union_within, union_over}
use Rattle.walk.proofs.unite.Goals as goal

pub returns-then-union : goal.returns-then-union
returns-then-union c =
    let R = set_of c.args.s.now c.args.from in
    let S = set_of c.args.s.now c.args.to in
    let e = subst (λ r. Joined r c.args.from c.args.to c.args.s.now c.union.new.s) c.if-union.true c.union.ensures.0 in
    let few : length (union_of R S) ≤ most_conjuncts = subst (λ x. length x ≤ most_conjuncts) e (set-few c.union.new.s c.args.to) in
    (union_within R S c.requires.added c.requires.own few ∙ ap ok (sym e), c.union.ensures.1)

pub returns : goal.returns
returns c =
    let e = subst (λ r. Joined r c.args.from c.args.to c.args.s.now c.union.new.s) c.if-union.false c.union.ensures.0 in
    (union_over (set_of c.args.s.now c.args.from) (set_of c.args.s.now c.args.to) c.requires.added c.requires.own e, c.union.ensures.1)
