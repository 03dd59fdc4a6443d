-- `conjunct::numbering::loads` meets its contract.
use mathlib.Core.List.{map}
use mathlib.Core.Path.{◌≡◌, refl, ap, ◌∙◌}
use native.Mathlib.Omega.{arith}
use lib.ListN.{take}
use borrow.Author.Rules.{rules}
use Rattle.model.specs.Conjunct.{atom, atoms}
use Rattle.model.specs.Lists.{every}
use Rattle.model.specs.Walk.{loads}
use Rattle.conjunct.proofs.numbering.LoadsBehind.{loads-next, nodes-atoms}
use Rattle.conjunct.proofs.numbering.loads.Goals as goal

pub loop-i-init : goal.loop-i-init
unfolding every loads atoms
loop-i-init c = (search rules, search rules, search rules, search rules, refl, refl, refl)

pub note_load-m-requires : goal.note_load-m-requires
note_load-m-requires c = let lp = c.loop-i in record { room = omega arith; atoms = lp.invariant.5 }

pub loop-i-preserved : goal.loop-i-preserved
loop-i-preserved c =
    let a = c.args in
    let lp = c.loop-i in
    let p = c.note_load-m in (
      lp.invariant.0,
      omega arith,
      lp.invariant.2,
      lp.invariant.3,
      p.auto.seen ∙ lp.invariant.4,
      p.ensures.1.all,
      loads-next a.array a.len a.e.now lp.i (take lp.m lp.out) (take p.result p.new.seen) (omega arith) lp.invariant.6
          p.ensures.1,
    )

pub returns : goal.returns
returns c =
    let lp = c.loop-i in
    let e : lp.i ≡ c.args.n = omega arith in
    (omega arith, nodes-atoms (take lp.m lp.out) lp.invariant.5 ∙ ap (map atom) (rw e at lp.invariant.6))
