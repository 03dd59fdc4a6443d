-- `sets::arrange` meets its contract: what rises is a set already, and all else is put into the empty room, conjunct by conjunct.
use mathlib.Core.Logic.{inl, inr}
use mathlib.Core.Path.{refl, sym, subst}
use native.Mathlib.Omega.{arith}
use Rattle.model.proofs.Conjuncts.Canonical.{union_nil}
use Rattle.sets.proofs.Arranging.{arranged}
use Rattle.model.specs.TidySets.{Canon}
use Rattle.sets.specs.Region.{set_of}
use Rattle.sets.proofs.arrange.Goals as goal

pub returns-then-rises : goal.returns-then-rises
returns-then-rises c =
    let a = c.args in
    let h = c.rises.ensures c.if-rises.true in
    (sym (union_nil (set_of a.s.now a.b) h), λ i g. refl)

pub union-requires : goal.union-requires
union-requires c =
    let k = c.clear in
    record {
      regions = record { first = omega (arith, k.auto.s); second = omega (arith, k.auto.s); apart = inr (omega arith) };
      canon = subst Canon (sym k.ensures.0) tt;
    }

pub copy-requires : goal.copy-requires
copy-requires c =
    let u = c.union in
    let k = c.clear in
    record { first = omega (arith, k.auto.s, u.auto.s); second = omega (arith, k.auto.s, u.auto.s); apart = inl (omega arith) }

pub returns : goal.returns
returns c =
    let v = c.copy in
    let u = c.union in
    let a = c.args in
    arranged a.s.now c.clear.new.s u.new.s v.new.s a.b u.result c.requires c.clear.auto.s u.auto.s
    c.clear.ensures u.ensures v.ensures
