-- `sets::sift` meets its contract: after k turns the region has what the first k conjuncts leave.
use mathlib.Core.List.{List, [], ◌∷◌, ◌++◌}
use mathlib.Core.Path.{◌≡◌, refl, sym, ap, ap₂, subst, ◌∙◌}
use Prim.Native.Nat.{ℕ}
use native.Mathlib.Omega.{arith}
use lib.ListN.{length, get_or, take}
use lib.Seq.{take-length, length-take-le}
use Rattle.model.specs.TidySets.{Canon}
use Rattle.sets.proofs.Differing.{minus-few, minus-none, minus-next}
use Rattle.sets.proofs.Rows.{frame, set-few, within_trans}
use Rattle.sets.specs.Minus.{minus}
use Rattle.sets.specs.Region.{set_of, Within, TwoRegions}
use Rattle.sets.proofs.sift.Goals as goal

-- the set of another region is as it was
same_set : (s t : List ℕ) (to other : ℕ) → length t ≡ length s → TwoRegions s to other → Within to s t → set_of t other ≡ set_of s other
same_set s t to other e two within = frame s t to other e two.second two.apart within

-- two regions of other words, as long as they were
moved : (s t : List ℕ) (to other : ℕ) → length t ≡ length s → TwoRegions s to other → TwoRegions t to other
moved s t to other e two = record { first = omega (arith, two.first); second = omega (arith, two.second); apart = two.apart }

pub loop-k-init : goal.loop-k-init
loop-k-init c =
    let a = c.args in
    let t = c.clear.new.s in
    (c.size-n.ensures.0, refl, refl, λ i h. refl, c.clear.ensures.0 ∙ sym (minus-none (set_of t a.from) (set_of t a.known)))

pub keep-requires : goal.keep-requires
keep-requires c =
    let a = c.args in
    let p = c.requires.0 in
    let lp = c.loop-k in
    let t = c.clear.new.s in
    let I = set_of t a.from in
    let few = minus-few (take lp.k I) (set_of t a.known) in
    let shorter : length (take lp.k I) ≡ lp.k = length-take-le lp.k I (omega (arith, lp.invariant.0)) in
    let emptied = moved a.s.now t a.to a.known c.clear.auto.s p.left_out in
    let known = same_set t lp.s a.to a.known lp.invariant.1 emptied lp.invariant.3
    ∙ same_set a.s.now t a.to a.known c.clear.auto.s p.left_out c.clear.ensures.1 in (
      record {
        regions = moved t lp.s a.to a.known lp.invariant.1 emptied;
        space = omega (arith, ap length lp.invariant.4, few, shorter, c.loop-k-test.true, lp.invariant.0, set-few t a.from);
        canon = subst Canon (sym known) p.canon;
      },
      record { few = c.get-m.ensures.0; there = omega (arith, c.get-m.ensures.0, c.get-m.auto.out, lp.invariant.2, c.requires.1) },
    )

pub loop-k-preserved : goal.loop-k-preserved
loop-k-preserved c =
    let a = c.args in
    let p = c.requires.0 in
    let lp = c.loop-k in
    let t = c.clear.new.s in
    let I = set_of t a.from in
    let T = set_of t a.known in
    let known = same_set t lp.s a.to a.known lp.invariant.1 (moved a.s.now t a.to a.known c.clear.auto.s p.left_out) lp.invariant.3 in
    let from = same_set t lp.s a.to a.from lp.invariant.1 (moved a.s.now t a.to a.from c.clear.auto.s p.taken) lp.invariant.3 in
    let this = c.get-m.ensures.1 ∙ ap (λ S. get_or S lp.k []) from in
    let put =
    c.keep.ensures.0
    ∙ ap₂ ◌++◌ lp.invariant.4 (ap₂ (λ d S. minus (d ∷ []) S) this known)
    ∙ sym (minus-next I T lp.k (omega (arith, c.loop-k-test.true, lp.invariant.0))) in (
      lp.invariant.0,
      c.keep.auto.s ∙ lp.invariant.1,
      c.get-m.auto.out ∙ lp.invariant.2,
      within_trans a.to t lp.s c.keep.new.s lp.invariant.3 c.keep.ensures.1,
      put,
    )

pub returns : goal.returns
returns c =
    let a = c.args in
    let p = c.requires.0 in
    let lp = c.loop-k in
    let t = c.clear.new.s in
    let I = set_of t a.from in
    let from = same_set a.s.now t a.to a.from c.clear.auto.s p.taken c.clear.ensures.1 in
    let known = same_set a.s.now t a.to a.known c.clear.auto.s p.left_out c.clear.ensures.1 in
    let all : lp.k ≡ length I = omega (arith, lp.invariant.0) in (
      lp.invariant.4 ∙ ap (λ J. minus J (set_of t a.known)) (ap (λ k. take k I) all ∙ take-length I) ∙ ap₂ minus from known,
      within_trans a.to a.s.now t lp.s c.clear.ensures.1 lp.invariant.3,
    )
