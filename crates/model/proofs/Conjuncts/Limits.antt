-- Sets within the limits: what the rule's last step gives, and when it changes nothing.
use mathlib.Core.Path.{◌≡◌, refl}
use mathlib.Core.Bool.{Bool, true, false, cond}
use mathlib.Core.List.{[], ◌∷◌}
use Prim.Native.Nat.{◌≤◌}
use native.Mathlib.Omega.{arith}
use lib.Dec.{ltb}
use lib.ListN.{length}
use borrow.Author.Tests.{ltb-false, le-ltb}
use Rattle.model.specs.Conjunct.{Conjuncts, long, limits, Conj}
use Rattle.model.specs.Lists.{All}
use Rattle.model.specs.Refusals.{Out, ok, refused, too_many_nodes, too_many_conjuncts}
use Rattle.model.specs.Sizes.{most_conjuncts, most_nodes}
use Rattle.model.specs.TidySets.{Fine, Canon, Sub}
use Rattle.model.proofs.Conjuncts.Canonical.{all_mem, mem_all, sub-length}
use Rattle.model.proofs.Basics.Results.{ok_eq, refused-ok}
use Rattle.model.proofs.Basics.Tests.{or_left, or_right}

-- by cases on the limits: P speaks of the result
pub limits_cases : (P : Out Conjuncts → Type 0) (S : Conjuncts) → P (refused too_many_nodes) → P (refused too_many_conjuncts) → (Fine S → P (ok S)) → P (limits S)
unfolding limits
limits_cases P S nine ten fine = go (long S) refl (ltb most_conjuncts (length S)) refl
  where
    go : (a : Bool) → long S ≡ a → (b : Bool) → ltb most_conjuncts (length S) ≡ b → P (cond a (refused too_many_nodes) (cond b (refused too_many_conjuncts) (ok S)))
    go true p b q = nine
    go false p true q = ten
    go false p false q = fine (record { short = p; few = ltb-false most_conjuncts (length S) q })

-- a result is the set, which is within the limits
pub limits_inv : (S R : Conjuncts) → limits S ≡ ok R → (S ≡ R) × Fine S
limits_inv S R =
    limits_cases (λ o. o ≡ ok R → (S ≡ R) × Fine S) S (λ e. absurd (refused-ok too_many_nodes R e)) (λ e. absurd (refused-ok too_many_conjuncts R e)) (λ h e. (ok_eq S R e, h))

-- a set within the limits is passed on as it is
pub fine-limits : (S : Conjuncts) → Fine S → limits S ≡ ok S
unfolding limits
fine-limits S h = rw (h.short, le-ltb most_conjuncts (length S) h.few)

-- no conjunct is over 120 nodes
pub short-each : (S : Conjuncts) → long S ≡ false → All (λ e. length e ≤ most_nodes) S
unfolding long
short-each [] h = tt
short-each (e ∷ S) h = (ltb-false most_nodes (length e) (or_left (ltb most_nodes (length e)) (long S) h), short-each S (or_right (ltb most_nodes (length e)) (long S) h))

pub all_short : (S : Conjuncts) → All (λ e. length e ≤ most_nodes) S → long S ≡ false
unfolding long
all_short [] h = refl
all_short (e ∷ S) h = rw (le-ltb most_nodes (length e) h.0) (all_short S h.1)

-- a part of a set within the limits is within the limits
pub sub-fine : (R S : Conjuncts) → Canon R → Canon S → Sub R S → Fine S → Fine R
sub-fine R S c d f h =
    let P : Conj → Type 0 = λ e. length e ≤ most_nodes in
    record { short = all_short R (mem_all P R (λ x m. all_mem P S (short-each S h.short) x (f x m))); few = omega (arith, sub-length R S c d f, h.few) }
