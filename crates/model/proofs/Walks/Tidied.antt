-- Every set of an analysis is tidy: canonical, numbered as a rule leaves it, and within the limits; the condition too.
use mathlib.Core.Path.{◌≡◌, refl}
use mathlib.Core.List.{List, [], ◌∷◌, map}
use Prim.Native.Nat.{ℕ, zero-le}
use native.Mathlib.Omega.{arith}
use Rattle.model.specs.Code.{Instr, Code}
use Rattle.model.specs.Conjunct.{Conj, var, Conjuncts, union_of, long, limits, atoms, renumber}
use Rattle.model.specs.Lists.{All}
use Rattle.model.specs.Refusals.{ok}
use Rattle.model.specs.Walk.{before, gather, back, walk, sites, zeroed, start, join, derived}
use Rattle.model.specs.TidySets.{Canon, Numbered, Tidy}
use Rattle.model.proofs.Conjuncts.Canonical.{union_canon, union_every}
use Rattle.model.proofs.Conjuncts.Gather.{gather-canon, gather-every}
use Rattle.model.proofs.Walks.Invariant.{walk_keeps, sites_keep, join_keeps}
use Rattle.model.proofs.Conjuncts.Limits.{limits_cases}
use Rattle.model.proofs.Basics.Lists.{all_of, all_map}
use Rattle.model.proofs.Conjuncts.Renumber.{renumber_idem}
use Rattle.model.proofs.Basics.Results.{Gives, gives_ok}
use Rattle.model.proofs.Walks.Trees.{each_any}

-- ---- the rules

limits-tidy : (S : Conjuncts) → Canon S → All Numbered S → Gives Tidy (limits S)
limits-tidy S h k = limits_cases (Gives Tidy) S tt tt (λ f. record { canon = h; numbered = k; fine = f })

gather-tidy : (f : Conj → List Conj) (S : Conjuncts) → Gives Tidy (limits (gather f S))
gather-tidy f S =
    limits-tidy (gather f S) (gather-canon f S)
    (gather-every Numbered f (λ e. Unit {0}) (λ e u. all_map Numbered renumber (f e) (all_of renumber_idem (f e))) S (all_of (λ e. tt) S))

pub union_tidy : (R S : Conjuncts) → Tidy R → Tidy S → Gives Tidy (limits (union_of R S))
union_tidy R S h k = limits-tidy (union_of R S) (union_canon R S k.canon) (union_every Numbered R S h.numbered k.numbered)

pub back-tidy : (l : ℕ) (i : Instr) (S : Conjuncts) → Gives Tidy (back l i S)
unfolding back
back-tidy l i S = gather-tidy (before l i) S

pub start-tidy : (S : Conjuncts) → Gives Tidy (start S)
unfolding start
start-tidy S = gather-tidy (λ e. map zeroed e ∷ []) S

-- ---- the analysis

empty-tidy : Tidy []
unfolding long
empty-tidy = record { canon = tt; numbered = tt; fine = record { short = refl; few = zero-le } }

pub site-tidy : (a ty : ℕ) → Tidy ((var a ty ∷ []) ∷ [])
unfolding long renumber atoms
site-tidy a ty = record { canon = (tt, tt); numbered = (refl, tt); fine = record { short = refl; few = omega arith } }

pub walk-tidy : (c : Code) (C : Conjuncts) → Tidy C → Gives Tidy (walk c C)
walk-tidy c = walk_keeps Tidy (λ n. Unit {0}) union_tidy tt (λ i. Unit {0}) (λ l i w S s. back-tidy l i S) c (each_any c)

pub sites-tidy : (c : Code) → All (Gives Tidy) (sites c)
sites-tidy c = sites_keep Tidy (λ n. Unit {0}) union_tidy tt (λ i. Unit {0}) (λ l i w S s. back-tidy l i S) (λ a ty w. site-tidy a ty) c (each_any c)

pub derived-tidy : (c : Code) (R : Conjuncts) → derived c ≡ ok R → Tidy R
unfolding derived
derived-tidy c R p =
    gives_ok Tidy (join [] (sites c)) R p (join_keeps Tidy (λ n. Unit {0}) union_tidy Tidy (λ S s. start-tidy S) [] (sites c) empty-tidy (sites-tidy c))
