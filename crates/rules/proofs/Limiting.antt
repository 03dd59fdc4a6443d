-- When the limits refuse a set and with which number, and that the set of a region is always within them.
use mathlib.Core.Bool.{Bool, true, false, ◌||◌, cond}
use mathlib.Core.List.{List, [], ◌∷◌, map}
use mathlib.Core.Logic.{inl, inr}
use mathlib.Core.Path.{◌≡◌, refl, ap}
use Prim.Native.Nat.{ℕ, zero, suc, ◌+◌, ◌≤◌, ◌<◌}
use native.Mathlib.Omega.{arith}
use lib.Dec.{ltb, eqb}
use lib.ListN.{length, get_or, take, drop, length-map}
use borrow.Author.Tests.{lt-ltb}
use Rattle.model.specs.Code.{store}
use Rattle.model.specs.Conjunct.{Atom, atom, var, Conj, Conjuncts, long, limits, same_atom, atoms, renamed, on_atom_lem, renumber}
use Rattle.model.specs.Lists.{All}
use Rattle.model.specs.Refusals.{ok, refused, too_many_conjuncts, too_many_nodes}
use Rattle.model.specs.Walk.{on_array, loads, swap, swap_all, subsets, before, gather}
use Rattle.model.specs.Sizes.{most_conjuncts, most_nodes}
use Rattle.model.proofs.Conjuncts.Limits.{fine-limits, all_short}
use Rattle.model.proofs.Basics.Lists.{all_append, all_map, all_imp}
use Rattle.model.proofs.Conjuncts.Gather.{gather-every}
use Rattle.model.proofs.Basics.Tests.{case}
use Rattle.model.specs.TidySets.{Mem}
use Rattle.conjunct.specs.Word.{node_of, nodes_of_lem}
use Rattle.sets.proofs.Rows.{set-few, take_short}
use Rattle.sets.specs.Region.{few, slot_at, rows_from, rows_of, set_of, slot_words}

-- ---- refused

or_true : (a : Bool) → (a || true) ≡ true
or_true true = refl
or_true false = refl

long-member : (G : Conjuncts) (x : Conj) → Mem x G → most_nodes < length x → long G ≡ true
unfolding long
long-member [] x m h = absurd m
long-member (e ∷ G) x (inl p) h = rw (lt-ltb most_nodes (length e) (omega (arith, ap length p)))
long-member (e ∷ G) x (inr m) h = rw (long-member G x m h) (or_true (ltb most_nodes (length e)))

-- by 9 for a conjunct over 120 nodes
pub limits_nine : (G : Conjuncts) (x : Conj) → Mem x G → most_nodes < length x → limits G ≡ refused too_many_nodes
unfolding limits
limits_nine G x m h = rw (long-member G x m h)

-- by 10 for more than 64, none of them over 120 nodes
pub limits_ten : (G : Conjuncts) → long G ≡ false → most_conjuncts < length G → limits G ≡ refused too_many_conjuncts
unfolding limits
limits_ten G h k = rw (h, lt-ltb most_conjuncts (length G) k)

-- ---- short conjuncts

pub renumber-length : (e : Conj) → length (renumber e) ≡ length e
unfolding renumber
renumber-length e = length-map e (on_atom_lem (λ a. atom (renamed (atoms e) a)))

-- a store makes no conjunct longer
module _ (x ty : ℕ) where
  subsets-short : (ks : List Atom) (e : Conj) → length e ≤ most_nodes → All (λ c. length c ≤ most_nodes) (subsets ks x ty e)
  unfolding subsets swap
  subsets-short [] e h = (h, tt)
  subsets-short (a ∷ ks) e h =
      all_append (λ c. length c ≤ most_nodes) (subsets ks x ty e) (subsets ks x ty (swap a x ty e)) (subsets-short ks e h)
      (subsets-short ks (swap a x ty e) (omega (arith, length-map e (on_atom_lem (λ b. cond (same_atom b a) (var x ty) (atom b))))))

  module _ (l t k i : ℕ) where
    before-short : (e : Conj) → length e ≤ most_nodes → All (λ c. length c ≤ most_nodes) (before l (store t k i x ty) e)
    unfolding before swap_all
    before-short e h =
        case (eqb k 1) (λ z. All (λ c. length c ≤ most_nodes) (cond z (swap_all t k x ty e ∷ []) (subsets (loads t k (atoms e)) x ty e)))
        (λ q. (omega (arith, length-map e (on_atom_lem (λ b. cond (on_array t k b.src) (var x ty) (atom b)))), tt))
        (λ q. subsets-short (loads t k (atoms e)) e h)

    pub store-short : (S : Conjuncts) → All (λ e. length e ≤ most_nodes) S → long (gather (before l (store t k i x ty)) S) ≡ false
    store-short S h =
        all_short (gather (before l (store t k i x ty)) S)
        (gather-every (λ e. length e ≤ most_nodes) (before l (store t k i x ty)) (λ e. length e ≤ most_nodes)
        (λ e g. all_map (λ c. length c ≤ most_nodes) renumber (before l (store t k i x ty) e)
        (all_imp (λ c q. omega (arith, renumber-length c)) (before l (store t k i x ty) e) (before-short e g)))
        S h)

-- ---- the set of a region

pub take-few : (m : ℕ) (l : List ℕ) → length (take m l) ≤ m
take-few zero l = omega arith
take-few (suc m) [] = omega arith
take-few (suc m) (x ∷ l) = omega (arith, take-few m l)

slot-short : (s : List ℕ) (a : ℕ) → length (nodes_of_lem (slot_at s a)) ≤ most_nodes
unfolding slot_at
slot-short s a =
    let l = take most_nodes (drop (a + 1) s) in
    omega (arith, length-map (take (get_or s a 0) l) node_of, take_short (get_or s a 0) l, take-few most_nodes (drop (a + 1) s))

rows_short : (n : ℕ) (s : List ℕ) (a : ℕ) → All (λ e. length e ≤ most_nodes) (map nodes_of_lem (rows_from s a n))
unfolding rows_from
rows_short zero s a = tt
rows_short (suc n) s a = (slot-short s a, rows_short n s (a + slot_words))

pub set-short : (s : List ℕ) (b : ℕ) → All (λ e. length e ≤ most_nodes) (set_of s b)
unfolding set_of rows_of
set-short s b = rows_short (few (get_or s b 0)) s (b + 1)

pub set-limits : (s : List ℕ) (b : ℕ) → limits (set_of s b) ≡ ok (set_of s b)
set-limits s b =
    fine-limits (set_of s b) (record { short = all_short (set_of s b) (set-short s b); few = set-few s b })
