-- The passes over pairs and nodes, turn by turn: what is left from a place on.
use mathlib.Core.Path.{◌≡◌, refl, sym}
use mathlib.Core.Bool.{Bool, true, false}
use mathlib.Core.List.{List, ◌∷◌}
use Prim.Native.Nat.{ℕ, ◌+◌, ◌*◌, ◌-◌, ◌/◌, ◌≤◌, ◌<◌}
use native.Mathlib.Nat.{add-zero}
use native.Mathlib.Omega.{arith}
use lib.Dec.{eqb}
use lib.ListN.{length}
use borrow.Author.Tests.{eq-eqb, ne_eqb}
use Rattle.model.specs.Sizes.{pair_size_lem, node_size}
use Rattle.model.specs.Lists.{every}
use Rattle.model.specs.Refusals.{Out, ok, refused, check, wrong_condition}
use Rattle.model.specs.Conjunct.{Node}
use Rattle.model.proofs.Basics.Results.{refused-ok}
use Rattle.model.specs.Bytes.{Pair, pair_at, entries, pairs_at, chained}
use Rattle.model.specs.Condition.{node_at, node_right_lem}
use Rattle.model.proofs.Basics.Results.{check-ok}
use Rattle.model.proofs.Files.Parts.{entries-step}
use Rattle.condition.specs.Answers.{formed, part_right_lem}

-- ---- pairs

-- those from the one with number i on
abbrev pub pairs_from : List ℕ → ℕ → ℕ → ℕ → List Pair
pairs_from s at n i = pairs_at s (at + pair_size_lem * i) (n - i)

pub pairs_all : (s : List ℕ) (at n : ℕ) → pairs_from s at n 0 ≡ pairs_at s at n
pairs_all s at n =
    let e : n - 0 ≡ n = omega arith in
    rw (e, add-zero at)

pub pairs_step : (s : List ℕ) (at n i : ℕ) → i < n → pairs_from s at n i ≡ pair_at s (at + pair_size_lem * i) ∷ pairs_from s at n (i + 1)
pairs_step s at n i h = entries-step pair_at pair_size_lem s (at + pair_size_lem * i) (at + pair_size_lem * (i + 1)) (n - i) (n - (i + 1)) (omega arith) (omega arith)

module _ (s : List ℕ) (at n i start o l : ℕ) (more : i < n) (eo : o ≡ (pair_at s (at + pair_size_lem * i)).offset) (el : l ≡ (pair_at s (at + pair_size_lem * i)).len)
    (end : ℕ) where
  pub chained_off : (o ≡ start → ⊥) → chained start (pairs_from s at n i) end ≡ false
  unfolding chained
  chained_off h = rw (pairs_step s at n i more, ← eo, ne_eqb o start h)

  pub chained_on : o ≡ start → chained start (pairs_from s at n i) end ≡ chained (o + l) (pairs_from s at n (i + 1)) end
  unfolding chained
  chained_on h = rw (pairs_step s at n i more, ← eo, ← el, eq-eqb o start h, h)

pub chained-end : (s : List ℕ) (at n i start end : ℕ) → n ≤ i → chained start (pairs_from s at n i) end ≡ eqb start end
unfolding chained entries
chained-end s at n i start end h = let e : n - i ≡ 0 = omega arith in rw e

-- ---- a test that is refused

wrong_of : {A : Type 0} (b : Bool) (n : ℕ) (a : A) → refused n ≡ check b wrong_condition (ok a) → (b ≡ false) × (n ≡ wrong_condition)
wrong_of true n a e = absurd (refused-ok n a e)
wrong_of false n a e = (refl, cc)

-- ---- nodes

-- the forms of those from the one with number k on
abbrev pub forms_from : List ℕ → List ℕ → ℕ → ℕ → List Bool
forms_from types s n k = entries (node_right_lem types) node_size s (node_size * k) (n - k)

pub forms_all : (types s : List ℕ) (n : ℕ) → n ≡ length s / node_size → part_right_lem types s ≡ every (λ b. b) (forms_from types s n 0)
forms_all types s n e = let f : n - 0 ≡ n = omega arith in rw (f, e)

module _ (types s : List ℕ) (n k : ℕ) (more : k < n) where
  forms_step : forms_from types s n k ≡ node_right_lem types s (node_size * k) ∷ forms_from types s n (k + 1)
  forms_step = entries-step (node_right_lem types) node_size s (node_size * k) (node_size * (k + 1)) (n - k) (n - (k + 1)) (omega arith) (omega arith)

  -- what the reader answers of the node with number k
  abbrev Answered : Out Node → Type 0
  Answered o = o ≡ check (node_right_lem types s (node_size * k)) wrong_condition (ok (node_at s (node_size * k)))

  pub forms_on : (v : Node) → Answered (ok v) → every (λ b. b) (forms_from types s n k) ≡ every (λ b. b) (forms_from types s n (k + 1))
  unfolding every
  forms_on v e =
      let a = node_size * k in
      rw (forms_step, (check-ok (node_right_lem types s a) wrong_condition (ok (node_at s a)) v (sym e)).0)

  -- the refusal is the condition's
  pub forms_off : (m : ℕ) → Answered (refused m) → (every (λ b. b) (forms_from types s n k) ≡ false) × (m ≡ wrong_condition)
  unfolding every
  forms_off m e =
      let w = wrong_of (node_right_lem types s (node_size * k)) m (node_at s (node_size * k)) e in
      (rw (forms_step, w.0), w.1)

pub forms_end : (types s : List ℕ) (n k : ℕ) → n ≤ k → every (λ b. b) (forms_from types s n k) ≡ true
unfolding every entries
forms_end types s n k h = let e : n - k ≡ 0 = omega arith in rw e

-- ---- the answer to a test of the form

pub formed-true : (b : Bool) → ok tt ≡ formed b → b ≡ true
formed-true true e = refl
formed-true false e = cc

pub formed-false : (b : Bool) (n : ℕ) → refused n ≡ formed b → (b ≡ false) × (n ≡ wrong_condition)
formed-false b n e = wrong_of b n tt e
