-- The model's test of an input: it is passed if and only if every pair is right, the last one ends the file, and the bits of each
-- field hold its readings. The test of the pairs goes pair by pair.
use Rattle.std.specs.Prelude.{Ok, Err}
use mathlib.Core.Path.{◌≡◌, refl, sym, ◌∙◌, ap}
use mathlib.Core.Bool.{Bool, true, false, ◌&&◌}
use mathlib.Core.List.{List, ◌∷◌}
use Prim.Native.Nat.{ℕ, zero, suc, ◌+◌, ◌*◌, ◌%◌, ◌≤◌, ◌<◌}
use native.Mathlib.Omega.{arith}
use lib.Dec.{leb, eqb}
use lib.ListN.{length, get_or, drop}
use lib.Seq.{drop-cons, drop-length}
use borrow.Author.Tests.{eq-eqb, ne_eqb, eqb-true, le-leb, leb-true}
use Rattle.model.specs.Refusals.{Out, ok, refused, mapped, check, wrong_input}
use Rattle.model.specs.Bytes.{Pair, pair_at, entries, pairs_at, chained}
use Rattle.model.specs.Fields.{Field, types_in}
use Rattle.model.specs.Input.{width, lengths_right, bits_right_lem, read_input}
use Rattle.model.proofs.Basics.Results.{ok_eq, refused-ok}
use Rattle.model.proofs.Basics.Tests.{case, and_left, and_right}
use Rattle.model.proofs.Files.Parts.{chained_le}
use Rattle.model.proofs.Files.FieldTables.{length_types}
use Rattle.model.proofs.Basics.Results.{mapped-check}
use Rattle.input.specs.FirstWrong.{end_of, PairRight, start_of, RightAt, RightBefore, PairsAre}

-- ---- the test

abbrev test : ℕ → List ℕ → List Pair → ℕ → Bool
test start types pairs size = chained start pairs size && lengths_right types pairs

unfoldable pub pairs_right_lem : List ℕ → List ℕ → Bool
pairs_right_lem types s = test (8 * length types) types (pairs_at s 0 (length types)) (length s)

unfoldable pub readings_right : List Field → List ℕ → Bool
readings_right fields s = bits_right_lem fields s (pairs_at s 0 (length fields))

pub readings-are : (fields : List Field) (s : List ℕ) → readings_right fields s ≡ bits_right_lem fields s (pairs_at s 0 (length fields))
unfolding readings_right
readings-are fields s = refl

pub read-check : (fields : List Field) (s : List ℕ)
    → mapped (λ I. tt {0}) (read_input fields s) ≡ check (pairs_right_lem (types_in fields) s && readings_right fields s) wrong_input (ok tt)
unfolding read_input pairs_right_lem readings_right
read-check fields s =
    rw (length_types fields)
    (mapped-check (λ I. tt {0}) (test (8 * length fields) (types_in fields) (pairs_at s 0 (length fields)) (length s) && readings_right fields s) wrong_input _)

-- ---- one pair, and those behind it

module _ (ty : ℕ) (types : List ℕ) (p : Pair) (ps : List Pair) (start size : ℕ) where
  -- what is asked of the length
  length_right : Bool
  length_right = eqb (p.len % width ty) 0 && leb p.len (128 * width ty)

  -- where the test is passed, the pair is right and the others pass
  split : test start (ty ∷ types) (p ∷ ps) size ≡ true → PairRight ty p start size × (test (end_of p) types ps size ≡ true)
  unfolding chained lengths_right length_right
  split h =
      let chain = and_left (chained start (p ∷ ps) size) (lengths_right (ty ∷ types) (p ∷ ps)) h in
      let lengths = and_right (chained start (p ∷ ps) size) (lengths_right (ty ∷ types) (p ∷ ps)) h in
      let begins = eqb-true p.offset start (and_left (eqb p.offset start) (chained (start + p.len) ps size) chain) in
      let others = and_right (eqb p.offset start) (chained (start + p.len) ps size) chain in
      let len = and_left length_right (lengths_right types ps) lengths in
      let e : start + p.len ≡ end_of p = omega arith in (
        record {
          begins = begins;
          whole = eqb-true (p.len % width ty) 0 (and_left (eqb (p.len % width ty) 0) (leb p.len (128 * width ty)) len);
          few = leb-true p.len (128 * width ty) (and_right (eqb (p.len % width ty) 0) (leb p.len (128 * width ty)) len);
          inside = omega (arith, chained_le ps (start + p.len) size others);
        },
        rw (← e, others, and_right length_right (lengths_right types ps) lengths),
      )

  -- where the pair is right, the others decide
  joined : PairRight ty p start size → test start (ty ∷ types) (p ∷ ps) size ≡ test (end_of p) types ps size
  unfolding chained lengths_right
  joined r =
      let e : start + p.len ≡ end_of p = omega (arith, r.begins) in
      rw (eq-eqb p.offset start r.begins, eq-eqb (p.len % width ty) 0 r.whole, le-leb p.len (128 * width ty) r.few, e)

-- ---- the pairs from a field on

module _ (types s : List ℕ) where
  rest : ℕ → Bool
  rest k = test (start_of (length types) s k) (drop k types) (pairs_at s (8 * k) (length (drop k types))) (length s)

  -- they are the field's own and those from the next one on
  opened : (k : ℕ) → k < length types
      → rest k ≡ test (start_of (length types) s k) (get_or types k 0 ∷ drop (suc k) types)
      (pair_at s (8 * k) ∷ pairs_at s (8 * suc k) (length (drop (suc k) types))) (length s)
  unfolding rest entries
  opened k h =
      let e : 8 * k + 8 ≡ 8 * suc k = omega arith in
      rw (drop-cons types k 0 h, e)

  right-here : (k : ℕ) → k < length types → rest k ≡ true → RightAt types s k × (rest (suc k) ≡ true)
  unfolding rest
  right-here k h e = split (get_or types k 0) (drop (suc k) types) (pair_at s (8 * k)) _ _ _ (sym (opened k h) ∙ e)

  right_on : (k : ℕ) → k < length types → RightAt types s k → rest k ≡ rest (suc k)
  unfolding rest
  right_on k h r = opened k h ∙ joined (get_or types k 0) (drop (suc k) types) (pair_at s (8 * k)) _ _ _ r

  -- where all before a field are right, the others decide
  rest-before : (k : ℕ) → k ≤ length types → RightBefore types s k → rest 0 ≡ rest k
  rest-before zero h r = refl
  rest-before (suc k) h r = rest-before k (omega arith) (λ f g. r f (omega arith)) ∙ right_on k (omega arith) (r k (omega arith))

  -- where the test is passed, it is passed from every field on
  passed : rest 0 ≡ true → (k : ℕ) → k ≤ length types → rest k ≡ true
  passed e zero h = e
  passed e (suc k) h = (right-here k (omega arith) (passed e k (omega arith))).1

  rest-whole : pairs_right_lem types s ≡ rest 0
  unfolding pairs_right_lem rest
  rest-whole = refl

  rest-none : rest (length types) ≡ eqb (start_of (length types) s (length types)) (length s)
  unfolding rest entries chained lengths_right
  rest-none =
      rw drop-length (case (eqb (start_of (length types) s (length types)) (length s)) (λ z. (z && true) ≡ z) (λ e. refl) (λ e. refl))

  -- where the pairs pass, every one is right
  pub all_right : pairs_right_lem types s ≡ true → RightBefore types s (length types)
  all_right e k h = (right-here k h (passed (sym rest-whole ∙ e) k (omega arith))).0

  -- where every pair is right, where the last one ends decides
  pub end-decides : RightBefore types s (length types) → pairs_right_lem types s ≡ eqb (start_of (length types) s (length types)) (length s)
  end-decides r = rest-whole ∙ rest-before (length types) (omega arith) r ∙ rest-none

  -- where all before a field are right, the next one is to begin inside the file
  start-inside : (n : ℕ) → RightBefore types s n → start_of n s n ≤ length s
  start-inside zero r = omega arith
  start-inside (suc n) r = (r n (omega arith)).inside

  module _ (e : ℕ) (r : PairsAre types s (Ok e)) where
    pub ends-inside : e ≤ length s
    ends-inside = omega (arith, r.1, start-inside (length types) r.0)

    by_end : pairs_right_lem types s ≡ eqb e (length s)
    by_end = end-decides r.0 ∙ ap (λ a. eqb a (length s)) (sym r.1)

-- ---- the answer, by what is found of the pairs and the readings

module _ (fields : List Field) (s : List ℕ) where
  abbrev Answers : Out (Unit {0}) → Type 0
  Answers o = mapped (λ I. tt {0}) (read_input fields s) ≡ o

  pairs_wrong : pairs_right_lem (types_in fields) s ≡ false → Answers (refused wrong_input)
  pairs_wrong e = read-check fields s ∙ rw e

  pub one_wrong : (f : ℕ) → PairsAre (types_in fields) s (Err f) → Answers (refused wrong_input)
  one_wrong f w =
      case (pairs_right_lem (types_in fields) s) (λ z. pairs_right_lem (types_in fields) s ≡ z → Answers (refused wrong_input))
      (λ e q. absurd (w.1 (all_right (types_in fields) s e f w.0))) (λ e q. pairs_wrong q) refl

  module _ (e : ℕ) (r : PairsAre (types_in fields) s (Ok e)) where
    pub ends_elsewhere : (e ≡ length s → ⊥) → Answers (refused wrong_input)
    ends_elsewhere h = pairs_wrong (by_end (types_in fields) s e r ∙ ne_eqb e (length s) h)

    pub readings_decide : e ≡ length s → Answers (check (readings_right fields s) wrong_input (ok tt))
    readings_decide h = read-check fields s ∙ rw (by_end (types_in fields) s e r ∙ eq-eqb e (length s) h)

-- and the answer with a value in the place of its unit
pub with_value : {A B : Type 0} (b : B) (o : Out A) (p : Out (Unit {0})) → mapped (λ (x : A). tt {0}) o ≡ p → mapped (λ (x : A). b) o ≡ mapped (λ (u : Unit {0}). b) p
with_value b (ok a) p e = ap (mapped (λ (u : Unit {0}). b)) e
with_value b (refused n) p e = ap (mapped (λ (u : Unit {0}). b)) e

-- what is read with one answer is that answer
pub constant_read : {A B : Type 0} (b : B) (o : Out A) (v : B) → ok v ≡ mapped (λ (x : A). b) o → v ≡ b
constant_read b (ok a) v e = ok_eq v b e
constant_read b (refused n) v e = absurd (refused-ok n v (sym e))
