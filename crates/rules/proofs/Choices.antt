-- The j-th of the conjuncts for the subsets of a list of atoms, atom by atom: the lower half leaves the first atom, the upper half
-- replaces it.
use mathlib.Core.List.{List, [], ◌∷◌, map}
use mathlib.Core.Path.{◌≡◌, sym, ap, subst, ◌∙◌}
use Prim.Native.Nat.{ℕ, zero, suc, ◌+◌, ◌-◌, ◌*◌, ◌/◌, ◌^◌, ◌<◌, ◌≤◌}
use native.Mathlib.Nat.{pow-suc}
use native.Mathlib.Numerals.{add-one}
use native.Mathlib.Omega.{arith}
use lib.ListN.{length, get_or, take, drop, length-drop, length-map, get_or-append}
use lib.Seq.{get_or-append-add, length-take-le, drop-cons, drop-length}
use Rattle.model.specs.Conjunct.{field, Atom, const, atom, Conj}
use Rattle.model.specs.Walk.{swap, subsets}
use Rattle.conjunct.specs.Word.{node_of, nodes_of_lem}
use Rattle.rules.proofs.Distinct.{subsets-length}

-- what stands past the end of a list of atoms
abbrev pub no_atom_lem : Atom
no_atom_lem = record { src = field 0 0; n = 0 }

-- ---- the words of atoms

-- how many they are
pub atoms-count : (l : List ℕ) (m : ℕ) (ks : List Atom) → m ≤ length l → nodes_of_lem (take m l) ≡ map atom ks → length ks ≡ m
atoms-count l m ks h e = sym (length-map ks atom) ∙ ap length (sym e) ∙ length-map (take m l) node_of ∙ length-take-le m l h

pub atoms-length : (l : List ℕ) (ks : List Atom) → nodes_of_lem l ≡ map atom ks → length ks ≡ length l
atoms-length l ks e = sym (length-map ks atom) ∙ ap length (sym e) ∙ length-map l node_of

pub word-atom : (ws : List ℕ) (ks : List Atom) (i : ℕ) → nodes_of_lem ws ≡ map atom ks → i < length ks → node_of (get_or ws i 0) ≡ atom (get_or ks i no_atom_lem)
word-atom ws [] i e h = absurd (omega arith)
word-atom [] (k ∷ ks) i e h = absurd (omega (arith, ap length e))
word-atom (w ∷ ws) (k ∷ ks) zero e h = ap (λ l. get_or l 0 (const 0 0)) e
word-atom (w ∷ ws) (k ∷ ks) (suc i) e h = word-atom ws ks i (ap (drop 1) e) (omega arith)

-- ---- halves

pub twice_half : (n i : ℕ) → i < n → 2 ^ (n - i) ≡ 2 * 2 ^ (n - (i + 1))
twice_half n i h =
    let e : n - i ≡ suc (n - (i + 1)) = omega arith in
    rw (e, pow-suc) (omega arith)

pub half_power : (n i : ℕ) → i < n → 2 ^ (n - i) / 2 ≡ 2 ^ (n - (i + 1))
half_power n i h = omega (arith, twice_half n i h)

module _ (x ty : ℕ) (a : Atom) (ks : List Atom) (e : Conj) (j : ℕ) where
  subset-low : j < 2 ^ length ks → get_or (subsets (a ∷ ks) x ty e) j [] ≡ get_or (subsets ks x ty e) j []
  unfolding subsets
  subset-low h = get_or-append (subsets ks x ty e) (subsets ks x ty (swap a x ty e)) [] j (rw (subsets-length x ty ks e) h)

  subset-high : 2 ^ length ks ≤ j → get_or (subsets (a ∷ ks) x ty e) j [] ≡ get_or (subsets ks x ty (swap a x ty e)) (j - 2 ^ length ks) []
  unfolding subsets
  subset-high h =
      let A = subsets ks x ty e in
      let B = subsets ks x ty (swap a x ty e) in
      let m : j ≡ length A + (j - 2 ^ length ks) = omega (arith, subsets-length x ty ks e) in
      subst (λ i. get_or (subsets (a ∷ ks) x ty e) i [] ≡ get_or B (j - 2 ^ length ks) []) (sym m) (get_or-append-add A B (j - 2 ^ length ks) [])

-- ---- one atom more

-- what is left to choose of the j-th conjunct after i atoms
abbrev pub Left : List Atom → (x ty : ℕ) → Conj → ℕ → ℕ → Conj → ℕ → Type 0
Left ks x ty e j i r rest = get_or (subsets ks x ty e) j [] ≡ get_or (subsets (drop i ks) x ty r) rest []

module _ (ks : List Atom) (x ty : ℕ) (e : Conj) (n j i : ℕ) (r : Conj) (rest half : ℕ) (len : length ks ≡ n) (h : i < n)
    (power : half ≡ 2 ^ (n - (i + 1))) (so : Left ks x ty e j i r rest) where
  abbrev more : List Atom
  more = drop (suc i) ks

  next : get_or (subsets ks x ty e) j [] ≡ get_or (subsets (get_or ks i no_atom_lem ∷ more) x ty r) rest []
  next = so ∙ ap (λ l. get_or (subsets l x ty r) rest []) (drop-cons ks i no_atom_lem (omega arith))

  half_is : half ≡ 2 ^ length more
  half_is =
      let m : n - (i + 1) ≡ length more = omega (arith, length-drop (suc i) ks) in
      power ∙ ap (2 ^◌) m

  pub atom-left : rest < half → Left ks x ty e j (i + 1) r rest
  atom-left g = rw (add-one i) (next ∙ subset-low x ty (get_or ks i no_atom_lem) more r rest (omega (arith, half_is)))

  pub atom_replaced : half ≤ rest → (r' : Conj) → r' ≡ swap (get_or ks i no_atom_lem) x ty r → Left ks x ty e j (i + 1) r' (rest - half)
  atom_replaced g r' q =
      rw (add-one i, q, half_is) (next ∙ subset-high x ty (get_or ks i no_atom_lem) more r rest (omega (arith, half_is)))

pub all-chosen : (ks : List Atom) (x ty : ℕ) (e : Conj) (j i : ℕ) (r : Conj) (rest : ℕ) → length ks ≡ i → rest < 1 → Left ks x ty e j i r rest
    → r ≡ get_or (subsets ks x ty e) j []
unfolding subsets
all-chosen ks x ty e j i r rest len h so =
    let z : drop i ks ≡ [] = ap (λ k. drop k ks) (sym len) ∙ drop-length ks in
    let o : rest ≡ 0 = omega arith in
    sym (so ∙ rw (z, o))
