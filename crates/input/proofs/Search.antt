-- The search for the first wrong pair: what is known after some right pairs; and at most one answer is true.
use Rattle.std.specs.Prelude.{Option, Some, None, Result, Ok, Err}
use mathlib.Core.Path.{◌≡◌, refl, sym, ◌∙◌, ap, subst}
use mathlib.Core.List.{List}
use Prim.Native.Nat.{ℕ, ◌+◌, ◌*◌, ◌/◌, ◌≤◌, ◌<◌}
use native.Mathlib.Omega.{arith}
use native.Mathlib.Numerals.{add-one}
use lib.Dec.{leb}
use lib.ListN.{length, get_or}
use borrow.Author.Count.{below_none, below_more}
use borrow.Author.Tests.{leb-true, leb-false}
use Rattle.model.specs.Bytes.{pair_at}
use Rattle.model.specs.Fields.{types_in, fields_in}
use Rattle.model.proofs.Files.FieldTables.{types-length, type_in}
use Rattle.model.proofs.Basics.Tests.{case}
use Rattle.input.specs.FirstWrong.{PairRight, start_of, RightAt, RightBefore, PartIs, PairsAre}

-- ---- from pair to pair

module _ (types s : List ℕ) where
  -- the pairs before f are right, and its own is to begin at a place
  pub record RightSoFar (f next : ℕ) : Type 0 where
    pub starts : next ≡ start_of (length types) s f
    pub before : RightBefore types s f

  -- a file that is shorter than its table
  pub short-first : length s / 8 < length types → PairsAre types s (Err 0)
  short-first h = (omega arith, λ r. absurd (omega (arith, r.begins, r.inside)), below_none (RightAt types s))

  pub right-start : RightSoFar 0 (8 * length types)
  right-start = record { starts = refl; before = below_none (RightAt types s) }

  module _ (f next : ℕ) (so : RightSoFar f next) where
    abbrev Says : Option ℕ → Type 0
    Says = PartIs (get_or types f 0) (pair_at s (8 * f)) next (length s)

    pub right-more : (e : ℕ) → Says (Some e) → RightSoFar (f + 1) e
    right-more e r =
        let right : RightAt types s f = subst (λ a. PairRight (get_or types f 0) (pair_at s (8 * f)) a (length s)) so.starts r.0 in
        record { starts = r.1 ∙ rw (add-one f); before = below_more (RightAt types s) f so.before right }

    pub wrong-here : f < length types → Says None → PairsAre types s (Err f)
    wrong-here h r = (h, λ q. r (subst (λ a. PairRight (get_or types f 0) (pair_at s (8 * f)) a (length s)) (sym so.starts) q), so.before)

    pub all-right : f ≡ length types → PairsAre types s (Ok next)
    all-right e = (subst (RightBefore types s) e so.before, so.starts ∙ ap (start_of (length types) s) e)

-- ---- fields by the bytes of their table

-- what is said of a field's pair by the byte in the table is said by the field's type
pub by_type : (table s : List ℕ) (f next : ℕ) (a r : Option ℕ) → a ≡ r → f < length table / 2
    → PartIs (get_or table (2 * f) 0) (pair_at s (8 * f)) next (length s) a
    → PartIs (get_or (types_in (fields_in table)) f 0) (pair_at s (8 * f)) next (length s) r
by_type table s f next a r e h said =
    subst (PartIs (get_or (types_in (fields_in table)) f 0) (pair_at s (8 * f)) next (length s)) e
    (subst (λ ty. PartIs ty (pair_at s (8 * f)) next (length s) a) (sym (type_in table f h)) said)

-- a field's pair is wrong, those before it are right, and it is the one that is named
pub wrong_named : (table s : List ℕ) (f g next : ℕ) (r : Option ℕ) → RightSoFar (types_in (fields_in table)) s f next
    → PartIs (get_or table (2 * f) 0) (pair_at s (8 * f)) next (length s) r → r ≡ None → f < length table / 2 → g ≡ f
    → PairsAre (types_in (fields_in table)) s (Err g)
wrong_named table s f g next r so said none h e =
    let types = types_in (fields_in table) in
    subst (λ n. PairsAre types s (Err n)) (sym e)
    (wrong-here types s f next so (omega (arith, types-length table)) (by_type table s f next r None none h said))

-- ---- at most one answer is true

module _ (types s : List ℕ) where
  not-later : (f g : ℕ) → PairsAre types s (Err f) → PairsAre types s (Err g) → g ≤ f
  not-later f g a b = case (leb g f) (λ z. g ≤ f) (leb-true g f) (λ q. absurd (a.1 (b.2 f (leb-false g f q))))

  pub one_answer : (a b : Result ℕ ℕ) → PairsAre types s a → PairsAre types s b → a ≡ b
  one_answer (Ok e) (Ok d) a b = ap Ok (a.1 ∙ sym b.1)
  one_answer (Ok e) (Err g) a b = absurd (b.1 (a.0 g b.0))
  one_answer (Err f) (Ok d) a b = absurd (a.1 (b.0 f a.0))
  one_answer (Err f) (Err g) a b =
      let e : f ≡ g = omega (arith, not-later f g a b, not-later g f b a) in
      ap Err e
