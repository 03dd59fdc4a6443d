-- The statements of a procedure, and the tests of the procedures of a table one by one.
use mathlib.Core.Path.{◌≡◌, ap, ◌∙◌}
use mathlib.Core.Bool.{true, ◌&&◌}
use mathlib.Core.List.{List}
use Prim.Native.Nat.{ℕ, ◌+◌, ◌-◌, ◌*◌, ◌≤◌, ◌<◌}
use native.Mathlib.Numerals.{add-one}
use native.Mathlib.Omega.{arith}
use lib.ListN.{length, get_or, drop, length-drop, drop_of_length-le}
use lib.Seq.{drop-cons, get_or-take, get_or-drop, length-take-le}
use Rattle.model.specs.Lists.{every}
use Rattle.model.specs.Sizes.{most_statements}
use Rattle.model.specs.Code.{end}
use Rattle.model.specs.Procedures.{own, Procedure, procedure_right_lem, procedures_right_lem, apart, all_apart_lem}
use Rattle.model.specs.Program.{Tables, items_of}
use Rattle.program.specs.Parts.{item_at, procedure_between, begin_in, end_in, PartsListed}
use Rattle.program.specs.Reading.{tables_of}
use Rattle.program.specs.declared.procedures.Main.{Main}
use Rattle.program.proofs.Listing.{no_procedure_lem}

-- ---- the statements of a procedure

module _ (T : Tables) (b e : ℕ) where
  pub body-length : e ≤ length (items_of T) → length (procedure_between T b e).body ≡ e - (b + 1)
  body-length h = length-take-le (e - (b + 1)) (drop (b + 1) (items_of T)) (rw (length-drop (b + 1) (items_of T)) (omega arith))

  pub body-at : (i : ℕ) → b < i → i < e → get_or (procedure_between T b e).body (i - (b + 1)) (own end) ≡ item_at T i
  body-at i h k =
      let place : b + 1 + (i - (b + 1)) ≡ i = omega arith in
      get_or-take (e - (b + 1)) (drop (b + 1) (items_of T)) (i - (b + 1)) (own end) (omega arith)
      ∙ get_or-drop (b + 1) (items_of T) (i - (b + 1)) (own end) ∙ ap (item_at T) place

-- ---- the procedures of a table

-- where a procedure of a table stands
pub record ListedAt (s t : List ℕ) (p : ℕ) : Type 0 where
  pub later : begin_in t p < end_in t p
  pub inside : end_in t p < length (tables_of s).statements
  pub room : 2 * p + 1 < length t
  pub small : p < most_statements

pub listed_at : (s t : List ℕ) (m : Main) → PartsListed s t m → (p : ℕ) → p < m.procedures → ListedAt s t p
listed_at s t m h p k =
    let at = h.parts.each p k in
    let whole = h.parts.inside in
    let two = h.parts.two_each in
    record { later = at.later; inside = omega (arith, at.before); room = omega (arith, h.room); small = omega (arith, h.few) }

-- ---- their tests, from number p on

module _ (ps : List Procedure) (p : ℕ) where
  module _ (h : p < length ps) where
    pub right-next : procedures_right_lem p (drop p ps) ≡ (procedure_right_lem p (get_or ps p no_procedure_lem) && procedures_right_lem (p + 1) (drop (p + 1) ps))
    unfolding procedures_right_lem
    right-next = rw (add-one p, drop-cons ps p no_procedure_lem h)

    pub apart_next : all_apart_lem (drop p ps) ≡ (every (apart (get_or ps p no_procedure_lem)) (drop (p + 1) ps) && all_apart_lem (drop (p + 1) ps))
    unfolding all_apart_lem
    apart_next = rw (add-one p, drop-cons ps p no_procedure_lem h)

  pub right-past : length ps ≤ p → procedures_right_lem p (drop p ps) ≡ true
  unfolding procedures_right_lem
  right-past h = rw (drop_of_length-le ps h)

  pub apart-past : length ps ≤ p → all_apart_lem (drop p ps) ≡ true
  unfolding all_apart_lem
  apart-past h = rw (drop_of_length-le ps h)
