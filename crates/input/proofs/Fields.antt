-- The fields of an input that is read: how wide their readings are, where their parts stand, and which readings they hold.
use mathlib.Core.Path.{◌≡◌, refl, sym, ◌∙◌, ap, subst}
use mathlib.Core.Bool.{◌&&◌, cond}
use mathlib.Core.List.{List, [], ◌∷◌}
use Prim.Native.Nat.{ℕ, zero, suc, ◌+◌, ◌*◌, ◌/◌, ◌%◌, ◌^◌, ◌≤◌, ◌<◌}
use native.Mathlib.Nat.{mul_comm, mul-le-mul_right, div-mul-le_self, add-zero, div-le_of_le-mul}
use native.Mathlib.Omega.{arith}
use lib.Dec.{ltb}
use lib.IntN.{pos}
use lib.ListN.{length, get_or}
use borrow.Author.Tests.{lt-ltb}
use Rattle.arith.specs.declared.Range.{Range}
use Rattle.arith.specs.Types.{bits, Row}
use Rattle.arith.specs.Step.{wrap}
use Rattle.model.specs.Refusals.{ok, mapped, wrong_input}
use Rattle.model.specs.Bytes.{u16_at, part, Pair, pair_at, entries, pairs_at, chained}
use Rattle.model.specs.Fields.{types_in, fields_in}
use Rattle.model.specs.Input.{Input, width, bits_at, reading_at_lem, readings_of, lengths_right, bits_right_lem, read_input}
use Rattle.model.proofs.Basics.Tests.{and_left}
use Rattle.model.proofs.Basics.Results.{check-ok}
use Rattle.model.proofs.Files.FieldTables.{fields-length, types-length, type_in}
use Rattle.model.proofs.Files.Parts.{length-entries, length_part, Narrow, byte_narrow, u16_narrow, u32_narrow, u64_narrow, entries-part}
use Rattle.input.specs.Answers.{InputIsRead, PartInside, field_part, field_type_lem, field_readings}
use Rattle.input.specs.Bits.{part_readings}
use Rattle.input.specs.FirstWrong.{RightBefore}
use Rattle.input.proofs.Pass.{pairs_right_lem, readings_right, read-check, all_right}

-- ---- one reading

bits_are : (t k : ℕ) → t % 4 ≡ k → bits t ≡ 8 * 2 ^ k
unfolding bits
bits_are t k e = rw e

pub width_by : (t k : ℕ) → t % 4 ≡ k → width t ≡ 8 * 2 ^ k / 8
unfolding width bits
width_by t k e = rw e

pub bits_by : (t k : ℕ) (s : List ℕ) (a : ℕ) → t % 4 ≡ k
    → bits_at t s a ≡ get_or (get_or s a 0 ∷ u16_at s a ∷ Rattle.model.specs.Bytes.u32_at s a ∷ Rattle.model.specs.Bytes.u64_at s a ∷ []) k 0
unfolding bits_at
bits_by t k s a e = rw e

-- by the four widths
by_width : (t : ℕ) (P : Type 0) → (t % 4 ≡ 0 → P) → (t % 4 ≡ 1 → P) → (t % 4 ≡ 2 → P) → (t % 4 ≡ 3 → P) → P
by_width t P f g h k = go (t % 4) refl
  where
    go : (r : ℕ) → t % 4 ≡ r → P
    go zero e = f e
    go (suc zero) e = g e
    go (suc (suc zero)) e = h e
    go (suc (suc (suc zero))) e = k e
    go (suc (suc (suc (suc r)))) e = absurd (omega arith)

bits-narrow : (t : ℕ) → Narrow (bits_at t) (width t)
bits-narrow t s o n a h =
    by_width t (bits_at t (part s o n) a ≡ bits_at t s (o + a))
    (λ e. rw (bits_by t 0 (part s o n) a e, bits_by t 0 s (o + a) e) (byte_narrow s o n a (omega (arith, width_by t 0 e))))
    (λ e. rw (bits_by t 1 (part s o n) a e, bits_by t 1 s (o + a) e) (u16_narrow s o n a (omega (arith, width_by t 1 e))))
    (λ e. rw (bits_by t 2 (part s o n) a e, bits_by t 2 s (o + a) e) (u32_narrow s o n a (omega (arith, width_by t 2 e))))
    (λ e. rw (bits_by t 3 (part s o n) a e, bits_by t 3 s (o + a) e) (u64_narrow s o n a (omega (arith, width_by t 3 e))))

reading-narrow : (t : ℕ) → Narrow (reading_at_lem t) (width t)
unfolding reading_at_lem
reading-narrow t s o n a h = ap (λ (v : ℕ). wrap t (pos v)) (bits-narrow t s o n a h)

pub some-width : (t : ℕ) → 0 < width t
some-width t =
    by_width t (0 < width t) (λ e. omega (arith, width_by t 0 e)) (λ e. omega (arith, width_by t 1 e)) (λ e. omega (arith, width_by t 2 e))
    (λ e. omega (arith, width_by t 3 e))

pub width_le : (t : ℕ) → width t ≤ 8
width_le t =
    by_width t (width t ≤ 8) (λ e. omega (arith, width_by t 0 e)) (λ e. omega (arith, width_by t 1 e)) (λ e. omega (arith, width_by t 2 e))
    (λ e. omega (arith, width_by t 3 e))

-- ---- by the row of its type

pub row-width : (t : ℕ) (r : Range) → Row t r → r.bits / 8 ≡ width t
unfolding width
row-width t r row = rw row.width

-- which of the four widths it is, by the bits of its row
module _ (t : ℕ) (r : Range) (row : Row t r) where
  row-bits : (k : ℕ) → t % 4 ≡ k → r.bits ≡ 8 * 2 ^ k
  row-bits k e = row.width ∙ bits_are t k e

  pub bits_8 : r.bits ≡ 8 → t % 4 ≡ 0
  bits_8 b =
      by_width t (t % 4 ≡ 0) (λ e. e) (λ e. absurd (omega (arith, row-bits 1 e))) (λ e. absurd (omega (arith, row-bits 2 e)))
      (λ e. absurd (omega (arith, row-bits 3 e)))

  pub bits_16 : r.bits ≡ 16 → t % 4 ≡ 1
  bits_16 b =
      by_width t (t % 4 ≡ 1) (λ e. absurd (omega (arith, row-bits 0 e))) (λ e. e) (λ e. absurd (omega (arith, row-bits 2 e)))
      (λ e. absurd (omega (arith, row-bits 3 e)))

  pub bits_32 : r.bits ≡ 32 → t % 4 ≡ 2
  bits_32 b =
      by_width t (t % 4 ≡ 2) (λ e. absurd (omega (arith, row-bits 0 e))) (λ e. absurd (omega (arith, row-bits 1 e))) (λ e. e)
      (λ e. absurd (omega (arith, row-bits 3 e)))

  pub bits_64 : (r.bits ≡ 8 → ⊥) → (r.bits ≡ 16 → ⊥) → (r.bits ≡ 32 → ⊥) → t % 4 ≡ 3
  bits_64 f g h =
      by_width t (t % 4 ≡ 3) (λ e. absurd (f (row-bits 0 e))) (λ e. absurd (g (row-bits 1 e))) (λ e. absurd (h (row-bits 2 e))) (λ e. e)

-- ---- a part

-- the readings of a pair are those of its part
pub readings-part : (t : ℕ) (s : List ℕ) (p : Pair) → p.offset + p.len ≤ length s → readings_of t s p ≡ part_readings t (part s p.offset p.len)
unfolding readings_of
readings-part t s p h =
    let n : length (part s p.offset p.len) ≡ p.len = length_part s p.offset p.len h in
    let fit : 0 + width t * (p.len / width t) ≤ p.len = omega (arith, div-mul-le_self p.len (width t), mul_comm (width t) (p.len / width t)) in
    sym (ap (λ (k : ℕ). entries (reading_at_lem t) (width t) (part s p.offset p.len) 0 (k / width t)) n
    ∙ entries-part (reading_at_lem t) (width t) (reading-narrow t) s p.offset p.len (p.len / width t) 0 fit
    ∙ ap (λ (a : ℕ). entries (reading_at_lem t) (width t) s a (p.len / width t)) (add-zero p.offset))

-- the next of n readings of a width lies in the part
pub next-inside : (k n w l : ℕ) → k < n → n * w ≤ l → (k + 1) * w ≤ l
next-inside k n w l h m = let q : (k + 1) * w ≤ n * w = mul-le-mul_right w (omega arith) in omega arith

-- ---- an input that is read

-- every pair of it is right
pairs_right : (table s : List ℕ) → InputIsRead table s → RightBefore (types_in (fields_in table)) s (length table / 2)
pairs_right table s read =
    let fields = fields_in table in
    let types = types_in fields in
    let right = (check-ok (pairs_right_lem types s && readings_right fields s) wrong_input (ok (tt {0})) (tt {0}) (sym (read-check fields s) ∙ read)).0 in
    subst (RightBefore types s) (types-length table) (all_right types s (and_left (pairs_right_lem types s) (readings_right fields s) right))

-- so the pair and the part of each field lie in the file
pub right-inside : (table s : List ℕ) (f : ℕ) → RightBefore (types_in (fields_in table)) s (length table / 2) → f < length table / 2 → PartInside s f
right-inside table s f r h = record {
  pair = omega (arith, types-length table, (r 0 (omega arith)).begins, (r 0 (omega arith)).inside);
  inside = (r f h).inside;
}

pub part-inside : (table s : List ℕ) (f : ℕ) → InputIsRead table s → f < length table / 2 → PartInside s f
part-inside table s f read h = right-inside table s f (pairs_right table s read) h

-- and its readings are at most 128
readings-few : (table s : List ℕ) (f : ℕ) → InputIsRead table s → f < length table / 2 → (pair_at s (8 * f)).len / width (field_type_lem table f) ≤ 128
readings-few table s f read h =
    let w = width (field_type_lem table f) in
    div-le_of_le-mul w (omega (arith, (pairs_right table s read f h).few, mul_comm 128 w))

-- ---- its readings

pub count-readings : (table s : List ℕ) (f : ℕ) → length (field_readings table s f) ≡ (pair_at s (8 * f)).len / width (field_type_lem table f)
unfolding readings_of
count-readings table s f =
    let t = field_type_lem table f in
    length-entries (reading_at_lem t) (width t) s ((pair_at s (8 * f)).len / width t) (pair_at s (8 * f)).offset

-- the model's list of a field's readings
pub field-readings : (table s : List ℕ) (I : Input) (f : ℕ) → read_input (fields_in table) s ≡ ok I → f < length table / 2 → I f ≡ field_readings table s f
unfolding read_input
field-readings table s I f e h =
    let fields = fields_in table in
    let types = types_in fields in
    let ps = pairs_at s 0 (length fields) in
    let J : Input = λ g. cond (ltb g (length fields)) (readings_of (get_or types g 0) s (pair_at s (8 * g))) [] in
    let right = chained (8 * length fields) ps (length s) && lengths_right types ps && bits_right_lem fields s ps in
    let same : J ≡ I = cc (check-ok right wrong_input (ok J) I e).1 in
    sym (ap (λ (K : Input). K f) same) ∙ rw (lt-ltb f (length fields) (omega (arith, fields-length table)))

-- a field's part holds its readings
pub part-readings : (table s : List ℕ) (f : ℕ) → InputIsRead table s → f < length table / 2
    → field_readings table s f ≡ part_readings (field_type_lem table f) (field_part s f)
part-readings table s f read h = readings-part (field_type_lem table f) s (pair_at s (8 * f)) (part-inside table s f read h).inside

-- so it is the model's list that a field's part holds
pub input-part : (table s : List ℕ) (I : Input) (f : ℕ) → read_input (fields_in table) s ≡ ok I → f < length table / 2
    → I f ≡ part_readings (field_type_lem table f) (field_part s f)
input-part table s I f e h = field-readings table s I f e h ∙ part-readings table s f (ap (mapped (λ (J : Input). tt {0})) e) h

-- ---- by what was read of a field's pair

module _ (table s : List ℕ) (f : ℕ) where
  pub counted : (l w : ℕ) → InputIsRead table s → f < length table / 2 → l ≡ (pair_at s (8 * f)).len → w ≡ width (get_or table (2 * f) 0)
      → (l / w ≡ length (field_readings table s f)) × (l / w ≤ 128)
  counted l w read h el ew =
      let same : w ≡ width (field_type_lem table f) = ew ∙ ap width (sym (type_in table f h)) in
      (rw (el, same) (sym (count-readings table s f)), rw (el, same) (readings-few table s f read h))

-- ---- the reading with a number

pub read_at : (t : ℕ) (s : List ℕ) (k w b : ℕ) → w ≡ width t → b ≡ bits_at t s (k * w) → wrap t (pos b) ≡ reading_at_lem t s (k * width t)
unfolding reading_at_lem
read_at t s k w b ew eb = rw (eb, ew)
