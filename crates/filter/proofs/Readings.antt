-- The readings of an input that is read, put one by one to the places that an evaluator looks at.
use mathlib.Core.Path.{◌≡◌, refl, sym, ap, ap₂, subst, ◌∙◌}
use mathlib.Core.Bool.{Bool, true}
use mathlib.Core.List.{List, []}
use Prim.Native.Nat.{ℕ, ◌+◌, ◌*◌, ◌/◌, ◌<◌, ◌≤◌}
use native.Mathlib.Nat.{div-mul-le_self, mul_comm}
use native.Mathlib.Omega.{arith}
use lib.Dec.{leb}
use lib.IntN.{ℤ, pos}
use lib.ListN.{length, get_or, set}
use lib.Seq.{get_or-set_same, get_or-set_other}
use borrow.Author.Count.{below_more}
use borrow.Author.Tests.{lt-ltb, le-ltb, ltb-true, leb-true, leb-false}
use Rattle.model.specs.Sizes.{most_fields, most_readings}
use Rattle.model.specs.Lists.{every}
use Rattle.model.specs.Program.{type_right}
use Rattle.model.specs.Fields.{Field, types_in, fields_in}
use Rattle.model.specs.Input.{Input, width, reading_at_lem}
use Rattle.model.proofs.Basics.Tests.{case}
use Rattle.model.proofs.Basics.Every.{every-at}
use Rattle.model.proofs.Files.Parts.{length-entries, entries-get_or}
use Rattle.model.proofs.Files.FieldTables.{fields-length, types-length, type_in}
use Rattle.input.specs.Answers.{InputIsRead, field_part, field_readings}
use Rattle.input.specs.Bits.{part_readings}
use Rattle.input.proofs.Fields.{part-readings}
use Rattle.plan.specs.Readings.{signed_at, Lent, Decoded, Taken}
use Rattle.filter.specs.Decoding.{input_in, Filled}

-- ---- a run of places

module _ (z : ℕ → ℤ) (from : ℕ) (at : ℕ → ℤ) where
  pub filled_none : Filled z from 0 at at
  filled_none = record { put = λ k l. absurd (omega arith); kept = λ j l. refl }

  pub filled_next : (n : ℕ) (at₁ at₂ : ℕ → ℤ) → Filled z from n at at₁ → Taken (from + n) (z n) at₁ at₂ → Filled z from (n + 1) at at₂
  filled_next n at₁ at₂ f t = record {
    put = below_more (λ k. at₂ (from + k) ≡ z k) n (λ k l. t.1 (from + k) (λ p. omega arith) ∙ f.put k l) t.0;
    kept = λ j l. t.1 j (λ p. omega arith) ∙ f.kept j l;
  }

-- ---- one field

pub type-code : (table : List ℕ) (f : ℕ) → every type_right (types_in (fields_in table)) ≡ true → f < length table / 2 → get_or table (2 * f) 0 < 8
type-code table f h l =
    let types = types_in (fields_in table) in
    ltb-true (get_or table (2 * f) 0) 8
    (subst (λ t. type_right t ≡ true) (type_in table f l) (every-at type_right 0 types h f (omega (arith, types-length table))))

pub field-none : (fields : List Field) (s : List ℕ) (f : ℕ) → length fields ≤ f → input_in fields s f ≡ []
unfolding input_in
field-none fields s f h = rw (le-ltb f (length fields) h)

pub field-listed : (table s : List ℕ) (f : ℕ) → f < length table / 2 → input_in (fields_in table) s f ≡ field_readings table s f
unfolding input_in
field-listed table s f h = rw (lt-ltb f (length (fields_in table)) (omega (arith, fields-length table)))

-- a field with a reading is listed
field-read : (fields : List Field) (s : List ℕ) (f : ℕ) → 1 ≤ length (input_in fields s f) → f < length fields
field-read fields s f h =
    case (leb (length fields) f) (λ z. f < length fields)
    (λ q. let none = ap length (field-none fields s f (leb-true (length fields) f q)) in absurd (omega arith))
    (λ q. leb-false (length fields) f q)

-- by what was read of it: the part p, with n readings
module _ (table s : List ℕ) (f : ℕ) (read : InputIsRead table s) (listed : f < length table / 2) (n : ℕ)
    (many : n ≡ length (field_readings table s f)) (p : List ℕ) (is : p ≡ field_part s f) where
  abbrev ty : ℕ
  ty = get_or table (2 * f) 0

  held : field_readings table s f ≡ part_readings ty p
  held = part-readings table s f read listed ∙ ap₂ (λ (t : ℕ) (q : List ℕ). part_readings t q) (type_in table f listed) (sym is)

  whole-readings : n ≡ length p / width ty
  whole-readings = many ∙ ap length held ∙ length-entries (reading_at_lem ty) (width ty) p (length p / width ty) 0

  pub readings-inside : n * width ty ≤ length p
  readings-inside = rw whole-readings (div-mul-le_self (length p) (width ty))

  reading-is : (k : ℕ) → k < n → reading_at_lem ty p (k * width ty) ≡ get_or (input_in (fields_in table) s f) k (pos 0)
  reading-is k l =
      let e : k * width ty ≡ 0 + width ty * k = omega (arith, mul_comm k (width ty)) in
      ap (reading_at_lem ty p) e
      ∙ sym (entries-get_or (reading_at_lem ty) (width ty) p (length p / width ty) 0 k (pos 0) (omega (arith, whole-readings)))
      ∙ sym (ap (λ (zs : List ℤ). get_or zs k (pos 0)) (field-listed table s f listed ∙ held))

  pub field-filled : (from : ℕ) (at at' : ℕ → ℤ) → Filled (λ k. reading_at_lem ty p (k * width ty)) from n at at'
      → Filled (λ k. get_or (input_in (fields_in table) s f) k (pos 0)) from n at at'
  field-filled from at at' h = record { put = λ k l. h.put k l ∙ reading-is k l; kept = h.kept }

-- ---- all fields

-- the first n fields are decoded
pub record DecodedTo (I : Input) (n : ℕ) (counts mags : List ℕ) (negs : List Bool) : Type 0 where
  pub number : (f : ℕ) → f < n → get_or counts f 0 ≡ length (I f)
  pub few : (f : ℕ) → f < n → length (I f) ≤ most_readings
  pub each : (f : ℕ) → f < n → (k : ℕ) → k < length (I f) → signed_at mags negs (most_readings * f + k) ≡ get_or (I f) k (pos 0)

module _ (I : Input) where
  pub decoded_none : (counts mags : List ℕ) (negs : List Bool) → DecodedTo I 0 counts mags negs
  decoded_none counts mags negs =
      record { number = λ f l. absurd (omega arith); few = λ f l. absurd (omega arith); each = λ f l. absurd (omega arith) }

  module _ (n r : ℕ) (counts mags mags' : List ℕ) (negs negs' : List Bool) (inside : n < length counts) (many : r ≡ length (I n))
      (few : r ≤ most_readings)
      (put : Filled (λ k. get_or (I n) k (pos 0)) (most_readings * n) r (signed_at mags negs) (signed_at mags' negs')) where
    pub decoded_next : DecodedTo I n counts mags negs → DecodedTo I (n + 1) (set counts n r) mags' negs'
    decoded_next d = record {
      number = below_more (λ f. get_or (set counts n r) f 0 ≡ length (I f)) n
          (λ f l. get_or-set_other counts n f r 0 (λ p. omega arith) ∙ d.number f l) (get_or-set_same counts n r 0 inside ∙ many);
      few = below_more (λ f. length (I f) ≤ most_readings) n d.few (omega arith);
      each = below_more (λ f. (k : ℕ) → k < length (I f) → signed_at mags' negs' (most_readings * f + k) ≡ get_or (I f) k (pos 0)) n
          (λ f l k m. put.kept (most_readings * f + k) (omega (arith, d.few f l)) ∙ d.each f l k m) (λ k m. put.put k (omega arith));
    }

  pub decoded_all : (counts mags : List ℕ) (negs : List Bool) → DecodedTo I most_fields counts mags negs → Decoded I counts mags negs
  decoded_all counts mags negs d = record { number = d.number; each = λ f k l m. d.each f l k m }

-- where there is room for the fields that are listed, there is room for all readings
module _ (fields : List Field) (s counts mags : List ℕ) (negs : List Bool) (d : DecodedTo (input_in fields s) most_fields counts mags negs) where
  inside : (m f : ℕ) → most_readings * length fields ≤ m → f < most_fields → 1 ≤ get_or counts f 0 → most_readings * f + get_or counts f 0 ≤ m
  inside m f h l some =
      let listed = field-read fields s f (omega (arith, d.number f l)) in
      omega (arith, d.number f l, d.few f l)

  pub decoded_lent : length counts ≡ most_fields → most_readings * length fields ≤ length mags → most_readings * length fields ≤ length negs
      → Lent counts mags negs
  decoded_lent c m n = record {
    few = record { fields = c; each = λ f l. rw (d.number f l) (d.few f l) };
    magnitudes = λ f. inside (length mags) f m;
    signs = λ f. inside (length negs) f n;
  }
