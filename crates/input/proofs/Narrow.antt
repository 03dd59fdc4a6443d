-- The bits of fields: what a number of bits holds, by its limits; that the width of a type holds every reading of the type; and the
-- tests of one field reading by reading, and of all fields field by field.
use mathlib.Core.Path.{◌≡◌, refl, ◌∙◌, ap}
use mathlib.Core.Bool.{Bool, true, false, ◌&&◌, cond}
use mathlib.Core.List.{List}
use Prim.Native.Nat.{ℕ, zero, suc, ◌+◌, ◌-◌, ◌*◌, ◌/◌, ◌%◌, ◌^◌, ◌≤◌, ◌<◌}
use native.Mathlib.Nat.{zero-mul, mul_comm, mul-add, mul-one, le_trans}
use native.Mathlib.Omega.{arith}
use lib.Dec.{leb}
use lib.IntN.{ℤ, pos, negsuc, neg_ℤ}
use lib.ListN.{length}
use lib.Pow.{pow_mono}
use lib.Signed.{le_z}
use borrow.Author.Tests.{le-leb, lt-leb}
use Rattle.arith.specs.declared.Range.{Range}
use Rattle.arith.specs.Types.{bits, signed, depth, height, Row}
use Rattle.arith.specs.Whole.{of_sign}
use Rattle.arith.specs.Step.{fits, wrap}
use Rattle.arith.proofs.Ranges.{between, fits_le}
use Rattle.arith.proofs.WrapLaws.{wrap-fits}
use Rattle.model.specs.Lists.{every}
use Rattle.model.specs.Bytes.{pair_at, entries, pairs_at}
use Rattle.model.specs.Fields.{Field, field_at, bits_of_lem, fields_in}
use Rattle.model.specs.Input.{width, bits_at, reading_at_lem, readings_of, in_bits_lem, bits_right_lem}
use Rattle.model.proofs.Files.Parts.{entries-step}
use Rattle.model.proofs.Files.FieldTables.{fields-length}
use Rattle.input.specs.Bits.{bits_depth, bits_height}
use Rattle.input.proofs.Pass.{readings_right}

-- ---- the row of a type, by any code

-- a code from 4 on has the row of the signed type of its width
pub signed-row : (t : ℕ) (r : Range) → 4 ≤ t → Row (4 + t % 4) r → Row t r
unfolding bits signed depth height
signed-row t r h row =
    let same : (4 + t % 4) % 4 ≡ t % 4 = omega arith in
    let above = le-leb 4 t h in
    let here = le-leb 4 (4 + t % 4) (omega arith) in
    record {
      width = rw same at row.width;
      low = rw above (rw (same, here) at row.low);
      high = rw above (rw (same, here) at row.high);
    }

-- ---- what bits hold

-- one bound on the magnitude, on the side of the sign
pub in_bits : (F : Field) (n : Bool) (m : ℕ) → in_bits_lem F (of_sign n m) ≡ leb m (cond n (bits_depth F.ty (bits_of_lem F)) (bits_height F.ty (bits_of_lem F)))
unfolding in_bits_lem bits_depth bits_height
in_bits F n m = go (signed F.ty)
  where
    go : (s : Bool)
        → cond s (le_z (neg_ℤ (pos (2 ^ (bits_of_lem F - 1)))) (of_sign n m) && le_z (of_sign n m) (pos (2 ^ (bits_of_lem F - 1) - 1)))
        (le_z (pos 0) (of_sign n m) && le_z (of_sign n m) (pos (2 ^ bits_of_lem F - 1)))
        ≡ leb m (cond n (cond s (2 ^ (bits_of_lem F - 1)) 0) (cond s (2 ^ (bits_of_lem F - 1) - 1) (2 ^ bits_of_lem F - 1)))
    go true = between (2 ^ (bits_of_lem F - 1)) (2 ^ (bits_of_lem F - 1) - 1) n m
    go false = between 0 (2 ^ bits_of_lem F - 1) n m

pub unsigned_limits : (t b : ℕ) → t < 4 → (bits_depth t b ≡ 0) × (bits_height t b ≡ 2 ^ b - 1)
unfolding bits_depth bits_height signed
unsigned_limits t b h = (rw (lt-leb 4 t h), rw (lt-leb 4 t h))

pub signed-limits : (t b : ℕ) → 4 ≤ t → (bits_depth t b ≡ 2 ^ (b - 1)) × (bits_height t b ≡ 2 ^ (b - 1) - 1)
unfolding bits_depth bits_height signed
signed-limits t b h = (rw (le-leb 4 t h), rw (le-leb 4 t h))

pub half_of_none : (b : ℕ) → b ≡ 0 → 2 ^ (b - 1) ≡ 1
half_of_none b e = rw e

-- the width of a type holds what fits it
height_le : (t b : ℕ) → bits t ≤ b → (depth t ≤ bits_depth t b) × (height t ≤ bits_height t b)
unfolding depth height bits_depth bits_height
height_le t b h = go (signed t)
  where
    half : 2 ^ (bits t - 1) ≤ 2 ^ (b - 1)
    half = pow_mono {i = bits t - 1} {j = b - 1} (omega arith)

    full : 2 ^ bits t ≤ 2 ^ b
    full = pow_mono {i = bits t} {j = b} h

    go : (s : Bool)
        → (cond s (2 ^ (bits t - 1)) 0 ≤ cond s (2 ^ (b - 1)) 0) × (cond s (2 ^ (bits t - 1) - 1) (2 ^ bits t - 1) ≤ cond s (2 ^ (b - 1) - 1) (2 ^ b - 1))
    go true = (half, omega (arith, half))
    go false = (omega arith, omega (arith, full))

fits_bits : (F : Field) → bits F.ty ≤ bits_of_lem F → (z : ℤ) → fits F.ty z ≡ true → in_bits_lem F z ≡ true
fits_bits F h (pos m) e = in_bits F false m ∙ le-leb m _ (le_trans (fits_le F.ty false m e) (height_le F.ty (bits_of_lem F) h).1)
fits_bits F h (negsuc m) e = in_bits F true (suc m) ∙ le-leb (suc m) _ (le_trans (fits_le F.ty true (suc m) e) (height_le F.ty (bits_of_lem F) h).0)

-- and so every reading of the type
pub full-width : (F : Field) → bits F.ty ≤ bits_of_lem F → (s : List ℕ) (n a : ℕ) → every (in_bits_lem F) (entries (reading_at_lem F.ty) (width F.ty) s a n) ≡ true
unfolding every entries reading_at_lem
full-width F h s zero a = refl
full-width F h s (suc n) a =
    rw (fits_bits F h (wrap F.ty (pos (bits_at F.ty s a))) (wrap-fits F.ty (pos (bits_at F.ty s a))), full-width F h s n (a + width F.ty))

-- ---- one field, reading by reading

-- those from the one with number k on
abbrev pub readings_from : (ty : ℕ) (s : List ℕ) (n k : ℕ) → List ℤ
readings_from ty s n k = entries (reading_at_lem ty) (width ty) s (k * width ty) (n - k)

module _ (F : Field) (s : List ℕ) (n : ℕ) where
  abbrev held : ℕ → Bool
  held k = every (in_bits_lem F) (readings_from F.ty s n k)

  pub held_all : held 0 ≡ every (in_bits_lem F) (entries (reading_at_lem F.ty) (width F.ty) s 0 n)
  held_all = let e : n - 0 ≡ n = omega arith in rw (e, zero-mul (width F.ty))

  module _ (k : ℕ) (more : k < n) where
    held-step : held k ≡ (in_bits_lem F (reading_at_lem F.ty s (k * width F.ty)) && held (k + 1))
    unfolding every
    held-step =
        let w = width F.ty in
        let next : (k + 1) * w ≡ k * w + w = omega (arith, mul_comm (k + 1) w, mul_comm k w, mul-add w k 1, mul-one w) in
        ap (every (in_bits_lem F)) (entries-step (reading_at_lem F.ty) w s (k * w) ((k + 1) * w) (n - k) (n - (k + 1)) (omega arith) next)

    pub held_on : in_bits_lem F (reading_at_lem F.ty s (k * width F.ty)) ≡ true → held k ≡ held (k + 1)
    held_on h = held-step ∙ rw h

    pub held_off : in_bits_lem F (reading_at_lem F.ty s (k * width F.ty)) ≡ false → held k ≡ false
    held_off h = held-step ∙ rw h

  pub held-end : (k : ℕ) → n ≤ k → held k ≡ true
  unfolding every entries
  held-end k h = let e : n - k ≡ 0 = omega arith in rw e

-- ---- all fields, field by field

module _ (table s : List ℕ) (n : ℕ) where
  unfoldable pub fields_from : ℕ → Bool
  fields_from f = bits_right_lem (entries field_at 2 table (2 * f) (n - f)) s (pairs_at s (8 * f) (n - f))

  module _ (f : ℕ) (more : f < n) where
    fields-step : fields_from f
        ≡ (every (in_bits_lem (field_at table (2 * f))) (readings_of (field_at table (2 * f)).ty s (pair_at s (8 * f))) && fields_from (f + 1))
    unfolding fields_from bits_right_lem
    fields-step =
        rw (
          entries-step field_at 2 table (2 * f) (2 * (f + 1)) (n - f) (n - (f + 1)) (omega arith) (omega arith),
          entries-step pair_at 8 s (8 * f) (8 * (f + 1)) (n - f) (n - (f + 1)) (omega arith) (omega arith),
        )

    pub fields_on : every (in_bits_lem (field_at table (2 * f))) (readings_of (field_at table (2 * f)).ty s (pair_at s (8 * f))) ≡ true → fields_from f ≡ fields_from (f + 1)
    fields_on h = fields-step ∙ rw h

    pub fields_off : every (in_bits_lem (field_at table (2 * f))) (readings_of (field_at table (2 * f)).ty s (pair_at s (8 * f))) ≡ false → fields_from f ≡ false
    fields_off h = fields-step ∙ rw h

  pub fields-end : (f : ℕ) → n ≤ f → fields_from f ≡ true
  unfolding fields_from bits_right_lem entries
  fields-end f h = let e : n - f ≡ 0 = omega arith in rw e

pub fields-all : (table s : List ℕ) → readings_right (fields_in table) s ≡ fields_from table s (length table / 2) 0
unfolding readings_right fields_from
fields-all table s =
    let n = length table / 2 in
    let e : n - 0 ≡ n = omega arith in
    rw (e, fields-length table)
