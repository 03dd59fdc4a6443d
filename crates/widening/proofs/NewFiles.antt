-- The parts of the new file, stored one behind the other.
use mathlib.Core.Path.{◌≡◌, refl, sym, ap, ◌∙◌}
use mathlib.Core.List.{List, [], ◌∷◌, ◌++◌, map, flat_map}
use Prim.Native.Nat.{ℕ, zero, suc, ◌+◌, ◌*◌, ◌-◌, ◌≤◌, ◌<◌, ◌%◌}
use native.Mathlib.Numerals.{add-one}
use native.Mathlib.Omega.{arith}
use lib.ListN.{length, get_or, take, drop, set, length-append, length-drop}
use lib.Seq.{take_all, take-take, length-take-le}
use Rattle.arith.specs.Types.{bits}
use Rattle.model.specs.Bytes.{u32_at, bytes4, part}
use Rattle.model.specs.Fields.{field_bytes, whole_field}
use Rattle.model.specs.OldForm.{old_count, old_fields, later_pair, new_table, new_form}
use Rattle.model.proofs.Files.OldForms.{OldSections}
use Rattle.model.proofs.Files.Parts.{length_part, get_d_part}
use Rattle.bytes_le.specs.Overlay.{overlay}
use Rattle.bytes_le.proofs.Overlays.{overlay-none, overlay_2, overlay_read, stored_then}

pub four : (v : ℕ) → length (bytes4 v) ≡ 4
unfolding bytes4
four v = refl

pub bits_modulo : (t : ℕ) → bits (t % 8) ≡ bits t
unfolding bits
bits_modulo t = let e : t % 8 % 4 ≡ t % 4 = omega arith in rw e

-- ---- the section table

-- its five parts, from the first on
pub table_stored : (s o p q r t u : List ℕ) → p ≡ overlay o 0 (bytes4 32) → q ≡ overlay p 4 (bytes4 (2 * old_count s)) → r ≡ overlay q 8 (later_pair s 8)
    → t ≡ overlay r 16 (later_pair s 16) → u ≡ overlay t 24 (later_pair s 24) → u ≡ overlay o 0 (new_table s)
unfolding new_table
table_stored s o p q r t u e f g h k =
    let x = bytes4 32 in
    let y = bytes4 (2 * old_count s) in
    let a = later_pair s 8 in
    let b = later_pair s 16 in
    let c = later_pair s 24 in
    let two = stored_then o p q x y 0 4 (omega (arith, four 32)) e f in
    let three = stored_then o q r (x ++ y) a 0 8 (simp (length-append, four) (omega arith)) two g in
    let four' = stored_then o r t (x ++ y ++ a) b 0 16 (simp (length-append, four) (omega arith)) three h in
    stored_then o t u (x ++ y ++ a ++ b) c 0 24 (simp (length-append, four) (omega arith)) four' k

pub table-length : (s : List ℕ) → length (new_table s) ≡ 32
unfolding new_table bytes4
table-length s = refl

-- ---- the fields

-- the bytes of one field more
more_fields : (types : List ℕ) (i : ℕ) → i < length types
    → flat_map field_bytes (map whole_field (take (suc i) types))
    ≡ flat_map field_bytes (map whole_field (take i types)) ++ field_bytes (whole_field (get_or types i 0))
unfolding flat_map
more_fields [] i h = absurd (omega arith)
more_fields (t ∷ types) zero h = refl
more_fields (t ∷ types) (suc i) h = ap (λ r. t ∷ (whole_field t).size ∷ r) (more_fields types i (omega arith))

fields-length : (types : List ℕ) (i : ℕ) → i ≤ length types → length (flat_map field_bytes (map whole_field (take i types))) ≡ 2 * i
unfolding flat_map
fields-length types zero h = refl
fields-length [] (suc i) h = absurd (omega arith)
fields-length (t ∷ types) (suc i) h = let r = fields-length types i (omega arith) in omega arith

-- the types of an old file's fields
abbrev pub old_types : List ℕ → List ℕ
old_types s = part s (u32_at s 0) (old_count s)

-- the first i of them are stored in the new form
abbrev pub first_fields : List ℕ → ℕ → List ℕ
first_fields s i = flat_map field_bytes (map whole_field (take i (old_types s)))

module _ (s : List ℕ) (o : OldSections s) where
  pub count-types : length (old_types s) ≡ old_count s
  count-types = length_part s (u32_at s 0) (old_count s) (omega (arith, o.fields_at, o.ends))

  -- the type of a field
  pub type-stands : (i : ℕ) → i < old_count s → get_or (old_types s) i 0 ≡ get_or s (32 + i) 0
  type-stands i h = get_d_part s (u32_at s 0) (old_count s) i h ∙ ap (λ a. get_or s (a + i) 0) o.fields_at

  pub none_first : (l : List ℕ) → l ≡ overlay l 32 (first_fields s 0)
  unfolding flat_map
  none_first l = overlay-none l 32

  -- one field more
  pub field_more : (l m : List ℕ) (i ty size : ℕ) → i < old_count s → ty ≡ get_or s (32 + i) 0 → size ≡ (whole_field ty).size
      → m ≡ overlay l 32 (first_fields s i) → set (set m (32 + 2 * i) ty) (32 + 2 * i + 1) size ≡ overlay l 32 (first_fields s (i + 1))
  field_more l m i ty size h et es e =
      let inside : i < length (old_types s) = rw count-types h in
      let place : 32 + 2 * i ≡ 32 + length (first_fields s i) = omega (arith, fields-length (old_types s) i (omega (arith, inside))) in
      let two : set (set m (32 + 2 * i) ty) (32 + 2 * i + 1) size ≡ overlay m (32 + 2 * i) (ty ∷ size ∷ []) = overlay_2 m (32 + 2 * i) ty size in
      let put = stored_then l m (set (set m (32 + 2 * i) ty) (32 + 2 * i + 1) size) (first_fields s i) (ty ∷ size ∷ []) 32 (32 + 2 * i) place e two in
      put ∙ rw (add-one i, more_fields (old_types s) i inside, type-stands i h, ← et, ← es)

  pub all-fields : (i : ℕ) → old_count s ≤ i → first_fields s i ≡ flat_map field_bytes (old_fields s)
  all-fields i h = ap (λ t. flat_map field_bytes (map whole_field t)) (take_all i (old_types s) (omega (arith, count-types)))

  -- ---- the file

  pub fields-bytes : length (flat_map field_bytes (old_fields s)) ≡ 2 * old_count s
  fields-bytes =
      ap length (sym (all-fields (old_count s) (omega arith))) ∙ fields-length (old_types s) (old_count s) (omega (arith, count-types))

  pub file_stored : (l p q r : List ℕ) → p ≡ overlay l 0 (new_table s) → q ≡ overlay p 32 (flat_map field_bytes (old_fields s))
      → r ≡ overlay q (32 + 2 * old_count s) (drop (32 + old_count s) s) → r ≡ overlay l 0 (new_form s)
  unfolding new_form
  file_stored l p q r e f g =
      let listed = flat_map field_bytes (old_fields s) in
      let two = stored_then l p q (new_table s) listed 0 32 (omega (arith, table-length s)) e f in
      stored_then l q r (new_table s ++ listed) (drop (32 + old_count s) s) 0 (32 + 2 * old_count s)
      (simp length-append (omega (arith, table-length s, fields-bytes))) two g

-- the first bytes of what it was stored in are the file
pub file-first : (l m f : List ℕ) → m ≡ overlay l 0 f → length f ≤ length l → take (length f) m ≡ f
file-first l m f e h =
    let all = overlay_read f l 0 (length l) (omega arith) h in
    ap (take (length f)) e ∙ sym (first_of (overlay l 0 f) (length l) (length f) h) ∙ all
  where
    first_of : (m : List ℕ) (w n : ℕ) → n ≤ w → take n (take w (drop 0 m)) ≡ take n m
    first_of m w n h = take-take n w m h

-- ---- the rest of the old file

module _ (old : List ℕ) (from : ℕ) where
  abbrev left : ℕ
  left = length old - from

  pub rest-length : length (take left (drop from old)) ≡ left
  rest-length = length-take-le left (drop from old) (omega (arith, length-drop from old))

  rest-whole : take left (take left (drop from old)) ≡ drop from old
  rest-whole = take_all left (take left (drop from old)) (omega (arith, rest-length)) ∙ take_all left (drop from old) (omega (arith, length-drop from old))

pub rest_stored : (old q r : List ℕ) (count : ℕ) → count ≡ old_count old
    → r ≡ overlay q (32 + count + count) (take (length old - (32 + count)) (take (length old - (32 + count)) (drop (32 + count) old)))
    → r ≡ overlay q (32 + 2 * old_count old) (drop (32 + old_count old) old)
rest_stored old q r count is e =
    let place : 32 + count + count ≡ 32 + 2 * old_count old = omega (arith, is) in
    e ∙ ap (overlay q (32 + count + count)) (rest-whole old (32 + count)) ∙ ap (λ a. overlay q a (drop (32 + count) old)) place
    ∙ ap (λ n. overlay q (32 + 2 * old_count old) (drop (32 + n) old)) is
