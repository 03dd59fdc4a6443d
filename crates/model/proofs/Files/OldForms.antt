-- A file of the old form is read in its new form as the same program, or refused by the same check.
use mathlib.Core.Path.{◌≡◌, refl, sym, ◌∙◌, ap, ap₂}
use mathlib.Core.Bool.{Bool, true, false, ◌&&◌}
use mathlib.Core.List.{List, [], ◌∷◌, ◌++◌, flat_map}
use Prim.Native.Nat.{ℕ, zero, suc, ◌+◌, ◌*◌, ◌-◌, ◌/◌, ◌%◌, ◌≤◌}
use native.Mathlib.Nat.{add_assoc, add-zero}
use native.Mathlib.Omega.{arith}
use lib.Dec.{leb, eqb}
use lib.ListN.{length, drop, take, length-append, length-drop, length-map}
use lib.Seq.{get_or-drop, drop-drop}
use borrow.Author.Tests.{leb-true, le-leb, eqb-true, eq-eqb}
use Rattle.model.specs.Sizes.{section_table, most_program, field_size, most_fields, array_size, statement_size}
use Rattle.model.specs.Refusals.{Out, ok, ◌>>=◌, check, wrong_sections, too_many_entries}
use Rattle.model.specs.Bytes.{u32_at, bytes4, part, Pair, pairs_at, chained, entries}
use Rattle.model.specs.Fields.{Field, field_at, field_bytes, whole_field}
use Rattle.model.specs.Program.{Tables, array_at, statement_at, Layout, layout_of, tables_with, tables_at, sections_in}
use Rattle.model.specs.Program.{sections_right, counts_right_lem, Outline, outline_of, read_outline, Program, inlined_program, read_program}
use Rattle.model.specs.OldForm.{most_old, old_field_size, old_count, old_fields, old_tables, read_old, new_table, new_form, convert}
use Rattle.model.proofs.Basics.LittleEndian.{four_back}
use Rattle.model.proofs.Basics.Results.{check-ok, bind_ok, ok_eq}
use Rattle.model.proofs.Basics.Tests.{and_left, and_right}
use Rattle.model.proofs.Files.Checked.{few-fields}
use Rattle.model.proofs.Files.FileBytes.{fields-size, fields_read}
use Rattle.model.proofs.Files.Parts.{length_part}
use Rattle.model.proofs.Files.Places.{From, from-after, Local}

-- ---- entries depend on what stands from their place on

pub entries_local : {A : Type 0} (at : List ℕ → ℕ → A) → Local at → (size : ℕ) (s t : List ℕ) (a b : ℕ) → drop a s ≡ drop b t → (n : ℕ)
    → entries at size s a n ≡ entries at size t b n
unfolding entries
entries_local at l size s t a b h zero = refl
entries_local at l size s t a b h (suc n) =
    ap₂ ◌∷◌ (l s a ∙ ap (λ r. at r 0) h ∙ sym (l t b))
    (entries_local at l size s t (a + size) (b + size) (sym (drop-drop size a s) ∙ ap (drop size) h ∙ drop-drop size b t) n)

array_local : Local array_at
array_local s a = simp (get_or-drop, add_assoc, add-zero)

statement_local : Local statement_at
statement_local s a = simp (get_or-drop, add_assoc, add-zero)

-- ---- the section table

-- what check 2 of the old form leaves of a file
pub record OldSections (s : List ℕ) : Type 0 where
  pub table : 32 ≤ length s
  pub short : length s ≤ most_old
  pub fields_at : u32_at s 0 ≡ 32
  pub variables-at : u32_at s 8 ≡ 32 + u32_at s 4
  pub arrays-at : u32_at s 16 ≡ 32 + u32_at s 4 + u32_at s 12
  pub statements-at : u32_at s 24 ≡ 32 + u32_at s 4 + u32_at s 12 + u32_at s 20
  pub ends : 32 + u32_at s 4 + u32_at s 12 + u32_at s 20 + u32_at s 28 ≡ length s
  pub whole-arrays : u32_at s 20 % 4 ≡ 0
  pub whole-statements : u32_at s 28 % 8 ≡ 0

pub old_sections : (s : List ℕ) → sections_in most_old old_field_size s ≡ true → OldSections s
unfolding sections_in chained entries
old_sections s e =
    let f = u32_at s 4 in
    let v = u32_at s 12 in
    let a = u32_at s 20 in
    let table = leb 32 (length s) in
    let short = leb (length s) most_old in
    let first = eqb (u32_at s 0) 32 in
    let second = eqb (u32_at s 8) (32 + f) in
    let third = eqb (u32_at s 16) (32 + f + v) in
    let fourth = eqb (u32_at s 24) (32 + f + v + a) in
    let last = eqb (32 + f + v + a + u32_at s 28) (length s) in
    let linked = first && (second && (third && (fourth && last))) in
    let wholes = table && short && linked && eqb (u32_at s 4 % old_field_size) 0 && eqb (a % 4) 0 in
    let upper = and_left wholes (eqb (u32_at s 28 % 8) 0) e in
    let with-fields = and_left (table && short && linked && eqb (u32_at s 4 % old_field_size) 0) (eqb (a % 4) 0) upper in
    let sized = and_left (table && short && linked) (eqb (u32_at s 4 % old_field_size) 0) with-fields in
    let both = and_left (table && short) linked sized in
    let chain₁ = and_right (table && short) linked sized in
    let chain₂ = and_right first (second && (third && (fourth && last))) chain₁ in
    let chain₃ = and_right second (third && (fourth && last)) chain₂ in
    let chain₄ = and_right third (fourth && last) chain₃ in
    record {
      table = leb-true 32 (length s) (and_left table short both);
      short = leb-true (length s) most_old (and_right table short both);
      fields_at = eqb-true (u32_at s 0) 32 (and_left first _ chain₁);
      variables-at = eqb-true (u32_at s 8) (32 + f) (and_left second _ chain₂);
      arrays-at = eqb-true (u32_at s 16) (32 + f + v) (and_left third _ chain₃);
      statements-at = eqb-true (u32_at s 24) (32 + f + v + a) (and_left fourth last chain₄);
      ends = eqb-true (32 + f + v + a + u32_at s 28) (length s) (and_right fourth last chain₄);
      whole-arrays = eqb-true (a % 4) 0 (and_right (table && short && linked && eqb (u32_at s 4 % old_field_size) 0) (eqb (a % 4) 0) upper);
      whole-statements = eqb-true (u32_at s 28 % 8) 0 (and_right wholes (eqb (u32_at s 28 % 8) 0) e);
    }

-- ---- the new file

module _ (s : List ℕ) where
  -- the numbers of its section table
  new-fields-at : u32_at (new_form s) 0 ≡ 32
  unfolding new_form new_table bytes4
  new-fields-at = refl

  new-fields : u32_at (new_form s) 4 ≡ 2 * old_count s
  unfolding new_form new_table bytes4
  new-fields = four_back (2 * old_count s)

  new-variables-at : u32_at (new_form s) 8 ≡ u32_at s 8 + old_count s
  unfolding new_form new_table bytes4
  new-variables-at = four_back (u32_at s 8 + old_count s)

  new-variables : u32_at (new_form s) 12 ≡ u32_at s 12
  unfolding new_form new_table bytes4
  new-variables = four_back (u32_at s 12)

  new-arrays-at : u32_at (new_form s) 16 ≡ u32_at s 16 + old_count s
  unfolding new_form new_table bytes4
  new-arrays-at = four_back (u32_at s 16 + old_count s)

  new-arrays : u32_at (new_form s) 20 ≡ u32_at s 20
  unfolding new_form new_table bytes4
  new-arrays = four_back (u32_at s 20)

  new-statements-at : u32_at (new_form s) 24 ≡ u32_at s 24 + old_count s
  unfolding new_form new_table bytes4
  new-statements-at = four_back (u32_at s 24 + old_count s)

  new-statements : u32_at (new_form s) 28 ≡ u32_at s 28
  unfolding new_form new_table bytes4
  new-statements = four_back (u32_at s 28)

  -- behind it stand the fields, and then what stood behind the old ones
  from-new-fields : From (new_form s) 32 (flat_map field_bytes (old_fields s) ++ drop (32 + old_count s) s)
  unfolding new_form new_table bytes4
  from-new-fields = refl

  module _ (o : OldSections s) where
    count-fields : length (old_fields s) ≡ old_count s
    count-fields =
        length-map (part s (u32_at s 0) (old_count s)) whole_field ∙ length_part s (u32_at s 0) (old_count s) (omega (arith, o.fields_at, o.ends))

    from-rest : From (new_form s) (32 + 2 * old_count s) (drop (32 + old_count s) s)
    from-rest =
        from-after (new_form s) 32 (flat_map field_bytes (old_fields s)) _ (2 * old_count s) (fields-size (old_fields s) ∙ ap (2 *◌) count-fields) from-new-fields

    -- from a place behind the fields on, it is the old file from as many bytes before as there are fields
    later : (a : ℕ) → 32 + old_count s ≤ a → drop (a + old_count s) (new_form s) ≡ drop a s
    later a h =
        let k = a - (32 + old_count s) in
        let new : a + old_count s ≡ 32 + 2 * old_count s + k = omega arith in
        let old : 32 + old_count s + k ≡ a = omega arith in
        ap (λ n. drop n (new_form s)) new ∙ sym (drop-drop k (32 + 2 * old_count s) (new_form s)) ∙ ap (drop k) from-rest
        ∙ drop-drop k (32 + old_count s) s ∙ ap (λ n. drop n s) old

    pub new-length : length (new_form s) ≡ length s + old_count s
    unfolding new_form new_table bytes4
    new-length =
        let listed = flat_map field_bytes (old_fields s) in
        let both = length-append listed (drop (32 + old_count s) s) in
        omega (arith, both, fields-size (old_fields s), count-fields, length-drop (32 + old_count s) s, o.ends)

    -- check 2 of the new form
    pub new-sections : old_count s ≤ most_fields → sections_right (new_form s) ≡ true
    unfolding sections_in chained entries
    new-sections few =
        let f = old_count s in
        let v = u32_at s 12 in
        let a = u32_at s 20 in
        let b = u32_at s 28 in
        rw (
          new-fields-at,
          new-fields,
          new-variables-at,
          new-variables,
          new-arrays-at,
          new-arrays,
          new-statements-at,
          new-statements,
          new-length,
          le-leb 32 (length s + f) (omega (arith, o.table)),
          le-leb (length s + f) most_program (omega (arith, o.short, few)),
          eq-eqb (u32_at s 8 + f) (32 + 2 * f) (omega (arith, o.variables-at)),
          eq-eqb (u32_at s 16 + f) (32 + 2 * f + v) (omega (arith, o.arrays-at)),
          eq-eqb (u32_at s 24 + f) (32 + 2 * f + v + a) (omega (arith, o.statements-at)),
          eq-eqb (32 + 2 * f + v + a + b) (length s + f) (omega (arith, o.ends)),
          eq-eqb (2 * f % 2) 0 (omega arith),
          eq-eqb (a % 4) 0 o.whole-arrays,
          eq-eqb (b % 8) 0 o.whole-statements,
        )

    -- its tables are those of the old file
    pub new-tables : tables_at (new_form s) (layout_of (new_form s)) ≡ old_tables s
    unfolding tables_at tables_with layout_of old_tables
    new-tables =
        let f = old_count s in
        let half : 2 * f / 2 ≡ f = omega arith in
        let fields : entries field_at 2 (new_form s) (u32_at (new_form s) 0) (u32_at (new_form s) 4 / 2) ≡ old_fields s =
        rw (new-fields-at, new-fields, half) (ap (entries field_at 2 (new_form s) 32) (sym count-fields) ∙ fields_read (old_fields s) (new_form s) 32 _ from-new-fields) in
        let variables : part (new_form s) (u32_at (new_form s) 8) (u32_at (new_form s) 12) ≡ part s (u32_at s 8) (u32_at s 12) =
        rw (new-variables-at, new-variables) (ap (take (u32_at s 12)) (later (u32_at s 8) (omega (arith, o.variables-at)))) in
        let arrays : entries array_at 4 (new_form s) (u32_at (new_form s) 16) (u32_at (new_form s) 20 / 4) ≡ entries array_at 4 s (u32_at s 16) (u32_at s 20 / 4) =
        rw (new-arrays-at, new-arrays)
        (entries_local array_at array_local 4 (new_form s) s (u32_at s 16 + f) (u32_at s 16) (later (u32_at s 16) (omega (arith, o.arrays-at))) (u32_at s 20 / 4)) in
        let statements : entries statement_at 8 (new_form s) (u32_at (new_form s) 24) (u32_at (new_form s) 28 / 8) ≡ entries statement_at 8 s (u32_at s 24) (u32_at s 28 / 8) =
        rw (new-statements-at, new-statements)
        (entries_local statement_at statement_local 8 (new_form s) s (u32_at s 24 + f) (u32_at s 24) (later (u32_at s 24) (omega (arith, o.statements-at))) (u32_at s 28 / 8)) in
        λ i. record { fields = fields i; variables = variables i; arrays = arrays i; statements = statements i }

-- ---- what is read

module _ (s : List ℕ) (e : sections_in most_old old_field_size s ≡ true) (few : old_count s ≤ most_fields) where
  -- with at most 32 fields the new file has the outline of the old one, or fails the same check
  pub new-outline : read_outline (new_form s) ≡ outline_of (old_tables s)
  unfolding read_outline
  new-outline =
      let o = old_sections s e in
      rw (new-sections s o few) (ap outline_of (new-tables s o))

  -- and is the same program
  pub new-program : read_program (new_form s) ≡ read_old s
  unfolding read_program read_old
  new-program = rw e (ap (◌>>= inlined_program) new-outline)

-- ---- what is converted

-- what an old file that is converted has passed
pub record OldRead (old new : List ℕ) : Type 0 where
  pub sections : sections_in most_old old_field_size old ≡ true
  pub few : old_count old ≤ most_fields
  pub is : new ≡ new_form old

pub converted-read : (old new : List ℕ) → convert old ≡ ok new → OldRead old new
unfolding convert read_old old_tables tables_with
converted-read old new e =
    let T = old_tables old in
    let made : Program → Out (List ℕ) = λ P. ok (new_form old) in
    let p = bind_ok (read_old old) made new e in
    let o = bind_ok (check (sections_in most_old old_field_size old) wrong_sections (outline_of T)) inlined_program p.0 p.1 in
    let c = check-ok (sections_in most_old old_field_size old) wrong_sections (outline_of T) o.0 o.1 in
    let counts = check-ok (counts_right_lem T) too_many_entries _ o.0 c.1 in
    record {
      sections = c.0;
      few = omega (arith, few-fields T counts.0, count-fields old (old_sections old c.0));
      is = sym (ok_eq (new_form old) new p.2);
    }
