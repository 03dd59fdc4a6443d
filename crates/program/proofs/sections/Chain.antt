-- The section table: one pair behind the other, and that the sections of a right table lie in the byte string.
use mathlib.Core.Path.{◌≡◌, ap, subst, ◌∙◌}
use mathlib.Core.Bool.{Bool, true, false, ◌&&◌}
use mathlib.Core.List.{List, ◌∷◌}
use Prim.Native.Nat.{ℕ, ◌+◌, ◌*◌, ◌-◌, ◌/◌, ◌%◌, ◌≤◌, ◌<◌}
use native.Mathlib.Nat.{zero-add}
use native.Mathlib.Omega.{arith}
use borrow.Author.Tests.{leb-true, eqb-true, eq-eqb, ne_eqb, eqb-false, le-leb, lt-leb}
use lib.Dec.{leb, eqb}
use lib.ListN.{length}
use Rattle.model.specs.Sizes.{section_table, most_program, pair_size_lem, field_size, array_size, statement_size}
use Rattle.model.specs.Refusals.{Out, ok, refused, check, wrong_sections}
use Rattle.model.specs.Bytes.{u32_at, Pair as ModelPair, pair_at, entries, pairs_at, chained}
use Rattle.model.specs.Program.{Layout as Sections, layout_of, sections_in, sections_right}
use Rattle.model.proofs.Basics.Tests.{and_left, and_right}
use Rattle.model.proofs.Files.Parts.{entries-step, entries-get_or, length-entries, chained-inside}
use Rattle.program.specs.Numbers.{sections, fields_pair, variables_pair, arrays_pair, statements_pair}
use Rattle.program.specs.Reading.{whole_entries, layout_from, Placed}
use Rattle.program.specs.declared.Layout.{Layout}
use Rattle.program.specs.declared.sections.Pair.{Pair}
use Rattle.program.proofs.Answers.{check-ok, check-refused, check-number}

-- ---- one section

-- the section at a place starts where it has to
pub record Starts (s : List ℕ) (place start : ℕ) (p : Pair) : Type 0 where
  pub starts : u32_at s place ≡ start
  pub offset : p.at ≡ u32_at s place
  pub len : p.len ≡ u32_at s (place + 4)

module _ (s : List ℕ) (place start : ℕ) where
  -- what the reader of a section says of its answer
  abbrev Answered : Out ModelPair → Type 0
  Answered o = o ≡ check (eqb (u32_at s place) start) wrong_sections (ok (pair_at s place))

  pub section_taken : (p : Pair) → Answered (ok (record { offset = p.at; len = p.len })) → Starts s place start p
  section_taken p h =
      let q : ModelPair = record { offset = p.at; len = p.len } in
      let k = check-ok (eqb (u32_at s place) start) wrong_sections q (pair_at s place) h in
      record {
        starts = eqb-true (u32_at s place) start k.0;
        offset = ap (λ (x : ModelPair). x.offset) k.1;
        len = ap (λ (x : ModelPair). x.len) k.1;
      }

  -- a section that is refused does not start where it has to, and the number is its refusal's
  pub section_refused : (n : ℕ) → Answered (refused n) → (u32_at s place ≡ start → ⊥) × (n ≡ wrong_sections)
  section_refused n h =
      let b = eqb (u32_at s place) start in
      (eqb-false (u32_at s place) start (check-refused b wrong_sections n (pair_at s place) h), check-number b wrong_sections n (pair_at s place) h)

-- ---- one after the other

module _ (s : List ℕ) where
  -- the pairs from the one with number i on
  abbrev pub pairs_from : ℕ → List ModelPair
  pairs_from i = pairs_at s (pair_size_lem * i) (sections - i)

  module _ (i start : ℕ) (h : i < sections) where
    pairs_step : pairs_from i ≡ pair_at s (pair_size_lem * i) ∷ pairs_from (i + 1)
    pairs_step =
        entries-step pair_at pair_size_lem s (pair_size_lem * i) (pair_size_lem * (i + 1)) (sections - i) (sections - (i + 1)) (omega arith) (omega arith)

    pub chain_goes : (p : Pair) → Starts s (pair_size_lem * i) start p
        → chained start (pairs_from i) (length s) ≡ chained (p.at + p.len) (pairs_from (i + 1)) (length s)
    unfolding chained
    chain_goes p k = rw (pairs_step, eq-eqb (u32_at s (pair_size_lem * i)) start k.starts, k.offset, k.len, k.starts)

    pub chain_breaks : (u32_at s (pair_size_lem * i) ≡ start → ⊥) → chained start (pairs_from i) (length s) ≡ false
    unfolding chained
    chain_breaks k = rw (pairs_step, ne_eqb (u32_at s (pair_size_lem * i)) start k)

  pub chain_ends : (i start : ℕ) → sections ≤ i → chained start (pairs_from i) (length s) ≡ eqb start (length s)
  unfolding chained entries
  chain_ends i start h = let e : sections - i ≡ 0 = omega arith in rw e

  -- ---- the tests of the table

  abbrev linked : Bool
  linked = chained section_table (pairs_at s 0 sections) (length s)

  module _ (most entry : ℕ) where
    pub table-short : length s < section_table → sections_in most entry s ≡ false
    unfolding sections_in
    table-short h = rw (lt-leb section_table (length s) h)

    module _ (whole : section_table ≤ length s) where
      pub table-long : most < length s → sections_in most entry s ≡ false
      unfolding sections_in
      table-long h = rw (le-leb section_table (length s) whole, lt-leb (length s) most h)

      module _ (short : length s ≤ most) where
        pub table_broken : linked ≡ false → sections_in most entry s ≡ false
        unfolding sections_in
        table_broken h = rw (le-leb section_table (length s) whole, le-leb (length s) most short, h)

        pub table-linked : linked ≡ true → sections_in most entry s ≡ whole_entries entry s
        unfolding sections_in
        table-linked h = rw (le-leb section_table (length s) whole, le-leb (length s) most short, h)

  -- ---- a right table

  module _ (right : sections_right s ≡ true) where
    abbrev bounded : Bool
    bounded = leb section_table (length s) && leb (length s) most_program

    begun : (bounded && linked) ≡ true
    unfolding sections_in
    begun =
        let f = eqb (u32_at s 4 % field_size) 0 in
        let a = eqb (u32_at s 20 % array_size) 0 in
        and_left (bounded && linked) f
        (and_left (bounded && linked && f) a (and_left (bounded && linked && f && a) (eqb (u32_at s 28 % statement_size) 0) right))

    short : length s ≤ most_program
    short =
        leb-true (length s) most_program (and_right (leb section_table (length s)) (leb (length s) most_program) (and_left bounded linked begun))

    -- each section ends in the byte string
    abbrev Inside : ℕ → Type 0
    Inside place = u32_at s place + u32_at s (place + 4) ≤ length s

    inside : (i : ℕ) → i < sections → Inside (pair_size_lem * i)
    inside i h =
        subst (λ (p : ModelPair). p.offset + p.len ≤ length s)
        (entries-get_or pair_at pair_size_lem s sections 0 i (pair_at s 0) h ∙ ap (pair_at s) (zero-add (pair_size_lem * i)))
        (chained-inside (pairs_at s 0 sections) section_table (length s) (and_right bounded linked begun) i (pair_at s 0)
        (omega (arith, length-entries pair_at pair_size_lem s sections 0))).1

    pub placed : (L : Layout) → layout_from L ≡ layout_of s → Placed s L
    unfolding layout_of
    placed L e =
        let e₁ : L.fields_at ≡ u32_at s 0 = ap (λ (M : Sections). M.fields_at) e in
        let e₂ : L.fields ≡ u32_at s 4 / field_size = ap (λ (M : Sections). M.fields) e in
        let e₃ : L.variables_at ≡ u32_at s 8 = ap (λ (M : Sections). M.variables_at_lem) e in
        let e₄ : L.variables ≡ u32_at s 12 = ap (λ (M : Sections). M.variables) e in
        let e₅ : L.arrays_at ≡ u32_at s 16 = ap (λ (M : Sections). M.arrays_at_lem) e in
        let e₆ : L.arrays ≡ u32_at s 20 / array_size = ap (λ (M : Sections). M.arrays) e in
        let e₇ : L.statements_at ≡ u32_at s 24 = ap (λ (M : Sections). M.statements_at_lem) e in
        let e₈ : L.statements ≡ u32_at s 28 / statement_size = ap (λ (M : Sections). M.statements) e in
        let i₁ : Inside fields_pair = inside 0 (omega arith) in
        let i₂ : Inside variables_pair = inside 1 (omega arith) in
        let i₃ : Inside arrays_pair = inside 2 (omega arith) in
        let i₄ : Inside statements_pair = inside 3 (omega arith) in
        record { layout = e; fields = omega arith; variables = omega arith; arrays = omega arith; statements = omega arith; small = short }

-- the answer to check 2, where it is a layout
pub table-read : (s : List ℕ) (L : Layout) → ok (layout_from L) ≡ check (sections_right s) wrong_sections (ok (layout_of s))
    → (sections_right s ≡ true) × Placed s L
table-read s L h =
    let k = check-ok (sections_right s) wrong_sections (layout_from L) (layout_of s) h in
    (k.0, placed s k.0 L k.1)
