-- The conjuncts of a condition that is read, one after the other: each is one that an evaluator takes.
use mathlib.Core.Path.{◌≡◌, sym, subst, ◌∙◌}
use mathlib.Core.Bool.{true, ◌&&◌}
use mathlib.Core.List.{List, [], ◌∷◌, map}
use Prim.Native.Nat.{ℕ, ◌+◌, ◌<◌, ◌≤◌}
use native.Mathlib.Numerals.{add-one}
use native.Mathlib.Omega.{arith}
use lib.Dec.{leb}
use lib.ListN.{length, get_or, drop, drop_of_length-le}
use lib.Seq.{drop-cons}
use borrow.Author.Tests.{leb-true}
use Rattle.model.specs.Sizes.{most_fields, most_conjuncts}
use Rattle.model.specs.Lists.{All, every}
use Rattle.model.specs.Bytes.{u32_at, part, Pair, pair_at}
use Rattle.model.specs.Fields.{field_right}
use Rattle.model.specs.Program.{type_right}
use Rattle.model.specs.Conjunct.{Conj}
use Rattle.model.specs.Condition.{conjunct_at, length_right, nodes_right, whole, numbered, rising}
use Rattle.model.proofs.Basics.Lists.{all_get_d}
use Rattle.model.proofs.Basics.Tests.{and_left, and_right}
use Rattle.model.proofs.Files.FieldTables.{length_types}
use Rattle.condition.specs.Answers.{part_nodes, pair_part, pair_right, pair_place, fields_at, types_at, pairs_of, linked, ConditionIsRead, counts_of, fields_of, types_of, conjuncts_of}
use Rattle.condition.proofs.Table.{Counted, form_by, form-narrow, form-types, form-pair, counted-read, conjunct-inside, fields-many, conjuncts-count}
use Rattle.plan.specs.Part.{conjunct_of, IsConjunct}
use Rattle.plan.proofs.Parts.{part-is-conjunct}

-- ---- what the reader has tested

-- its first tests: the file holds its counts, and they are not too large
form_sized : (s : List ℕ) (c f : ℕ) → form_by s c f ≡ true → (leb 8 (length s) && leb c most_conjuncts && leb f most_fields) ≡ true
unfolding form_by
form_sized s c f form =
    let pairs = pairs_of s f c in
    let sized = leb 8 (length s) && leb c most_conjuncts && leb f most_fields in
    let chain = linked s f c in
    let listed = every field_right (fields_at s f) in
    let right = every (pair_right (types_at s f) s) pairs in
    and_left sized chain
    (and_left (sized && chain) listed
    (and_left (sized && chain && listed) right (and_left (sized && chain && listed && right) (rising (map (conjunct_at s) pairs)) form)))

pub form-few : (s : List ℕ) (c f : ℕ) → form_by s c f ≡ true → c ≤ most_conjuncts
form-few s c f form =
    leb-true c most_conjuncts
    (and_right (leb 8 (length s)) (leb c most_conjuncts)
    (and_left (leb 8 (length s) && leb c most_conjuncts) (leb f most_fields) (form_sized s c f form)))

-- a pair that is right names a conjunct
right-is-conjunct : (types s : List ℕ) (p : Pair) → length types ≤ most_fields → p.offset + p.len ≤ length s → pair_right types s p ≡ true
    → IsConjunct (part s p.offset p.len)
unfolding pair_right
right-is-conjunct types s p few inside right =
    let long = length_right p in
    let formed = nodes_right types s p in
    let one = whole (conjunct_at s p) in
    let three = and_left (long && formed && one) (numbered (conjunct_at s p)) right in
    let two = and_left (long && formed) one three in
    part-is-conjunct types s p few inside (and_left long formed two) (and_right long formed two) (and_right (long && formed) one three)

module _ (s : List ℕ) (read : ConditionIsRead s (counts_of s)) where
  counted : Counted s (u32_at s 0) (u32_at s 4)
  counted = counted-read s (counts_of s) read

  pub fields-narrow : length (fields_of s) ≤ most_fields
  fields-narrow = rw (fields-many s (u32_at s 4)) (form-narrow s (u32_at s 0) (u32_at s 4) counted.form)

  pub types-right : every type_right (types_of s) ≡ true
  types-right = form-types s (u32_at s 0) (u32_at s 4) counted.form

  below : (i : ℕ) → i < length (conjuncts_of s) → i < u32_at s 0
  below i h = omega (arith, conjuncts-count s)

  pub conjunct-formed : (i : ℕ) → i < length (conjuncts_of s) → IsConjunct (pair_part s (pair_place (u32_at s 4) i))
  conjunct-formed i h =
      let f = u32_at s 4 in
      let types = types_at s f in
      let size : length types ≡ f = length_types (fields_at s f) ∙ fields-many s f in
      let few = form-narrow s (u32_at s 0) f counted.form in
      right-is-conjunct types s (pair_at s (pair_place f i)) (omega (arith, few)) (conjunct-inside s (counts_of s) read i (below i h))
      (form-pair s (u32_at s 0) f counted.form i (below i h))

-- ---- from conjunct to conjunct

module _ (s : List ℕ) where
  -- what is so of all conjuncts is so of the one that a part is
  pub conjunct-asked : (i : ℕ) (P : Conj → Type 0) → All P (conjuncts_of s) → i < length (conjuncts_of s) → (p : List ℕ) → part_nodes p ≡ get_or (conjuncts_of s) i []
      → P (conjunct_of p)
  unfolding conjunct_of
  conjunct-asked i P all h p is = subst P (sym is) (all_get_d P (conjuncts_of s) i [] all h)

  -- the one with number i is that of a part p
  pub next-conjunct : (i : ℕ) → i < length (conjuncts_of s) → (p : List ℕ) → part_nodes p ≡ get_or (conjuncts_of s) i []
      → drop i (conjuncts_of s) ≡ conjunct_of p ∷ drop (i + 1) (conjuncts_of s)
  unfolding conjunct_of
  next-conjunct i h p is = rw (is, add-one i) (drop-cons (conjuncts_of s) i [] h)

  pub none_left : (i : ℕ) → length (conjuncts_of s) ≤ i → drop i (conjuncts_of s) ≡ []
  none_left i h = drop_of_length-le (conjuncts_of s) {i = i} h
