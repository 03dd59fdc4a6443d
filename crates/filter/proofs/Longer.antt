-- Files that are longer than any of their form: the filter refuses them, so it answers alike where only one byte more than
-- the longest is looked at.
use mathlib.Core.Path.{◌≡◌, refl, sym, ap, ◌∙◌}
use mathlib.Core.Bool.{true, ◌&&◌, cond}
use mathlib.Core.List.{List, [], ◌∷◌}
use Prim.Native.Nat.{ℕ, ◌+◌, ◌*◌, ◌%◌, ◌≤◌, ◌<◌}
use native.Mathlib.Nat.{mul-suc}
use native.Mathlib.Omega.{arith}
use lib.Dec.{leb, ltb, eqb}
use lib.ListN.{length, get_or, take}
use lib.Seq.{length-take-le, take_all}
use borrow.Author.Tests.{eqb-true, leb-true, leb-false}
use Rattle.arith.proofs.Spans.{bits_le}
use Rattle.model.specs.Sizes.{field_size, pair_size_lem, counts_size, node_size, most_nodes, most_fields, most_readings}
use Rattle.model.specs.Lists.{All}
use Rattle.model.specs.Refusals.{Out, ok, refused, ◌>>=◌, check, wrong_condition, wrong_input}
use Rattle.model.specs.Bytes.{u32_at, Pair, pair_at, pairs_at, chained}
use Rattle.model.specs.Fields.{Field, types_in}
use Rattle.model.specs.Condition.{Condition, condition_bytes, conjuncts_at, read_condition}
use Rattle.model.specs.Input.{Input, width, readings_of, lengths_right, bits_right_lem, read_input}
use Rattle.model.specs.Failure.{verdict}
use Rattle.model.proofs.Basics.Tests.{case, and_left, and_right}
use Rattle.model.proofs.Basics.Results.{check-ok}
use Rattle.model.proofs.Basics.Every.{every-all}
use Rattle.model.proofs.Files.Parts.{length-entries}
use Rattle.model.proofs.Files.FieldTables.{length_types}
use Rattle.condition.specs.Answers.{pair_right, pairs_of, types_at, fields_of, conjuncts_of}
use Rattle.condition.proofs.Table.{form_by, form-narrow, form-chained, form_pairs, pair-short, read-form, condition-read, fields-many}
use Rattle.filter.specs.Verdict.{judged}
use Rattle.filter.proofs.Conjuncts.{form-few}
use Rattle.filter.proofs.Verdicts.{verdict-steps}

-- ---- the longest files

-- the bytes of the widest reading
abbrev reading_bytes : ℕ
reading_bytes = 8

-- the bytes of the longest conjunct, and of a field's most readings
abbrev conjunct_most : ℕ
conjunct_most = node_size * most_nodes

abbrev part_most : ℕ
part_most = most_readings * reading_bytes

-- the bytes of the longest input: a pair and the most readings for each field
abbrev pub input_bytes : ℕ
input_bytes = most_fields * (pair_size_lem + part_most)

-- ---- parts of a bounded length, one after the other

chained-end : (m : ℕ) (ps : List Pair) (a e : ℕ) → chained a ps e ≡ true → All (λ p. p.len ≤ m) ps → e ≤ a + m * length ps
unfolding chained
chained-end m [] a e h k = omega (arith, eqb-true a e h)
chained-end m (p ∷ ps) a e h k =
    let r = chained-end m ps (a + p.len) e (and_right (eqb p.offset a) (chained (a + p.len) ps e) h) k.1 in
    omega (arith, mul-suc m (length ps), k.0)

-- ---- the condition

rights_short : (types s : List ℕ) (ps : List Pair) → All (λ p. pair_right types s p ≡ true) ps → All (λ p. p.len ≤ conjunct_most) ps
rights_short types s [] h = tt
rights_short types s (p ∷ ps) h = (pair-short types s p h.0, rights_short types s ps h.1)

form_bounded : (s : List ℕ) (c f : ℕ) → form_by s c f ≡ true → length s ≤ condition_bytes
form_bounded s c f form =
    let ps = pairs_of s f c in
    let short = rights_short (types_at s f) s ps (every-all (pair_right (types_at s f) s) ps (form_pairs s c f form)) in
    omega (
      arith,
      chained-end conjunct_most ps (conjuncts_at f c) (length s) (form-chained s c f form) short,
      length-entries pair_at pair_size_lem s c (counts_size + field_size * f),
      form-few s c f form,
      form-narrow s c f form,
    )

condition-long : (s : List ℕ) → condition_bytes < length s → read_condition s ≡ refused wrong_condition
condition-long s h =
    let C : Condition = record { fields = fields_of s; conjuncts = conjuncts_of s } in
    read-form s
    ∙ case (form_by s (u32_at s 0) (u32_at s 4)) (λ z. check z wrong_condition (ok C) ≡ refused wrong_condition)
    (λ q. absurd (omega (arith, form_bounded s (u32_at s 0) (u32_at s 4) q))) (λ q. refl)

-- a condition that is read has at most 32 fields
fields-few : (s : List ℕ) (C : Condition) → read_condition s ≡ ok C → length C.fields ≤ most_fields
fields-few s C e =
    let D : Condition = record { fields = fields_of s; conjuncts = conjuncts_of s } in
    let form = (check-ok (form_by s (u32_at s 0) (u32_at s 4)) wrong_condition (ok D) C (sym (read-form s) ∙ e)).0 in
    rw ((condition-read s C e).0, fields-many s (u32_at s 4)) (form-narrow s (u32_at s 0) (u32_at s 4) form)

-- ---- the input

width_le : (t : ℕ) → width t ≤ reading_bytes
unfolding width
width_le t = omega (arith, bits_le t)

lengths_short : (types : List ℕ) (ps : List Pair) → length ps ≡ length types → lengths_right types ps ≡ true → All (λ p. p.len ≤ part_most) ps
unfolding lengths_right
lengths_short types [] n h = tt
lengths_short [] (p ∷ ps) n h = absurd (omega arith)
lengths_short (ty ∷ types) (p ∷ ps) n h =
    let even = eqb (p.len % width ty) 0 in
    let few = leb p.len (most_readings * width ty) in (
      omega (arith, leb-true p.len (most_readings * width ty) (and_right even few (and_left (even && few) (lengths_right types ps) h)), width_le ty),
      lengths_short types ps (omega arith) (and_right (even && few) (lengths_right types ps) h),
    )

input-long : (fields : List Field) (s : List ℕ) → length fields ≤ most_fields → input_bytes < length s → read_input fields s ≡ refused wrong_input
unfolding read_input
input-long fields s few h =
    let types = types_in fields in
    let ps = pairs_at s 0 (length fields) in
    let n = length-entries pair_at pair_size_lem s (length fields) 0 in
    let chain = chained (pair_size_lem * length fields) ps (length s) in
    let lengths = lengths_right types ps in
    let J : Input = λ f. cond (ltb f (length fields)) (readings_of (get_or types f 0) s (pair_at s (pair_size_lem * f))) [] in
    case (chain && lengths && bits_right_lem fields s ps) (λ z. check z wrong_input (ok J) ≡ refused wrong_input)
    (λ q.
    let both = and_left (chain && lengths) (bits_right_lem fields s ps) q in
    absurd (omega (
      arith,
      chained-end part_most ps (pair_size_lem * length fields) (length s) (and_left chain lengths both)
          (lengths_short types ps (n ∙ sym (length_types fields)) (and_right chain lengths both)),
    )))
    (λ q. refl)

-- ---- what is read of a longer file decides

-- one byte more than the longest
abbrev pub condition_part : List ℕ → List ℕ
condition_part c = take (condition_bytes + 1) c

abbrev pub input_part : List ℕ → List ℕ
input_part s = take (input_bytes + 1) s

input_shortened : (fields : List Field) (s : List ℕ) → length fields ≤ most_fields → read_input fields (input_part s) ≡ read_input fields s
input_shortened fields s few =
    case (leb (length s) input_bytes) (λ z. read_input fields (input_part s) ≡ read_input fields s)
    (λ q. ap (read_input fields) (take_all (input_bytes + 1) s (omega (arith, leb-true (length s) input_bytes q))))
    (λ q.
    let l = leb-false (length s) input_bytes q in
    input-long fields (input_part s) few (omega (arith, length-take-le (input_bytes + 1) s (omega arith))) ∙ sym (input-long fields s few l))

on_input : (c s : List ℕ) (o : Out Condition) → read_condition c ≡ o → verdict c (input_part s) ≡ verdict c s
on_input c s (refused n) e = verdict-steps c (input_part s) ∙ rw e (sym (verdict-steps c s ∙ rw e))
on_input c s (ok C) e =
    verdict-steps c (input_part s)
    ∙ rw e (ap (λ (i : Out Input). i >>= λ I. judged I C.conjuncts) (input_shortened C.fields s (fields-few c C e))
    ∙ sym (verdict-steps c s ∙ rw e))

pub shortened : (c s : List ℕ) → verdict (condition_part c) (input_part s) ≡ verdict c s
shortened c s =
    case (leb (length c) condition_bytes) (λ z. verdict (condition_part c) (input_part s) ≡ verdict c s)
    (λ q. ap (λ (d : List ℕ). verdict d (input_part s)) (take_all (condition_bytes + 1) c (omega (arith, leb-true (length c) condition_bytes q)))
    ∙ on_input c s (read_condition c) refl)
    (λ q.
    let l = leb-false (length c) condition_bytes q in
    verdict-steps (condition_part c) (input_part s)
    ∙ rw (condition-long (condition_part c) (omega (arith, length-take-le (condition_bytes + 1) c (omega arith))))
    (sym (verdict-steps c s ∙ rw (condition-long c l))))
