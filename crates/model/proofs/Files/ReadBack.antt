-- The condition file of a tidy set of formed conjuncts is accepted, and read back to the set.
use mathlib.Core.Path.{◌≡◌, refl, ◌∙◌, ap, ap₂}
use mathlib.Core.Bool.{true, ◌&&◌}
use mathlib.Core.List.{List, [], ◌∷◌}
use Prim.Native.Nat.{ℕ, ◌+◌, ◌*◌, ◌%◌, ◌≤◌, ◌<◌}
use native.Mathlib.Omega.{arith}
use lib.Dec.{compare_is_eq}
use lib.ListN.{length}
use borrow.Author.Tests.{lt-ltb, le-leb, eq-eqb}
use Rattle.model.specs.Lists.{All, every}
use Rattle.model.specs.Refusals.{ok}
use Rattle.model.specs.Fields.{Field, field_right, types_in}
use Rattle.model.specs.Conjunct.{Conj, Conjuncts, order_nodes}
use Rattle.model.specs.Condition.{conjuncts_at, encode, condition_bytes, type_nodes, whole, numbered, is_before, rising, length_right, read_condition}
use Rattle.model.specs.Formed.{size, FileNode, Formed}
use Rattle.model.specs.Sizes.{most_nodes, most_fields, most_conjuncts}
use Rattle.model.specs.TidySets.{Canon, Numbered, Fine, Tidy}
use Rattle.model.proofs.Basics.Every.{all-every}
use Rattle.model.proofs.Files.FileBytes.{pair_of, pairs, table-chained, file-conjuncts, file-count, file-fields, file-table, file-read, file-right, length-encode}
use Rattle.model.proofs.Conjuncts.Limits.{short-each}
use Rattle.model.proofs.Basics.Lists.{all_imp}
use Rattle.model.proofs.Conjuncts.Order.{nodes_self}
use Rattle.model.proofs.Basics.Tests.{true→T}

-- ---- the tests of the reader

numbered_test : (e : Conj) → Numbered e → numbered e ≡ true
unfolding numbered
numbered_test e h = ap compare_is_eq (ap (λ d. order_nodes d e) h ∙ nodes_self e)

rising_test : (S : Conjuncts) → Canon S → rising S ≡ true
unfolding rising
rising_test [] h = refl
rising_test (d ∷ []) h = refl
rising_test (d ∷ e ∷ S) h = ap₂ ◌&&◌ (ap is_before h.0.0) (rising_test (e ∷ S) h.1)

-- an expression has a node
whole-some : (e : Conj) → whole e ≡ true → 0 < length e
unfolding whole type_nodes
whole-some [] h = absurd (true→T h)
whole-some (v ∷ e) h = omega arith

short-size : (S : Conjuncts) → All (λ e. length e ≤ most_nodes) S → size S ≤ most_nodes * length S
short-size [] h = omega arith
short-size (e ∷ S) h = omega (arith, short-size S h.1)

length_test : (e : Conj) (a : ℕ) → 0 < length e → length e ≤ most_nodes → length_right (pair_of a e) ≡ true
length_test e a h k = rw (lt-ltb 0 (8 * length e) (omega arith), le-leb (8 * length e) 960 (omega arith)) (eq-eqb (8 * length e % 8) 0 (omega arith))

lengths_test : (S : Conjuncts) (a : ℕ) → All (λ e. 0 < length e) S → All (λ e. length e ≤ most_nodes) S → every length_right (pairs a S) ≡ true
unfolding every
lengths_test [] a h k = refl
lengths_test (e ∷ S) a h k = ap₂ ◌&&◌ (length_test e a h.0 k.0) (lengths_test S (a + 8 * length e) h.1 k.1)

-- ---- the file

pub encode-reads : (fields : List Field) (S : Conjuncts) → length fields ≤ most_fields → All (λ F. field_right F ≡ true) fields → Tidy S
    → All (Formed (types_in fields)) S → read_condition (encode fields S) ≡ ok (record { fields = fields; conjuncts = S })
unfolding read_condition
encode-reads fields S few right tidy formed =
    let nodes : All (All (FileNode (types_in fields))) S = all_imp (λ e h. h.nodes) S formed in
    let begin = conjuncts_at (length fields) (length S) in
    let total = length-encode fields S nodes in
    rw (
      file-conjuncts fields S,
      file-count fields S,
      file-fields fields S,
      file-table fields S,
      file-read fields S nodes,
      le-leb 8 (length (encode fields S)) (omega arith),
      le-leb (length S) most_conjuncts tidy.fine.few,
      le-leb (length fields) most_fields few,
      table-chained S begin (length (encode fields S)) total,
      all-every field_right fields right,
      lengths_test S begin (all_imp (λ e h. whole-some e h.one) S formed) (short-each S tidy.fine.short),
      file-right fields S nodes,
      all-every whole S (all_imp (λ e h. h.one) S formed),
      all-every numbered S (all_imp numbered_test S tidy.numbered),
      rising_test S tidy.canon,
    )

-- within the limits the file has at most 62,024 bytes
pub encode-fits : (fields : List Field) (S : Conjuncts) → length fields ≤ most_fields → Fine S → All (Formed (types_in fields)) S
    → length (encode fields S) ≤ condition_bytes
encode-fits fields S few fine formed =
    omega (arith, length-encode fields S (all_imp (λ e h. h.nodes) S formed), short-size S (short-each S fine.short))
