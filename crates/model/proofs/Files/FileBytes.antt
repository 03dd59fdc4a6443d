-- The bytes of a condition file: how many they are, and what its reader finds in them.
use mathlib.Core.Path.{◌≡◌, refl, sym, ◌∙◌, ap, ap₂}
use mathlib.Core.Bool.{true}
use mathlib.Core.List.{List, [], ◌∷◌, ◌++◌, map, flat_map, append_assoc, map-id}
use Prim.Native.Nat.{ℕ, suc, ◌+◌, ◌*◌, ◌/◌}
use native.Mathlib.Nat.{add_assoc, add-zero}
use native.Mathlib.Omega.{arith}
use lib.ListN.{length, length-append}
use lib.Seq.{get_or-drop}
use borrow.Author.Tests.{eq-eqb}
use Rattle.model.specs.Lists.{All, every}
use Rattle.model.specs.Bytes.{u32_at, bytes4, Pair, pair_at, pairs_at, chained, entries}
use Rattle.model.specs.Fields.{Field, field_at, field_bytes, types_in}
use Rattle.model.specs.Conjunct.{Conj, Conjuncts}
use Rattle.model.specs.Condition.{conjunct_bytes, pair_bytes, conjuncts_at, encode, node_at, conjunct_at, node_right_lem, nodes_right}
use Rattle.model.specs.Formed.{FileNode, size}
use Rattle.model.proofs.Basics.Every.{every_of_map, all-every}
use Rattle.model.proofs.Basics.Lists.{all_of}
use Rattle.model.proofs.Basics.LittleEndian.{four_back, u32_bytes4}
use Rattle.model.proofs.Files.NodeBytes.{conjunct-size, conjunct-read, conjunct-right}
use Rattle.model.proofs.Files.Places.{From, from-after, Local, local_from, length_things, entries-read}
use Rattle.model.proofs.Basics.Tests.{eqb_self}

-- the pair of a conjunct that stands at a place
abbrev pub pair_of : ℕ → Conj → Pair
pair_of a e = record { offset = a; len = 8 * length e }

-- the pairs of conjuncts that stand one after the other from a place on
abbrev pub pairs : ℕ → Conjuncts → List Pair
pairs a [] = []
pairs a (e ∷ S) = pair_of a e ∷ pairs (a + 8 * length e) S

every_true : {A : Type 0} (xs : List A) → every (λ b. b) (map (λ x. true) xs) ≡ true
every_true xs = every_of_map (λ b. b) (λ x. true) xs ∙ all-every (λ x. true) xs (all_of (λ x. refl) xs)

eighth : (n : ℕ) → 8 * n / 8 ≡ n
eighth n = omega arith

-- ---- conjuncts one after the other

module _ (types : List ℕ) where
  pub conjuncts-size : (S : Conjuncts) → All (All (FileNode types)) S → length (flat_map conjunct_bytes S) ≡ 8 * size S
  unfolding flat_map
  conjuncts-size [] h = refl
  conjuncts-size (e ∷ S) h = rw length-append (omega (arith, conjunct-size types e h.0, conjuncts-size S h.1))

  -- one, at its pair
  module _ (e : Conj) (h : All (FileNode types) e) (s : List ℕ) (a : ℕ) (t : List ℕ) (f : From s a (conjunct_bytes e ++ t)) where
    placed-read : conjunct_at s (pair_of a e) ≡ e
    placed-read = ap (entries node_at 8 s a) (eighth (length e)) ∙ conjunct-read types e h s a t f

    placed-right : nodes_right types s (pair_of a e) ≡ true
    placed-right =
        ap (every (λ b. b)) (ap (entries (node_right_lem types) 8 s a) (eighth (length e)) ∙ conjunct-right types e h s a t f) ∙ every_true e

  -- what finds one at its pair finds them all
  module _ {A : Type 0} (look : List ℕ → Pair → A) (get : Conj → A)
      (found : (e : Conj) → All (FileNode types) e → (s : List ℕ) (a : ℕ) (t : List ℕ) → From s a (conjunct_bytes e ++ t) → look s (pair_of a e) ≡ get e) where
    conjuncts-found : (S : Conjuncts) → All (All (FileNode types)) S → (s : List ℕ) (a : ℕ) → From s a (flat_map conjunct_bytes S) → map (look s) (pairs a S) ≡ map get S
    unfolding flat_map
    conjuncts-found [] h s a f = refl
    conjuncts-found (e ∷ S) h s a f =
        ap₂ ◌∷◌ (found e h.0 s a (flat_map conjunct_bytes S) f)
        (conjuncts-found S h.1 s (a + 8 * length e) (from-after s a (conjunct_bytes e) (flat_map conjunct_bytes S) (8 * length e) (conjunct-size types e h.0) f))

  module _ (S : Conjuncts) (h : All (All (FileNode types)) S) (s : List ℕ) (a : ℕ) (f : From s a (flat_map conjunct_bytes S)) where
    conjuncts-read : map (conjunct_at s) (pairs a S) ≡ S
    conjuncts-read = conjuncts-found conjunct_at (λ e. e) placed-read S h s a f ∙ map-id S

    conjuncts-right : every (nodes_right types s) (pairs a S) ≡ true
    conjuncts-right =
        sym (every_of_map (λ b. b) (nodes_right types s) (pairs a S))
        ∙ ap (every (λ b. b)) (conjuncts-found (nodes_right types) (λ e. true) placed-right S h s a f)
        ∙ every_true S

-- ---- the table

-- a pair's 8 bytes
pair_put : Pair → List ℕ
pair_put p = bytes4 p.offset ++ bytes4 p.len

pair_local : Local pair_at
pair_local s a = simp (get_or-drop, add_assoc, add-zero)

pair_size : (p : Pair) → length (pair_put p) ≡ 8
unfolding pair_put bytes4
pair_size p = refl

pair_read : (p : Pair) (t : List ℕ) → pair_at (pair_put p ++ t) 0 ≡ p
unfolding pair_put bytes4
pair_read p t = λ i. record { offset = four_back p.offset i; len = four_back p.len i }

length_pairs : (S : Conjuncts) (at : ℕ) → length (pairs at S) ≡ length S
length_pairs [] at = refl
length_pairs (e ∷ S) at = ap suc (length_pairs S (at + 8 * length e))

-- the table is its pairs, one after the other
pairs_bytes : (S : Conjuncts) (at : ℕ) → pair_bytes at S ≡ flat_map pair_put (pairs at S)
unfolding pair_bytes flat_map pair_put
pairs_bytes [] at = refl
pairs_bytes (e ∷ S) at = ap (bytes4 at ++ bytes4 (8 * length e) ++◌) (pairs_bytes S (at + 8 * length e))

pub table-size : (S : Conjuncts) (at : ℕ) → length (pair_bytes at S) ≡ 8 * length S
table-size S at =
    ap length (pairs_bytes S at) ∙ length_things pair_put 8 (pairs at S) (all_of pair_size (pairs at S)) ∙ ap (8 *◌) (length_pairs S at)

-- the reader finds them
table-read : (S : Conjuncts) (at : ℕ) (s : List ℕ) (a : ℕ) (t : List ℕ) → From s a (pair_bytes at S ++ t) → pairs_at s a (length S) ≡ pairs at S
table-read S at s a t f =
    ap (entries pair_at 8 s a) (sym (length_pairs S at))
    ∙ entries-read pair_put 8 pair_at (λ p. p) pair_local (pairs at S) (all_of pair_size (pairs at S)) (all_of pair_read (pairs at S)) s a t (f ∙ ap (◌++ t) (pairs_bytes S at))
    ∙ map-id (pairs at S)

-- and each conjunct stands where the one before ends
pub table-chained : (S : Conjuncts) (at end : ℕ) → end ≡ at + 8 * size S → chained at (pairs at S) end ≡ true
unfolding chained
table-chained [] at end h = eq-eqb at end (omega arith)
table-chained (e ∷ S) at end h = rw (eqb_self at) (table-chained S (at + 8 * length e) end (omega arith))

-- ---- the fields

field_local : Local field_at
field_local s a = simp (get_or-drop, add-zero)

pub fields-size : (fields : List Field) → length (flat_map field_bytes fields) ≡ 2 * length fields
fields-size fields = length_things field_bytes 2 fields (all_of (λ F. refl) fields)

-- the reader finds them
pub fields_read : (fields : List Field) (s : List ℕ) (a : ℕ) (t : List ℕ) → From s a (flat_map field_bytes fields ++ t) → entries field_at 2 s a (length fields) ≡ fields
fields_read fields s a t f =
    entries-read field_bytes 2 field_at (λ F. F) field_local fields (all_of (λ F. refl) fields) (all_of (λ F u. refl) fields) s a t f ∙ map-id fields

-- ---- the file

u32_local : Local u32_at
u32_local s a = simp (get_or-drop, add-zero)

four : (v : ℕ) → length (bytes4 v) ≡ 4
unfolding bytes4
four v = refl

module _ (fields : List Field) (S : Conjuncts) where
  -- where the conjuncts begin
  abbrev begin : ℕ
  begin = conjuncts_at (length fields) (length S)

  -- the bytes of the fields
  abbrev listed : List ℕ
  listed = flat_map field_bytes fields

  encode-parts : encode fields S ≡ bytes4 (length S) ++ (bytes4 (length fields) ++ (listed ++ (pair_bytes begin S ++ flat_map conjunct_bytes S)))
  unfolding encode
  encode-parts = simp append_assoc

  -- what stands at each place
  from-count : From (encode fields S) 4 (bytes4 (length fields) ++ (listed ++ (pair_bytes begin S ++ flat_map conjunct_bytes S)))
  from-count = from-after (encode fields S) 0 (bytes4 (length S)) _ 4 (four (length S)) encode-parts

  from_fields : From (encode fields S) 8 (listed ++ (pair_bytes begin S ++ flat_map conjunct_bytes S))
  from_fields = from-after (encode fields S) 4 (bytes4 (length fields)) _ 4 (four (length fields)) from-count

  from-table : From (encode fields S) (8 + 2 * length fields) (pair_bytes begin S ++ flat_map conjunct_bytes S)
  from-table = from-after (encode fields S) 8 listed _ (2 * length fields) (fields-size fields) from_fields

  from-conjuncts : From (encode fields S) begin (flat_map conjunct_bytes S)
  from-conjuncts = from-after (encode fields S) (8 + 2 * length fields) (pair_bytes begin S) _ (8 * length S) (table-size S begin) from-table

  -- what the reader finds
  pub file-conjuncts : u32_at (encode fields S) 0 ≡ length S
  file-conjuncts = ap (λ s. u32_at s 0) encode-parts ∙ u32_bytes4 (length S) _

  pub file-count : u32_at (encode fields S) 4 ≡ length fields
  file-count = local_from u32_at u32_local (encode fields S) 4 _ from-count ∙ u32_bytes4 (length fields) _

  pub file-fields : entries field_at 2 (encode fields S) 8 (length fields) ≡ fields
  file-fields = fields_read fields (encode fields S) 8 _ from_fields

  pub file-table : pairs_at (encode fields S) (8 + 2 * length fields) (length S) ≡ pairs begin S
  file-table = table-read S begin (encode fields S) (8 + 2 * length fields) (flat_map conjunct_bytes S) from-table

  module _ (h : All (All (FileNode (types_in fields))) S) where
    pub file-read : map (conjunct_at (encode fields S)) (pairs begin S) ≡ S
    file-read = conjuncts-read (types_in fields) S h (encode fields S) begin from-conjuncts

    pub file-right : every (nodes_right (types_in fields) (encode fields S)) (pairs begin S) ≡ true
    file-right = conjuncts-right (types_in fields) S h (encode fields S) begin from-conjuncts

    pub length-encode : length (encode fields S) ≡ 8 + 2 * length fields + 8 * length S + 8 * size S
    length-encode =
        ap length encode-parts
        ∙ simp (length-append, four) (omega (arith, fields-size fields, table-size S begin, conjuncts-size (types_in fields) S h))
