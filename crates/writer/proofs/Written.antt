-- The parts of a condition file, stored one behind the other: nodes, conjuncts, pairs, and the whole.
use mathlib.Core.List.{List, [], ◌∷◌, ◌++◌, flat_map, append_assoc, append-nil}
use mathlib.Core.Path.{◌≡◌, refl, sym, ap, ◌∙◌}
use Prim.Native.Nat.{ℕ, zero, suc, ◌+◌, ◌*◌, ◌<◌, ◌≤◌}
use native.Mathlib.Numerals.{add-one}
use native.Mathlib.Omega.{arith}
use lib.ListN.{length, get_or, take, length-append, length-map, get_or-map}
use lib.Seq.{get_or-take, length-take-le}
use Rattle.model.proofs.Files.FileBytes.{conjuncts-size, table-size, fields-size, length-encode}
use Rattle.model.proofs.Basics.Lists.{all_imp, all_get_d}
use Rattle.model.proofs.Files.NodeBytes.{conjunct-size}
use Rattle.model.specs.Bytes.{bytes4}
use Rattle.model.specs.Condition.{conjunct_bytes, pair_bytes, conjuncts_at, encode}
use Rattle.model.specs.Fields.{Field, field_bytes, types_in}
use Rattle.model.specs.Conjunct.{Conj, Conjuncts, bytes}
use Rattle.model.specs.Sizes.{most_fields}
use Rattle.model.specs.Lists.{All}
use Rattle.model.specs.Formed.{size, FileNode, Formed}
use Rattle.bytes_le.proofs.Overlays.{stored_then}
use Rattle.bytes_le.specs.Overlay.{overlay}
use Rattle.program.proofs.Known.{counts-known}
use Rattle.program.specs.Reading.{ProgramIsRead, tables_of}
use Rattle.conjunct.specs.Word.{node_of, nodes_of_lem, file_bytes}

-- ---- stores

pub four_bytes : (v : ℕ) → length (bytes4 v) ≡ 4
unfolding bytes4
four_bytes v = refl

-- ---- the first things of a list

module _ {A : Type 0} where
  pub all_take : (P : A → Type 0) (i : ℕ) (xs : List A) → All P xs → All P (take i xs)
  all_take P zero xs h = tt
  all_take P (suc i) [] h = tt
  all_take P (suc i) (x ∷ xs) h = (h.0, all_take P i xs h.1)

  -- the bytes of one thing more
  more_things : (put : A → List ℕ) (xs : List A) (i : ℕ) (d : A) → i < length xs
      → flat_map put (take (suc i) xs) ≡ flat_map put (take i xs) ++ put (get_or xs i d)
  unfolding flat_map
  more_things put [] i d h = absurd (omega arith)
  more_things put (x ∷ xs) zero d h = append-nil (put x)
  more_things put (x ∷ xs) (suc i) d h =
      ap (put x ++◌) (more_things put xs i d (omega arith)) ∙ sym (append_assoc (put x) (flat_map put (take i xs)) (put (get_or xs i d)))

-- ---- the nodes of a conjunct

-- the words of a conjunct are its nodes
pub word_at : (l : List ℕ) (n i : ℕ) → i < n → get_or (nodes_of_lem (take n l)) i (node_of 0) ≡ node_of (get_or l i 0)
word_at l n i h = get_or-map node_of (take n l) i 0 ∙ ap node_of (get_or-take n l i 0 h)

pub words_count : (l : List ℕ) (n : ℕ) → n ≤ length l → length (nodes_of_lem (take n l)) ≡ n
words_count l n h = length-map (take n l) node_of ∙ length-take-le n l h

-- one node more
module _ (types : List ℕ) (e : Conj) (h : All (FileNode types) e) (o m k : List ℕ) (a i w v : ℕ) (l : i < length e) where
  pub conjunct_more : get_or e i (node_of 0) ≡ node_of w → (FileNode types (node_of w) → bytes (node_of w) ≡ file_bytes v)
      → m ≡ overlay o a (conjunct_bytes (take i e)) → k ≡ overlay m (a + 8 * i) (file_bytes v) → k ≡ overlay o a (conjunct_bytes (take (i + 1) e))
  unfolding conjunct_bytes
  conjunct_more at filed p q =
      let place : a + 8 * i ≡ a + length (conjunct_bytes (take i e)) =
      omega (arith, conjunct-size types (take i e) (all_take (FileNode types) i e h), length-take-le i e (omega arith)) in
      let node : FileNode types (node_of w) = rw at at (all_get_d (FileNode types) e i (node_of 0) h l) in
      rw (add-one i, more_things bytes e i (node_of 0) l, at, filed node)
      (stored_then o m k (conjunct_bytes (take i e)) (file_bytes v) a (a + 8 * i) place p q)

-- ---- the conjuncts of a set

-- one conjunct more
pub size_more : (S : Conjuncts) (i : ℕ) → i < length S → size (take (suc i) S) ≡ size (take i S) + length (get_or S i [])
size_more [] i h = absurd (omega arith)
size_more (e ∷ S) zero h = omega arith
size_more (e ∷ S) (suc i) h = omega (arith, size_more S i (omega arith))

module _ (types : List ℕ) (S : Conjuncts) (h : All (All (FileNode types)) S) (o m k : List ℕ) (a i j : ℕ) (l : i < length S) (d : Conj)
    (one : d ≡ get_or S i []) where
  pub conjuncts_more : j ≡ a + 8 * size (take i S) → m ≡ overlay o a (flat_map conjunct_bytes (take i S))
      → (All (FileNode types) d → k ≡ overlay m j (conjunct_bytes d))
      → k ≡ overlay o a (flat_map conjunct_bytes (take (i + 1) S))
  conjuncts_more e p q =
      let place : j ≡ a + length (flat_map conjunct_bytes (take i S)) =
      omega (arith, conjuncts-size types (take i S) (all_take (All (FileNode types)) i S h)) in
      let nodes : All (FileNode types) d = rw one (all_get_d (All (FileNode types)) S i [] h l) in
      rw (add-one i, more_things conjunct_bytes S i [] l, ← one)
      (stored_then o m k (flat_map conjunct_bytes (take i S)) (conjunct_bytes d) a j place p (q nodes))

-- ---- the pairs

-- one pair more
more_pairs : (S : Conjuncts) (at i : ℕ) → i < length S
    → pair_bytes at (take (suc i) S) ≡ pair_bytes at (take i S) ++ (bytes4 (at + 8 * size (take i S)) ++ bytes4 (8 * length (get_or S i [])))
unfolding pair_bytes
more_pairs [] at i h = absurd (omega arith)
more_pairs (e ∷ S) at zero h = let z : at + 8 * 0 ≡ at = omega arith in rw z (append-nil (bytes4 at ++ bytes4 (8 * length e)))
more_pairs (e ∷ S) at (suc i) h =
    let z : at + 8 * length e + 8 * size (take i S) ≡ at + 8 * (length e + size (take i S)) = omega arith in
    ap (bytes4 at ++ bytes4 (8 * length e) ++◌) (more_pairs S (at + 8 * length e) i (omega arith))
    ∙ rw z (sym (append_assoc (bytes4 at ++ bytes4 (8 * length e)) _ _))

module _ (S : Conjuncts) (o m k : List ℕ) (a begin i at n : ℕ) (l : i < length S) where
  pub pairs_more : at ≡ begin + 8 * size (take i S) → n ≡ length (get_or S i []) → m ≡ overlay o a (pair_bytes begin (take i S))
      → k ≡ overlay m (a + 8 * i) (bytes4 at ++ bytes4 (8 * n)) → k ≡ overlay o a (pair_bytes begin (take (i + 1) S))
  pairs_more e f p q =
      let place : a + 8 * i ≡ a + length (pair_bytes begin (take i S)) =
      omega (arith, table-size (take i S) begin, length-take-le i S (omega arith)) in
      rw (add-one i, more_pairs S begin i l, ← e, ← f)
      (stored_then o m k (pair_bytes begin (take i S)) (bytes4 at ++ bytes4 (8 * n)) a (a + 8 * i) place p q)

-- ---- the file

module _ (fields : List Field) (S : Conjuncts) (h : All (Formed (types_in fields)) S) where
  pub nodes_of_file : All (All (FileNode (types_in fields))) S
  nodes_of_file = all_imp (λ e f. f.nodes) S h

  pub file-length : (r : ℕ) → r ≡ conjuncts_at (length fields) (length S) + 8 * size S → r ≡ length (encode fields S)
  file-length r e = omega (arith, length-encode fields S nodes_of_file)

-- a program that is read has at most 32 fields
pub fields-few : (s : List ℕ) → ProgramIsRead s → length (tables_of s).fields ≤ most_fields
fields-few s h = (counts-known s h).fields

-- its five parts, stored one behind the other: c is the count of conjuncts, n that of fields, and the table has their bytes
module _ (fields : List Field) (S : Conjuncts) (table : List ℕ) (n c : ℕ) (same : table ≡ flat_map field_bytes fields) (listed : n ≡ length fields)
    (count : c ≡ length S) where
  abbrev begin : ℕ
  begin = 8 + length table + 8 * c

  begins : begin ≡ conjuncts_at (length fields) (length S)
  begins = omega (arith, ap length same, fields-size fields, count)

  pub file_stored : (o p q r s t : List ℕ) → p ≡ overlay o 0 (bytes4 c) → q ≡ overlay p 4 (bytes4 n) → r ≡ overlay q 8 table
      → s ≡ overlay r (8 + length table) (pair_bytes begin S) → t ≡ overlay s begin (flat_map conjunct_bytes S) → t ≡ overlay o 0 (encode fields S)
  unfolding encode
  file_stored o p q r s t e f g h k =
      let x = bytes4 c in
      let y = bytes4 n in
      let pairs = pair_bytes begin S in
      let one : length x ≡ 4 = four_bytes c in
      let two : length y ≡ 4 = four_bytes n in
      let b = stored_then o p q x y 0 4 (omega arith) e f in
      let d = stored_then o q r (x ++ y) table 0 8 (simp length-append (omega arith)) b g in
      let m = stored_then o r s (x ++ y ++ table) pairs 0 (8 + length table) (simp length-append (omega arith)) d h in
      rw (← begins, ← same, ← listed, ← count)
      (stored_then o s t (x ++ y ++ table ++ pairs) (flat_map conjunct_bytes S) 0 begin (simp length-append (omega (arith, table-size S begin))) m k)
