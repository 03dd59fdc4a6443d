-- Every listing has at most `text_most` bytes: a number has at most 20 digits, a node 48 bytes, a conjunct 120 nodes, a condition 64 conjuncts.
use mathlib.Core.Path.{◌≡◌, refl, sym, ap, ◌∙◌}
use mathlib.Core.Bool.{Bool, true, false}
use mathlib.Core.List.{List, [], ◌∷◌, ◌++◌, flat_map}
use Prim.Native.Nat.{ℕ, zero, suc, ◌*◌, ◌^◌, ◌/◌, ◌%◌, ◌≤◌, ◌<◌}
use native.Mathlib.Omega.{arith}
use borrow.Author.Tests.{leb-true, leb-false}
use lib.Dec.{leb}
use lib.IntN.{ℤ, pos, negsuc}
use lib.ListN.{length, get_or, length-append}
use Rattle.arith.specs.Types.{bits}
use Rattle.arith.specs.Words.{immediate}
use Rattle.model.specs.Conjunct.{Source, field, cell, Node, const, atom, var, op, conv, Conj, Conjuncts}
use Rattle.model.specs.Condition.{Condition, read_condition, node_at}
use Rattle.model.specs.Decimal.{places, decimal, number}
use Rattle.model.specs.Listing.{type_text_lem, operation_text, atom_text, node_name, node_type, node_text_lem}
use Rattle.model.specs.Listing.{line_text, lines_from, listing_text, refusal_text, listing, text_of}
use Rattle.model.specs.Refusals.{Out, ok, refused, mapped}
use Rattle.model.specs.Values.{Operation, add, sub, mul, div}
use Rattle.model.proofs.Files.Parts.{length-entries}
use Rattle.model.proofs.Basics.Results.{mapped-ok}
use Rattle.condition.specs.Answers.{pair_part, pair_place, sizes, ConditionIsRead, counts_of, conjuncts_of}
use Rattle.condition.specs.declared.Counts.{Counts}
use Rattle.condition.proofs.Table.{form-many, counted-read, conjuncts-count, conjunct-nodes, conjunct-short, condition-read}
use Rattle.listing.specs.Text.{Room, text_most}
use Rattle.listing.proofs.Texts.{length-decimal, places-most, places-one, places_more}

-- ---- a node

decimal-most : (n : ℕ) → length (decimal n) ≤ 20
decimal-most n = omega (arith, length-decimal n, places-most 19 n)

number-most : (z : ℤ) → length (number z) ≤ 21
unfolding number
number-most (pos n) = omega (arith, decimal-most n)
number-most (negsuc n) = omega (arith, decimal-most (suc n))

two_places : (n : ℕ) → n < 100 → places 19 n ≤ 2
two_places n h = cases (leb 10 n) refl
  where
    cases : (b : Bool) → leb 10 n ≡ b → places 19 n ≤ 2
    cases true e =
        let l = leb-true 10 n e in
        omega (arith, places_more 19 n (omega arith) l, places-one 18 (n / 10) (omega arith))
    cases false e = omega (arith, places-one 19 n (leb-false 10 n e))

bits_small : (m : ℕ) → m < 4 → 8 * 2 ^ m < 100
bits_small zero h = omega arith
bits_small (suc zero) h = omega arith
bits_small (suc (suc zero)) h = omega arith
bits_small (suc (suc (suc zero))) h = omega arith
bits_small (suc (suc (suc (suc m)))) h = absurd (omega arith)

type-most : (ty : ℕ) → length (type_text_lem ty) ≤ 4
unfolding type_text_lem bits
type-most ty = omega (arith, length-decimal (8 * 2 ^ (ty % 4)), two_places (8 * 2 ^ (ty % 4)) (bits_small (ty % 4) (omega arith)))

operation-most : (o : Operation) → length (operation_text o) ≤ 43
unfolding operation_text
operation-most add = omega arith
operation-most sub = omega arith
operation-most mul = omega arith
operation-most div = omega arith

atom-most : (s : Source) (n : ℕ) → length (atom_text s n) ≤ 43
unfolding atom_text
atom-most (field f ty) n =
    omega
    (arith, length-append (decimal f) (60 ∷ (decimal n ++ (62 ∷ []))), length-append (decimal n) (62 ∷ []), decimal-most f, decimal-most n)
atom-most (cell l r k ty) n = omega arith

name_most : (v : Node) → length (node_name v) ≤ 43
unfolding node_name
name_most (const ty i) = omega (arith, number-most (immediate ty i))
name_most (atom a) = atom-most a.src a.n
name_most (var x ty) = omega arith
name_most (op o ty) = operation-most o
name_most (conv ty) = omega arith

node-most : (v : Node) → length (node_text_lem v) ≤ 48
unfolding node_text_lem
node-most v = omega (arith, length-append (node_name v) (type_text_lem (node_type v)), name_most v, type-most (node_type v))

-- ---- lines

nodes-most : (e : Conj) → length (flat_map node_text_lem e) ≤ 48 * length e
unfolding flat_map
nodes-most [] = omega arith
nodes-most (v ∷ e) = omega (arith, length-append (node_text_lem v) (flat_map node_text_lem e), node-most v, nodes-most e)

line_most : (i : ℕ) (e : Conj) → length e ≤ 120 → length (line_text i e) ≤ 5782
unfolding line_text
line_most i e h =
    let nodes = flat_map node_text_lem e in
    omega (arith, length-append (decimal i) (58 ∷ (nodes ++ (10 ∷ []))), length-append nodes (10 ∷ []), decimal-most i, nodes-most e)

lines-most : (i : ℕ) (S : Conjuncts) → ((j : ℕ) → j < length S → length (get_or S j []) ≤ 120) → length (lines_from i S) ≤ 5782 * length S
unfolding lines_from
lines-most i [] h = omega arith
lines-most i (e ∷ S) h =
    omega
    (arith, length-append (line_text i e) (lines_from (suc i) S), line_most i e (h zero (omega arith)), lines-most (suc i) S (λ j l. h (suc j) (omega arith)))

-- ---- a condition that is read

module _ (s : List ℕ) (read : ConditionIsRead s (counts_of s)) where
  abbrev k : Counts
  k = counts_of s

  -- it has as many conjuncts as stand at its start, and at most 64
  conjuncts-are : k.conjuncts ≡ length (conjuncts_of s)
  conjuncts-are = (counted-read s k read).conjuncts ∙ sym (conjuncts-count s)

  conjuncts-most : k.conjuncts ≤ 64
  conjuncts-most = cases (leb k.conjuncts 64) refl
    where
      cases : (b : Bool) → leb k.conjuncts 64 ≡ b → k.conjuncts ≤ 64
      cases true e = leb-true k.conjuncts 64 e
      cases false e =
          let q = counted-read s k read in
          let f = form-many s k.conjuncts k.fields (omega (arith, q.table)) (leb-false k.conjuncts 64 e) in
          let z : ◌≡◌ {A = ℕ} 0 1 = cc (f, q.form) in
          absurd (omega arith)

  -- each of at most 120 nodes
  conjunct-most : (j : ℕ) → j < length (conjuncts_of s) → length (get_or (conjuncts_of s) j []) ≤ 120
  conjunct-most j h =
      let l : j < k.conjuncts = omega (arith, conjuncts-are) in
      let p = pair_part s (pair_place k.fields j) in
      omega (arith, ap length (conjunct-nodes s k read j l), length-entries node_at 8 p (length p / 8) 0, conjunct-short s k read j l)

  -- there is room for its listing
  pub room-listing : (out : List ℕ) → text_most ≤ length out → Room (listing_text (conjuncts_of s)) 0 out
  unfolding listing_text
  room-listing out h =
      let S = conjuncts_of s in
      record {
        fits =
            omega (
              arith,
              conjuncts-are,
              conjuncts-most,
              decimal-most (length S),
              length-append (decimal (length S)) (10 ∷ lines_from 0 S),
              lines-most 0 S conjunct-most,
            );
      }

  -- and the listing is that of its conjuncts
  pub listing-read : listing s ≡ listing_text (conjuncts_of s)
  unfolding listing
  listing-read =
      let m = mapped-ok sizes (read_condition s) (k.conjuncts, k.fields) read in
      ap text_of m.1 ∙ ap listing_text (condition-read s m.0 m.1).1

-- of a file that is refused it is that of the refusal
pub listing-refused : (s : List ℕ) (n : ℕ) → refused n ≡ mapped (λ C. s) (read_condition s) → refusal_text n ≡ listing s
unfolding listing
listing-refused s n e = go (read_condition s) e
  where
    go : (o : Out Condition) → refused n ≡ mapped (λ C. s) o → refusal_text n ≡ text_of o
    go (ok C) q = let z : ◌≡◌ {A = ℕ} 0 1 = cc in absurd (omega arith)
    go (refused m) q = let d : n ≡ m = cc in ap refusal_text d

pub room_refusal : (n : ℕ) (out : List ℕ) → text_most ≤ length out → Room (refusal_text n) 0 out
unfolding refusal_text
room_refusal n out h = record { fits = omega (arith, length-append (decimal n) (10 ∷ []), decimal-most n) }
