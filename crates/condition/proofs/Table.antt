-- The file as a whole: its parts by the table of pairs, the tests of its reader, and what a file that is read holds.
use mathlib.Core.Path.{◌≡◌, refl, sym, ◌∙◌, ap, ap₂, subst}
use mathlib.Core.Bool.{Bool, true, false, ◌&&◌}
use mathlib.Core.List.{List, [], ◌∷◌, map}
use Prim.Native.Nat.{ℕ, zero, suc, ◌+◌, ◌*◌, ◌-◌, ◌/◌, ◌%◌, ◌≤◌, ◌<◌, compare}
use native.Mathlib.Nat.{add-zero}
use native.Mathlib.Omega.{arith}
use lib.Dec.{eqb, leb, ltb}
use lib.ListN.{length, get_or, take, drop, length-map, get_or-map}
use borrow.Author.Tests.{eq-eqb, ne_eqb, le-leb, lt-leb, lt-ltb, le-ltb, leb-true, eqb-true}
use Rattle.model.specs.Sizes.{field_size, counts_size, pair_size_lem, node_size, most_nodes, most_conjuncts, most_fields}
use Rattle.model.specs.Lists.{every}
use Rattle.model.specs.Refusals.{ok, refused, mapped, check, wrong_condition}
use Rattle.model.specs.Bytes.{u32_at, part, Pair, pair_at, entries, pairs_at}
use Rattle.model.specs.Program.{type_right}
use Rattle.model.specs.Fields.{field_at, field_right, fields_in}
use Rattle.model.specs.Conjunct.{Conjuncts, ◌then◌, order_numbers, order}
use Rattle.model.specs.Condition.{Condition, conjuncts_at, node_at, node_right_lem, conjunct_at, nodes_right, length_right, whole, numbered}
use Rattle.model.specs.Condition.{is_before, rising, read_condition}
use Rattle.model.proofs.Basics.Tests.{case, and_left, and_right}
use Rattle.model.proofs.Basics.Results.{check-ok, ok_eq, mapped-refused}
use Rattle.model.proofs.Basics.Every.{every_of_map, every-at}
use Rattle.model.proofs.Files.Parts.{length-entries, entries-get_or, chained_le, chained-inside, length_part, entries-part}
use Rattle.model.proofs.Files.FieldTables.{fields-part, types-right}
use Rattle.condition.specs.Answers.{part_nodes, part_right_lem, pair_part, pair_right, pair_place, pairs_of, fields_at, types_at, linked}
use Rattle.std.specs.Prelude.{Result, Ok, Err}
use Rattle.refusals.specs.declared.Refusal.{Refusal}
use Rattle.refusals.specs.Answers.{number_of}
use Rattle.condition.specs.Answers.{condition_answer, bytes_answer, sizes, sizes_of, ConditionIsRead, PairInside, counts_of, fields_of, types_of, conjuncts_of}
use Rattle.condition.specs.declared.Counts.{Counts}
use Rattle.condition.proofs.Nodes.{node-narrow, right-narrow}
use Rattle.condition.proofs.Passes.{pairs_from, pairs_step}
use Rattle.condition.proofs.Orders.{order-bytes}
use Rattle.model.proofs.Basics.Results.{mapped-check}

-- ---- the part of a pair

module _ (s : List ℕ) (p : Pair) (inside : p.offset + p.len ≤ length s) where
  part_length : length (part s p.offset p.len) ≡ p.len
  part_length = length_part s p.offset p.len inside

  pub part-nodes : part_nodes (part s p.offset p.len) ≡ conjunct_at s p
  part-nodes =
      rw part_length
      (entries-part node_at node_size node-narrow s p.offset p.len (p.len / node_size) 0 (omega arith)
      ∙ ap (λ (a : ℕ). entries node_at node_size s a (p.len / node_size)) (add-zero p.offset))

  pub part_right : (types : List ℕ) → part_right_lem types (part s p.offset p.len) ≡ nodes_right types s p
  part_right types =
      rw part_length
      (ap (every (λ b. b)) (entries-part (node_right_lem types) node_size (right-narrow types) s p.offset p.len (p.len / node_size) 0 (omega arith)
      ∙ ap (λ (a : ℕ). entries (node_right_lem types) node_size s a (p.len / node_size)) (add-zero p.offset)))

-- the tests of one pair, by its part t
module _ (types s : List ℕ) (p : Pair) (inside : p.offset + p.len ≤ length s) (t : List ℕ) (is : t ≡ part s p.offset p.len) where
  size : length t ≡ p.len
  size = ap length is ∙ part_length s p inside

  pub pair-empty : length t ≡ 0 → pair_right types s p ≡ false
  unfolding pair_right
  pair-empty h = rw (le-ltb 0 p.len (omega (arith, size)))

  pub pair-long : (length t ≡ 0 → ⊥) → node_size * most_nodes < length t → pair_right types s p ≡ false
  unfolding pair_right
  pair-long z h = rw (lt-ltb 0 p.len (omega (arith, size)), lt-leb p.len (node_size * most_nodes) (omega (arith, size)))

  pub pair_broken : 0 < length t → length t ≤ node_size * most_nodes → (length t % node_size ≡ 0 → ⊥) → pair_right types s p ≡ false
  unfolding pair_right
  pair_broken z h b = rw (
    lt-ltb 0 p.len (omega (arith, size)),
    le-leb p.len (node_size * most_nodes) (omega (arith, size)),
    ne_eqb (p.len % node_size) 0 (λ e. b (ap (◌% node_size) size ∙ e)),
  )

  pub pair-part : 0 < length t → length t ≤ node_size * most_nodes → length t % node_size ≡ 0
      → (part_right_lem types t && whole (part_nodes t) && numbered (part_nodes t)) ≡ pair_right types s p
  unfolding pair_right
  pair-part z h b =
      rw (
        lt-ltb 0 p.len (omega (arith, size)),
        le-leb p.len (node_size * most_nodes) (omega (arith, size)),
        eq-eqb (p.len % node_size) 0 (sym (ap (◌% node_size) size) ∙ b),
        is,
        part_right s p inside types,
        part-nodes s p inside,
      )

-- the table of the fields, as it is taken from the file
module _ (s : List ℕ) (f : ℕ) where
  abbrev table : List ℕ
  table = take (counts_size + field_size * f - counts_size) (drop counts_size s)

  table_taken : table ≡ part s counts_size (field_size * f)
  table_taken = let e : counts_size + field_size * f - counts_size ≡ field_size * f = omega arith in rw e

  pub fields-taken : counts_size + field_size * f ≤ length s → fields_in table ≡ fields_at s f
  fields-taken h = ap (λ (t : List ℕ). fields_in t) table_taken ∙ fields-part s counts_size f h

  pub table-length : counts_size + field_size * f ≤ length s → length table ≡ field_size * f
  table-length h = ap length table_taken ∙ length_part s counts_size (field_size * f) h

-- ---- the table of pairs

module _ (s : List ℕ) (f c : ℕ) (chain : linked s f c ≡ true) where
  pub table-inside : conjuncts_at f c ≤ length s
  table-inside = chained_le (pairs_of s f c) (conjuncts_at f c) (length s) chain

  pub pair_inside : (i : ℕ) → i < c → (pair_at s (pair_place f i)).offset + (pair_at s (pair_place f i)).len ≤ length s
  pair_inside i h =
      subst (λ (q : Pair). q.offset + q.len ≤ length s) (entries-get_or pair_at pair_size_lem s c (counts_size + field_size * f) i (pair_at s 0) h)
      (chained-inside (pairs_of s f c) (conjuncts_at f c) (length s) chain i (pair_at s 0)
      (omega (arith, length-entries pair_at pair_size_lem s c (counts_size + field_size * f)))).1

-- ---- the pass over the conjuncts

module _ (test : Pair → Bool) (s : List ℕ) (at n i : ℕ) where
  pub pairs_on : i < n → test (pair_at s (at + pair_size_lem * i)) ≡ true → every test (pairs_from s at n i) ≡ every test (pairs_from s at n (i + 1))
  unfolding every
  pairs_on h e = rw (pairs_step s at n i h, e)

  pub pairs_off : i < n → test (pair_at s (at + pair_size_lem * i)) ≡ false → every test (pairs_from s at n i) ≡ false
  unfolding every
  pairs_off h e = rw (pairs_step s at n i h, e)

  pub pairs_end : n ≤ i → every test (pairs_from s at n i) ≡ true
  unfolding every entries
  pairs_end h = let e : n - i ≡ 0 = omega arith in rw e

-- ---- the order

small-take : (n : ℕ) (l : List ℕ) → ((i : ℕ) → get_or l i 0 < 256) → (i : ℕ) → get_or (take n l) i 0 < 256
small-take zero l h i = omega arith
small-take (suc n) [] h i = omega arith
small-take (suc n) (x ∷ l) h zero = h zero
small-take (suc n) (x ∷ l) h (suc i) = small-take n l (λ j. h (suc j)) i

small-drop : (n : ℕ) (l : List ℕ) → ((i : ℕ) → get_or l i 0 < 256) → (i : ℕ) → get_or (drop n l) i 0 < 256
small-drop zero l h i = h i
small-drop (suc n) [] h i = omega arith
small-drop (suc n) (x ∷ l) h i = small-drop n l (λ j. h (suc j)) i

-- what the tests of a pair say
module _ (types s : List ℕ) (p : Pair) (right : pair_right types s p ≡ true) where
  pair_forms : nodes_right types s p ≡ true
  unfolding pair_right
  pair_forms =
      and_right (length_right p) (nodes_right types s p)
      (and_left (length_right p && nodes_right types s p) (whole (conjunct_at s p))
      (and_left (length_right p && nodes_right types s p && whole (conjunct_at s p)) (numbered (conjunct_at s p)) right))

  pair-length : length_right p ≡ true
  unfolding pair_right
  pair-length =
      and_left (length_right p) (nodes_right types s p)
      (and_left (length_right p && nodes_right types s p) (whole (conjunct_at s p))
      (and_left (length_right p && nodes_right types s p && whole (conjunct_at s p)) (numbered (conjunct_at s p)) right))

  pub pair_eighths : p.len % node_size ≡ 0
  pair_eighths =
      eqb-true (p.len % node_size) 0 (and_right (ltb 0 p.len && leb p.len (node_size * most_nodes)) (eqb (p.len % node_size) 0) pair-length)

  pub pair-short : p.len ≤ node_size * most_nodes
  pair-short = leb-true p.len (node_size * most_nodes)
      (and_right (ltb 0 p.len) (leb p.len (node_size * most_nodes))
      (and_left (ltb 0 p.len && leb p.len (node_size * most_nodes)) (eqb (p.len % node_size) 0) pair-length))

module _ (types s : List ℕ) (small : (i : ℕ) → get_or s i 0 < 256) (p q : Pair)
    (in_p : p.offset + p.len ≤ length s) (in-q : q.offset + q.len ≤ length s) (right-p : pair_right types s p ≡ true)
    (right-q : pair_right types s q ≡ true) where
  pub order-parts : (t u : List ℕ) → t ≡ part s p.offset p.len → u ≡ part s q.offset q.len
      → order (conjunct_at s p) (conjunct_at s q) ≡ (compare (length t) (length u) then order_numbers t u)
  order-parts t u et eu =
      let P = part s p.offset p.len in
      let Q = part s q.offset q.len in
      rw (et, eu)
      (ap₂ order (sym (part-nodes s p in_p)) (sym (part-nodes s q in-q))
      ∙ order-bytes types P Q (small-take p.len (drop p.offset s) (small-drop p.offset s small))
      (small-take q.len (drop q.offset s) (small-drop q.offset s small))
      (part_right s p in_p types ∙ pair_forms types s p right-p) (part_right s q in-q types ∙ pair_forms types s q right-q)
      (ap (◌% node_size) (part_length s p in_p) ∙ pair_eighths types s p right-p)
      (ap (◌% node_size) (part_length s q in-q) ∙ pair_eighths types s q right-q))

-- a test that all pairs pass
pub every-pair : (test : Pair → Bool) (s : List ℕ) (at n : ℕ) → every test (pairs_at s at n) ≡ true → (i : ℕ) → i < n
    → test (pair_at s (at + pair_size_lem * i)) ≡ true
every-pair test s at n h i l =
    subst (λ (q : Pair). test q ≡ true) (entries-get_or pair_at pair_size_lem s n at i (pair_at s 0) l)
    (every-at test (pair_at s 0) (pairs_at s at n) h i (omega (arith, length-entries pair_at pair_size_lem s n at)))

-- two neighbours, by their parts
pub order_neighbours : (s : List ℕ) (f c : ℕ) → linked s f c ≡ true
    → every (pair_right (types_at s f) s) (pairs_of s f c) ≡ true
    → ((i : ℕ) → get_or s i 0 < 256) → (i : ℕ) → i + 1 < c → (t u : List ℕ) → t ≡ pair_part s (pair_place f i) → u ≡ pair_part s (pair_place f (i + 1))
    → order (conjunct_at s (pair_at s (pair_place f i))) (conjunct_at s (pair_at s (pair_place f (i + 1))))
    ≡ (compare (length t) (length u) then order_numbers t u)
order_neighbours s f c chain right small i more =
    let types = types_at s f in
    order-parts types s small (pair_at s (pair_place f i)) (pair_at s (pair_place f (i + 1))) (pair_inside s f c chain i (omega arith))
    (pair_inside s f c chain (i + 1) more)
    (every-pair (pair_right types s) s (counts_size + field_size * f) c right i (omega arith))
    (every-pair (pair_right types s) s (counts_size + field_size * f) c right (i + 1) more)

-- conjuncts from the one with number i on
abbrev pub conjuncts_from : List ℕ → ℕ → ℕ → ℕ → Conjuncts
conjuncts_from s at n i = map (conjunct_at s) (pairs_from s at n i)

module _ (s : List ℕ) (at n i : ℕ) (more : i + 1 < n) where
  two_conjuncts : conjuncts_from s at n i
      ≡ conjunct_at s (pair_at s (at + pair_size_lem * i)) ∷ conjunct_at s (pair_at s (at + pair_size_lem * (i + 1))) ∷ conjuncts_from s at n (i + 1 + 1)
  two_conjuncts = rw (pairs_step s at n i (omega arith), pairs_step s at n (i + 1) more)

  pub rising_on : is_before (order (conjunct_at s (pair_at s (at + pair_size_lem * i))) (conjunct_at s (pair_at s (at + pair_size_lem * (i + 1))))) ≡ true
      → rising (conjuncts_from s at n i) ≡ rising (conjuncts_from s at n (i + 1))
  unfolding rising
  rising_on h = rw (two_conjuncts, h) (sym (ap (λ (l : List Pair). rising (map (conjunct_at s) l)) (pairs_step s at n (i + 1) more)))

  pub rising_off : is_before (order (conjunct_at s (pair_at s (at + pair_size_lem * i))) (conjunct_at s (pair_at s (at + pair_size_lem * (i + 1))))) ≡ false
      → rising (conjuncts_from s at n i) ≡ false
  unfolding rising
  rising_off h = rw (two_conjuncts, h)

pub rising-end : (s : List ℕ) (at n i : ℕ) → n ≤ i + 1 → rising (conjuncts_from s at n i) ≡ true
unfolding rising entries
rising-end s at n i h = go (n - i) (omega arith)
  where
    go : (m : ℕ) → m ≤ 1 → rising (map (conjunct_at s) (pairs_at s (at + pair_size_lem * i) m)) ≡ true
    go zero k = refl
    go (suc zero) k = refl
    go (suc (suc m)) k = absurd (omega arith)

-- ---- the tests of the file

every-and : {A : Type 0} (p q : A → Bool) (xs : List A) → every (λ x. p x && q x) xs ≡ (every p xs && every q xs)
unfolding every
every-and p q [] = refl
every-and p q (x ∷ xs) = rw (every-and p q xs) (shuffle (p x) (q x) (every p xs) (every q xs))
  where
    shuffle : (a b c d : Bool) → (a && b && (c && d)) ≡ ((a && c) && (b && d))
    shuffle false b c d = refl
    shuffle true false false d = refl
    shuffle true false true d = refl
    shuffle true true c d = refl

pairs_tests : (types s : List ℕ) (ps : List Pair)
    → every (pair_right types s) ps
    ≡ (every length_right ps && every (nodes_right types s) ps && every whole (map (conjunct_at s) ps) && every numbered (map (conjunct_at s) ps))
unfolding pair_right
pairs_tests types s ps =
    every-and (λ p. length_right p && nodes_right types s p && whole (conjunct_at s p)) (λ p. numbered (conjunct_at s p)) ps
    ∙ ap₂ ◌&&◌ (every-and (λ p. length_right p && nodes_right types s p) (λ p. whole (conjunct_at s p)) ps
    ∙ ap₂ ◌&&◌ (every-and length_right (nodes_right types s) ps) (sym (every_of_map whole (conjunct_at s) ps)))
    (sym (every_of_map numbered (conjunct_at s) ps))

-- the tests, with these counts
unfoldable pub form_by : List ℕ → ℕ → ℕ → Bool
form_by s c f =
    let types = types_at s f in
    let pairs = pairs_of s f c in
    leb counts_size (length s) && leb c most_conjuncts && leb f most_fields && linked s f c
    && every field_right (fields_at s f) && every (pair_right types s) pairs && rising (map (conjunct_at s) pairs)

regroup : (x a b c d r : Bool) → (x && (a && b && c && d) && r) ≡ (x && a && b && c && d && r)
regroup false a b c d r = refl
regroup true a b c d r = refl

pub read-form : (s : List ℕ)
    → read_condition s ≡ check (form_by s (u32_at s 0) (u32_at s 4)) wrong_condition (ok (record { fields = fields_of s; conjuncts = conjuncts_of s }))
unfolding read_condition form_by
read-form s =
    let ps = pairs_of s (u32_at s 4) (u32_at s 0) in
    let first = leb counts_size (length s) && leb (u32_at s 0) most_conjuncts && leb (u32_at s 4) most_fields && linked s (u32_at s 4) (u32_at s 0)
    && every field_right (fields_of s) in
    rw (pairs_tests (types_of s) s ps)
    (ap (λ (b : Bool). check b wrong_condition (ok (record { fields = fields_of s; conjuncts = conjuncts_of s })))
    (sym (regroup first (every length_right ps) (every (nodes_right (types_of s) s) ps) (every whole (conjuncts_of s)) (every numbered (conjuncts_of s))
    (rising (conjuncts_of s)))))

module _ (s : List ℕ) where
  -- how many conjuncts and fields a file holds
  pub conjuncts-count : length (conjuncts_of s) ≡ u32_at s 0
  conjuncts-count =
      length-map (pairs_of s (u32_at s 4) (u32_at s 0)) (conjunct_at s) ∙ length-entries pair_at pair_size_lem s (u32_at s 0) (counts_size + field_size * u32_at s 4)

  pub fields-many : (f : ℕ) → length (fields_at s f) ≡ f
  fields-many f = length-entries field_at field_size s f counts_size

  sizes-form : mapped sizes (read_condition s) ≡ check (form_by s (u32_at s 0) (u32_at s 4)) wrong_condition (ok (u32_at s 0, length (fields_of s)))
  sizes-form =
      ap (mapped sizes) (read-form s)
      ∙ mapped-check sizes (form_by s (u32_at s 0) (u32_at s 4)) wrong_condition (record { fields = fields_of s; conjuncts = conjuncts_of s })
      ∙ ap (λ (m : ℕ). check (form_by s (u32_at s 0) (u32_at s 4)) wrong_condition (ok (m, length (fields_of s)))) conjuncts-count

  -- by the counts that were read
  module _ (c f : ℕ) (ec : c ≡ u32_at s 0) (ef : f ≡ u32_at s 4) where
    bytes-form : mapped (λ (C : Condition). s) (read_condition s) ≡ check (form_by s c f) wrong_condition (ok s)
    bytes-form =
        rw (ec, ef)
        (ap (mapped (λ (C : Condition). s)) (read-form s)
        ∙ mapped-check (λ (C : Condition). s) (form_by s (u32_at s 0) (u32_at s 4)) wrong_condition (record { fields = fields_of s; conjuncts = conjuncts_of s }))

    pub refuses : form_by s c f ≡ false → refused wrong_condition ≡ mapped (λ (C : Condition). s) (read_condition s)
    refuses h = sym (bytes-form ∙ rw h)

    pub accepts : form_by s c f ≡ true → ok s ≡ mapped (λ (C : Condition). s) (read_condition s)
    accepts h = sym (bytes-form ∙ rw h)

    pub accepts-sizes : form_by s c f ≡ true → mapped sizes (read_condition s) ≡ ok (c, f)
    accepts-sizes h = sizes-form ∙ rw (← ec, ← ef, h, fields-many f)

-- the default does not count inside a list
get_d_any : {A : Type 0} (xs : List A) (i : ℕ) (d e : A) → i < length xs → get_or xs i d ≡ get_or xs i e
get_d_any [] i d e h = absurd (omega arith)
get_d_any (x ∷ xs) zero d e h = refl
get_d_any (x ∷ xs) (suc i) d e h = get_d_any xs i d e (omega arith)

-- ---- a file that is read

-- its tests pass, with its counts
module _ (s : List ℕ) (c f : ℕ) (form : form_by s c f ≡ true) where
  abbrev begun : Bool
  begun = leb counts_size (length s) && leb c most_conjuncts && leb f most_fields && linked s f c

  abbrev rights : Bool
  rights = every (pair_right (types_at s f) s) (pairs_of s f c)

  first_six : (begun && every field_right (fields_at s f) && rights) ≡ true
  unfolding form_by
  first_six = and_left (begun && every field_right (fields_at s f) && rights) (rising (map (conjunct_at s) (pairs_of s f c))) form

  first_four : begun ≡ true
  first_four = and_left begun (every field_right (fields_at s f)) (and_left (begun && every field_right (fields_at s f)) rights first_six)

  pub form-narrow : f ≤ most_fields
  form-narrow =
      let first = leb counts_size (length s) && leb c most_conjuncts in
      leb-true f most_fields (and_right first (leb f most_fields) (and_left (first && leb f most_fields) (linked s f c) first_four))

  pub form-chained : linked s f c ≡ true
  form-chained = and_right (leb counts_size (length s) && leb c most_conjuncts && leb f most_fields) (linked s f c) first_four

  pub form-fields : every field_right (fields_at s f) ≡ true
  form-fields = and_right begun (every field_right (fields_at s f)) (and_left (begun && every field_right (fields_at s f)) rights first_six)

  pub form-types : every type_right (types_at s f) ≡ true
  form-types = types-right (fields_at s f) form-fields

  pub form_pairs : rights ≡ true
  form_pairs = and_right (begun && every field_right (fields_at s f)) rights first_six

  -- the pair of a conjunct
  pub form-pair : (i : ℕ) → i < c → pair_right (types_at s f) s (pair_at s (pair_place f i)) ≡ true
  form-pair i h = every-pair (pair_right (types_at s f) s) s (counts_size + field_size * f) c form_pairs i h

pub record Counted (s : List ℕ) (c f : ℕ) : Type 0 where
  pub conjuncts : c ≡ u32_at s 0
  pub fields : f ≡ u32_at s 4
  pub form : form_by s c f ≡ true
  pub table : conjuncts_at f c ≤ length s

pub counted-read : (s : List ℕ) (k : Counts) → ConditionIsRead s k → Counted s k.conjuncts k.fields
counted-read s k read =
    let e = check-ok (form_by s (u32_at s 0) (u32_at s 4)) wrong_condition (ok (u32_at s 0, length (fields_of s))) (sizes_of k) (sym (sizes-form s) ∙ read) in
    let l = table-inside s (u32_at s 4) (u32_at s 0) (form-chained s (u32_at s 0) (u32_at s 4) e.0) in
    let m : (u32_at s 0, length (fields_of s)) ≡ sizes_of k = ok_eq (u32_at s 0, length (fields_of s)) (sizes_of k) e.1 in
    let ec : k.conjuncts ≡ u32_at s 0 = sym (ap (λ (x : ℕ × ℕ). x.0) m) in
    let ef : k.fields ≡ u32_at s 4 = sym (ap (λ (x : ℕ × ℕ). x.1) m) ∙ fields-many s (u32_at s 4) in
    record { conjuncts = ec; fields = ef; form = rw (ec, ef) e.0; table = rw (ec, ef) l }

-- its counts are those at its start
pub counts-read : (s : List ℕ) (k : Counts) → ConditionIsRead s k → k ≡ counts_of s
counts-read s k read =
    let q = counted-read s k read in
    let by : ℕ → ℕ → Counts = λ c f. record { conjuncts = c; fields = f } in
    ap₂ by q.conjuncts q.fields

pub form-read : (s : List ℕ) (k : Counts) → ConditionIsRead s k → ConditionIsRead s (counts_of s)
form-read s k read = subst (ConditionIsRead s) (counts-read s k read) read

-- what is read is the bytes that were given, and they are in their form
pub bytes-are : (s t : List ℕ) → ok t ≡ mapped (λ (C : Condition). s) (read_condition s) → (t ≡ s) × ConditionIsRead s (counts_of s)
bytes-are s t h =
    let e = check-ok (form_by s (u32_at s 0) (u32_at s 4)) wrong_condition (ok s) t (sym (bytes-form s (u32_at s 0) (u32_at s 4) refl refl) ∙ sym h) in
    (sym (ok_eq s t e.1), accepts-sizes s (u32_at s 0) (u32_at s 4) refl refl e.0)

-- the numbers of a condition that is read follow from its bytes
pub numbers_by_bytes : (s : List ℕ) (r : Result (List ℕ) Refusal) → bytes_answer r ≡ mapped (λ (C : Condition). s) (read_condition s)
    → condition_answer r ≡ mapped sizes (read_condition s)
numbers_by_bytes s (Ok t) h = let b = bytes-are s t h in ap (λ u. ok (sizes_of (counts_of u))) b.0 ∙ sym b.1
numbers_by_bytes s (Err n) h = sym (ap (mapped sizes) (mapped-refused (λ (C : Condition). s) (read_condition s) (number_of n) h))

pub conjuncts-read : (s : List ℕ) (k : Counts) → ConditionIsRead s k → k.conjuncts ≡ length (conjuncts_of s)
conjuncts-read s k read = (counted-read s k read).conjuncts ∙ sym (conjuncts-count s)

-- a conjunct's part
module _ (s : List ℕ) (k : Counts) (read : ConditionIsRead s k) (i : ℕ) (h : i < k.conjuncts) where
  pub conjunct-inside : (pair_at s (pair_place k.fields i)).offset + (pair_at s (pair_place k.fields i)).len ≤ length s
  conjunct-inside =
      let q = counted-read s k read in
      pair_inside s k.fields k.conjuncts (form-chained s k.conjuncts k.fields q.form) i h

  pub conjunct-placed : PairInside s k.fields (pair_place k.fields i)
  conjunct-placed =
      let q = counted-read s k read in
      record {
        few = form-narrow s k.conjuncts k.fields q.form;
        table = omega (arith, q.table);
        pair = omega (arith, q.table);
        inside = conjunct-inside;
      }

  pub conjunct-nodes : part_nodes (pair_part s (pair_place k.fields i)) ≡ get_or (conjuncts_of s) i []
  conjunct-nodes =
      let q = counted-read s k read in
      let p = pair_at s (pair_place k.fields i) in
      let ps = pairs_of s (u32_at s 4) (u32_at s 0) in
      let m : length (map (conjunct_at s) ps) ≡ u32_at s 0 = conjuncts-count s in
      part-nodes s p conjunct-inside
      ∙ ap (λ (f : ℕ). conjunct_at s (pair_at s (pair_place f i))) q.fields
      ∙ sym (get_d_any (map (conjunct_at s) ps) i [] (conjunct_at s (pair_at s 0)) (rw m (subst (λ (c : ℕ). i < c) q.conjuncts h))
      ∙ get_or-map (conjunct_at s) ps i (pair_at s 0)
      ∙ ap (conjunct_at s)
      (entries-get_or pair_at pair_size_lem s (u32_at s 0) (counts_size + field_size * u32_at s 4) i (pair_at s 0) (subst (λ (c : ℕ). i < c) q.conjuncts h)))

  pub conjunct-short : length (pair_part s (pair_place k.fields i)) ≤ node_size * most_nodes
  conjunct-short =
      let q = counted-read s k read in
      let p = pair_at s (pair_place k.fields i) in
      rw (part_length s p conjunct-inside) (pair-short (types_at s k.fields) s p (form-pair s k.conjuncts k.fields q.form i h))

-- what the model's reader gives
pub condition-read : (s : List ℕ) (C : Condition) → read_condition s ≡ ok C → (C.fields ≡ fields_of s) × (C.conjuncts ≡ conjuncts_of s)
condition-read s C e =
    let D : Condition = record { fields = fields_of s; conjuncts = conjuncts_of s } in
    let m : D ≡ C = ok_eq D C (check-ok (form_by s (u32_at s 0) (u32_at s 4)) wrong_condition (ok D) C (sym (read-form s) ∙ e)).1 in
    (sym (ap (λ (x : Condition). x.fields) m), sym (ap (λ (x : Condition). x.conjuncts) m))

-- ---- the tests, one after the other

module _ (s : List ℕ) (c f : ℕ) where
  pub form-short : length s < counts_size → form_by s c f ≡ false
  unfolding form_by
  form-short h = rw (lt-leb counts_size (length s) h)

  module _ (begins : counts_size ≤ length s) where
    pub form-many : most_conjuncts < c → form_by s c f ≡ false
    unfolding form_by
    form-many h = rw (le-leb counts_size (length s) begins, lt-leb c most_conjuncts h)

    pub form_wide : c ≤ most_conjuncts → most_fields < f → form_by s c f ≡ false
    unfolding form_by
    form_wide h k = rw (le-leb counts_size (length s) begins, le-leb c most_conjuncts h, lt-leb f most_fields k)

    module _ (few : c ≤ most_conjuncts) (narrow : f ≤ most_fields) where
      form-rest : form_by s c f
          ≡ (linked s f c && every field_right (fields_at s f) && every (pair_right (types_at s f) s)
          (pairs_of s f c)
          && rising (map (conjunct_at s) (pairs_of s f c)))
      unfolding form_by
      form-rest = rw (le-leb counts_size (length s) begins, le-leb c most_conjuncts few, le-leb f most_fields narrow)

      pub form_unchained : linked s f c ≡ false → form_by s c f ≡ false
      form_unchained h = form-rest ∙ rw h

      pub form_cut : length s < conjuncts_at f c → form_by s c f ≡ false
      form_cut h =
          case (linked s f c)
          (λ z. linked s f c ≡ z → form_by s c f ≡ false)
          (λ q r. absurd (omega (arith, table-inside s f c q))) (λ q r. form_unchained q) refl

      module _ (chain : linked s f c ≡ true) where
        pub form_unlisted : every field_right (fields_at s f) ≡ false → form_by s c f ≡ false
        form_unlisted h = form-rest ∙ rw (chain, h)

        module _ (listed : every field_right (fields_at s f) ≡ true) where
          pub form_wrong : every (pair_right (types_at s f) s) (pairs_of s f c) ≡ false → form_by s c f ≡ false
          form_wrong h = form-rest ∙ rw (chain, listed, h)

          pub form-is : every (pair_right (types_at s f) s) (pairs_of s f c) ≡ true
              → form_by s c f ≡ rising (map (conjunct_at s) (pairs_of s f c))
          form-is h = form-rest ∙ rw (chain, listed, h)
