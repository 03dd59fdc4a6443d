-- The order of conjuncts is that of the parts of the file that hold them, byte by byte.
use mathlib.Core.Path.{◌≡◌, refl, sym, ◌∙◌, ap, ap₂, subst}
use mathlib.Core.Bool.{true}
use mathlib.Core.List.{List, [], ◌∷◌, ◌++◌}
use Prim.Native.Nat.{Ordering}
use Prim.Native.Nat.{ℕ, zero, suc, ◌+◌, ◌*◌, ◌/◌, ◌%◌, ◌≤◌, ◌<◌, compare}
use native.Mathlib.Numerals.{add-one}
use native.Mathlib.Omega.{arith}
use lib.Dec.{ltb}
use lib.ListN.{length, get_or, take, drop}
use borrow.Author.Tests.{ltb-true, ltb-false}
use Rattle.model.specs.Sizes.{node_size}
use Rattle.model.proofs.Basics.Tests.{case}
use Rattle.model.proofs.Conjuncts.Order.{compare_less, compare_more, compare_same, then_assoc}
use Rattle.model.proofs.Files.Parts.{length_part, length-entries}
use lib.Seq.{drop-cons, drop-drop, take-add, take-length, drop-length}
use Rattle.model.specs.Lists.{every}
use Rattle.model.specs.Bytes.{part, entries}
use Rattle.model.specs.Conjunct.{◌then◌, order_numbers, order_nodes, order}
use Rattle.model.specs.Condition.{node_at, node_right_lem, is_before}
use Rattle.condition.specs.Answers.{part_nodes, part_right_lem}
use Rattle.condition.proofs.Nodes.{node-bytes, right-at}

-- ---- byte strings

-- one of another length
pub other-length : (m n : ℕ) (o : Ordering) → (m ≡ n → ⊥) → ltb m n ≡ is_before (compare m n then o)
other-length m n o h =
    case (ltb m n) (λ z. z ≡ is_before (compare m n then o)) (λ q. rw (compare_less m n (ltb-true m n q)))
    (λ q. rw (compare_more m n (omega (arith, ltb-false m n q))))

-- ---- byte by byte

module _ (s t : List ℕ) (i : ℕ) (ls : i < length s) (lt : i < length t) where
  numbers_turn : order_numbers (drop i s) (drop i t) ≡ (compare (get_or s i 0) (get_or t i 0) then order_numbers (drop (i + 1) s) (drop (i + 1) t))
  unfolding order_numbers
  numbers_turn = rw (drop-cons s i 0 ls, drop-cons t i 0 lt, add-one i)

  pub numbers_less : get_or s i 0 < get_or t i 0 → order_numbers (drop i s) (drop i t) ≡ Ordering.lt
  numbers_less h = numbers_turn ∙ rw (compare_less (get_or s i 0) (get_or t i 0) h)

  pub numbers_more : get_or t i 0 < get_or s i 0 → order_numbers (drop i s) (drop i t) ≡ Ordering.gt
  numbers_more h = numbers_turn ∙ rw (compare_more (get_or s i 0) (get_or t i 0) h)

  pub numbers_on : get_or s i 0 ≤ get_or t i 0 → get_or t i 0 ≤ get_or s i 0
      → order_numbers (drop i s) (drop i t) ≡ order_numbers (drop (i + 1) s) (drop (i + 1) t)
  numbers_on h k = numbers_turn ∙ rw (compare_same (get_or s i 0) (get_or t i 0) (omega arith))

pub numbers_end : (s t : List ℕ) (i : ℕ) → i ≡ length s → i ≡ length t → order_numbers (drop i s) (drop i t) ≡ Ordering.eq
unfolding order_numbers
numbers_end s t i es et =
    let ds : drop i s ≡ [] = rw es (drop-length s) in
    let dt : drop i t ≡ [] = rw et (drop-length t) in
    rw (ds, dt)

-- ---- nodes, by their bytes

numbers_append : (xs ys s t : List ℕ) → length xs ≡ length ys → order_numbers (xs ++ s) (ys ++ t) ≡ (order_numbers xs ys then order_numbers s t)
unfolding order_numbers
numbers_append [] [] s t h = refl
numbers_append [] (y ∷ ys) s t h = absurd (omega arith)
numbers_append (x ∷ xs) [] s t h = absurd (omega arith)
numbers_append (x ∷ xs) (y ∷ ys) s t h = ap (compare x y then◌) (numbers_append xs ys s t (omega arith))
    ∙ sym (then_assoc (compare x y) (order_numbers xs ys) (order_numbers s t))

-- the first node's bytes, and the others'
part-first : (s : List ℕ) (a n : ℕ) → part s a (node_size * suc n) ≡ part s a node_size ++ part s (a + node_size) (node_size * n)
part-first s a n =
    let e : node_size * suc n ≡ node_size + node_size * n = omega arith in
    rw (e, take-add node_size (node_size * n) (drop a s), drop-drop node_size a s)

module _ (types s t : List ℕ) (small-s : (i : ℕ) → get_or s i 0 < 256) (small-t : (i : ℕ) → get_or t i 0 < 256) where
  nodes-bytes : (n a b : ℕ) → a + node_size * n ≤ length s → b + node_size * n ≤ length t
      → ((k : ℕ) → k < n → node_right_lem types s (a + node_size * k) ≡ true) → ((k : ℕ) → k < n → node_right_lem types t (b + node_size * k) ≡ true)
      → order_nodes (entries node_at node_size s a n) (entries node_at node_size t b n) ≡ order_numbers (part s a (node_size * n)) (part t b (node_size * n))
  unfolding entries order_nodes order_numbers
  nodes-bytes zero a b ls lt rs rt = refl
  nodes-bytes (suc n) a b ls lt rs rt =
      let ea : a + node_size * 0 ≡ a = omega arith in
      let eb : b + node_size * 0 ≡ b = omega arith in
      let p = node-bytes types s a small-s (rw ea at (rs 0 (omega arith))) (omega arith) in
      let q = node-bytes types t b small-t (rw eb at (rt 0 (omega arith))) (omega arith) in
      let l : length (part s a node_size) ≡ length (part t b node_size) =
      length_part s a node_size (omega arith) ∙ sym (length_part t b node_size (omega arith)) in
      let fs : (k : ℕ) → a + node_size * suc k ≡ a + node_size + node_size * k = λ k. omega arith in
      let ft : (k : ℕ) → b + node_size * suc k ≡ b + node_size + node_size * k = λ k. omega arith in
      let on = nodes-bytes n (a + node_size) (b + node_size) (omega arith) (omega arith)
      (λ k h. subst (λ (j : ℕ). node_right_lem types s j ≡ true) (fs k) (rs (suc k) (omega arith)))
      (λ k h. subst (λ (j : ℕ). node_right_lem types t j ≡ true) (ft k) (rt (suc k) (omega arith))) in
      rw (part-first s a n, part-first t b n)
      (ap₂ ◌then◌ (ap₂ order_numbers p q) on
      ∙ sym (numbers_append (part s a node_size) (part t b node_size)
      (part s (a + node_size) (node_size * n)) (part t (b + node_size) (node_size * n)) l))

  -- the order of two parts
  module _ (right-s : part_right_lem types s ≡ true) (right-t : part_right_lem types t ≡ true)
      (whole-s : length s % node_size ≡ 0) (whole-t : length t % node_size ≡ 0) where
    at_zero : (u : List ℕ) (n : ℕ) → every (λ b. b) (entries (node_right_lem types) node_size u 0 n) ≡ true → (k : ℕ) → k < n
        → node_right_lem types u (0 + node_size * k) ≡ true
    at_zero u n h k l =
        let e : node_size * k ≡ 0 + node_size * k = omega arith in
        subst (λ (j : ℕ). node_right_lem types u j ≡ true) e (right-at types u n k h l)

    same_nodes : length s ≡ length t → order_nodes (part_nodes s) (part_nodes t) ≡ order_numbers s t
    same_nodes h =
        let e : length t / node_size ≡ length s / node_size = omega arith in
        let f : node_size * (length s / node_size) ≡ length s = omega arith in
        let g : node_size * (length s / node_size) ≡ length t = omega arith in
        rw e
        (nodes-bytes (length s / node_size) 0 0 (omega arith) (omega arith) (at_zero s (length s / node_size) right-s)
        (at_zero t (length s / node_size) (rw e at right-t))
        ∙ ap₂ order_numbers (ap (λ (m : ℕ). take m s) f ∙ take-length s) (ap (λ (m : ℕ). take m t) g ∙ take-length t))

    pub order-bytes : order (part_nodes s) (part_nodes t) ≡ (compare (length s) (length t) then order_numbers s t)
    unfolding order
    order-bytes =
        rw (length-entries node_at node_size s (length s / node_size) 0, length-entries node_at node_size t (length t / node_size) 0)
        (case (ltb (length s) (length t))
        (λ z. (compare (length s / node_size) (length t / node_size) then order_nodes (part_nodes s) (part_nodes t))
        ≡ (compare (length s) (length t) then order_numbers s t))
        (λ q. let h = ltb-true (length s) (length t) q in
        rw (compare_less (length s) (length t) h, compare_less (length s / node_size) (length t / node_size) (omega arith)))
        (λ q. case (ltb (length t) (length s))
        (λ z. (compare (length s / node_size) (length t / node_size) then order_nodes (part_nodes s) (part_nodes t))
        ≡ (compare (length s) (length t) then order_numbers s t))
        (λ r. let h = ltb-true (length t) (length s) r in
        rw (compare_more (length s) (length t) h, compare_more (length s / node_size) (length t / node_size) (omega arith)))
        (λ r. let h : length s ≡ length t = omega (arith, ltb-false (length s) (length t) q, ltb-false (length t) (length s) r) in
        rw (compare_same (length s) (length t) h, compare_same (length s / node_size) (length t / node_size) (omega arith)) (same_nodes h))))
