-- The order of words is the order of their nodes by bytes.
use mathlib.Core.Bool.{true, false, cond}
use mathlib.Core.List.{List, [], ◌∷◌}
use mathlib.Core.Logic.{◌⊎◌, inl, inr}
use mathlib.Core.Path.{◌≡◌, refl, sym, ◌∙◌}
use Prim.Native.Nat.{ℕ, zero, suc, ◌+◌, ◌-◌, ◌*◌, ◌/◌, ◌%◌, ◌<◌, ◌≤◌, compare, Ordering}
use native.Mathlib.Omega.{arith}
use lib.Dec.{eqb}
use borrow.Author.Tests.{eqb-true, eqb-false}
use Rattle.model.proofs.Conjuncts.Order.{compare_less, compare_more, compare_same, then_assoc}
use Rattle.model.proofs.Basics.Tests.{decide}
use Rattle.model.specs.Bytes.{bytes2, bytes4}
use Rattle.model.specs.Conjunct.{bytes, source_bytes, ◌then◌, order_numbers}
use Rattle.model.specs.Values.{add, sub, mul, div}
use Rattle.conjunct.proofs.node.Shapes.{Shape, number, reading, calc, change, variable, load, shape}
use Rattle.conjunct.specs.Word.{low4, mid2, node_of, first_load, first_reading, first_sum, first_variable, place2, place3, place4, place5}
use Rattle.conjunct.specs.Word.{place6, place7, load_kind}

-- ---- numbers

-- one of three
pub data Tri (m n : ℕ) : Type 0 where
  less : m < n → Tri m n
  equal : m ≡ n → Tri m n
  more : n < m → Tri m n

pub tri : (m n : ℕ) → Tri m n
tri zero zero = equal refl
tri zero (suc n) = less (omega arith)
tri (suc m) zero = more (omega arith)
tri (suc m) (suc n) = up (tri m n)
  where
    up : Tri m n → Tri (suc m) (suc n)
    up (less h) = less (omega arith)
    up (equal h) = equal (omega arith)
    up (more h) = more (omega arith)

-- a number in two digits is compared by the higher, then by the lower
lex : (v w a b c d : ℕ) → (a < c → v < w) → (c < a → w < v) → (a ≡ c → b < d → v < w) → (a ≡ c → d < b → w < v) → (a ≡ c → b ≡ d → v ≡ w)
    → compare v w ≡ (compare a c then compare b d)
lex v w a b c d f g h k e = high (tri a c)
  where
    low : a ≡ c → Tri b d → compare v w ≡ compare b d
    low p (less q) = compare_less v w (h p q) ∙ sym (compare_less b d q)
    low p (equal q) = compare_same v w (e p q) ∙ sym (compare_same b d q)
    low p (more q) = compare_more v w (k p q) ∙ sym (compare_more b d q)

    high : Tri a c → compare v w ≡ (compare a c then compare b d)
    high (less p) = rw (compare_less a c p) (compare_less v w (f p))
    high (equal p) = rw (compare_same a c p) (low p (tri b d))
    high (more p) = rw (compare_more a c p) (compare_more v w (g p))

pub then_none : (o : Ordering) → (o then Ordering.eq) ≡ o
then_none Ordering.lt = refl
then_none Ordering.eq = refl
then_none Ordering.gt = refl

-- ---- digits

-- the four low bytes, from the highest on
unfoldable pub digits4 : ℕ → List ℕ
digits4 w = w / place3 % 256 ∷ w / place2 % 256 ∷ w / 256 % 256 ∷ w % 256 ∷ []

order_1 : (v w : ℕ) → compare (v % 256) (w % 256) ≡ order_numbers (v % 256 ∷ []) (w % 256 ∷ [])
unfolding order_numbers
order_1 v w = sym (then_none (compare (v % 256) (w % 256)))

split_1 : (v w : ℕ) → compare (v % place2) (w % place2) ≡ (compare (v / 256 % 256) (w / 256 % 256) then compare (v % 256) (w % 256))
split_1 v w =
    lex (v % place2) (w % place2) (v / 256 % 256) (v % 256) (w / 256 % 256) (w % 256) (λ p. omega arith) (λ p. omega arith) (λ p q. omega arith)
    (λ p q. omega arith) (λ p q. omega arith)

split_2 : (v w : ℕ) → compare (v % place3) (w % place3) ≡ (compare (v / place2 % 256) (w / place2 % 256) then compare (v % place2) (w % place2))
split_2 v w =
    lex (v % place3) (w % place3) (v / place2 % 256) (v % place2) (w / place2 % 256) (w % place2) (λ p. omega arith) (λ p. omega arith)
    (λ p q. omega arith) (λ p q. omega arith) (λ p q. omega arith)

split_3 : (v w : ℕ) → compare (v % place4) (w % place4) ≡ (compare (v / place3 % 256) (w / place3 % 256) then compare (v % place3) (w % place3))
split_3 v w =
    lex (v % place4) (w % place4) (v / place3 % 256) (v % place3) (w / place3 % 256) (w % place3) (λ p. omega arith) (λ p. omega arith)
    (λ p q. omega arith) (λ p q. omega arith) (λ p q. omega arith)

order_4 : (v w : ℕ) → compare (v % place4) (w % place4) ≡ order_numbers (digits4 v) (digits4 w)
unfolding order_numbers digits4
order_4 v w = rw (split_3 v w, split_2 v w, split_1 v w, then_none)

split_4 : (v w : ℕ) → compare v w ≡ (compare (v / place4) (w / place4) then compare (v % place4) (w % place4))
split_4 v w =
    lex v w (v / place4) (v % place4) (w / place4) (w % place4) (λ p. omega arith) (λ p. omega arith) (λ p q. omega arith) (λ p q. omega arith)
    (λ p q. omega arith)

-- the two bytes above, of what is left without the four low ones
split_5 : (v w : ℕ) → compare v w ≡ (compare (v / 256) (w / 256) then compare (v % 256) (w % 256))
split_5 v w =
    lex v w (v / 256) (v % 256) (w / 256) (w % 256) (λ p. omega arith) (λ p. omega arith) (λ p q. omega arith) (λ p q. omega arith)
    (λ p q. omega arith)

split_6 : (v w : ℕ)
    → compare v w ≡ (compare (v / place2) (w / place2) then (compare (v / 256 % 256) (w / 256 % 256) then compare (v % 256) (w % 256)))
split_6 v w =
    let p : v / 256 / 256 ≡ v / place2 = omega arith in
    let q : w / 256 / 256 ≡ w / place2 = omega arith in
    split_5 v w ∙ rw (split_5 (v / 256) (w / 256), p, q, then_assoc)

-- ---- the bytes of a word's node

pub bytes-low4 : (w : ℕ) → bytes4 (low4 w) ≡ digits4 w
unfolding bytes4 digits4
bytes-low4 w = go (w / place3 % 256) (w / place2 % 256) (w / 256 % 256) (w % 256) (omega arith) (omega arith) (omega arith)
  where
    go : (a b c d : ℕ) → a < 256 → b < 256 → c < 256 → bytes4 (a + 256 * (b + 256 * (c + 256 * d))) ≡ a ∷ b ∷ c ∷ d ∷ []
    go a b c d h k l =
        let e : a + 256 * (b + 256 * (c + 256 * d)) ≡ a + 256 * b + place2 * c + place3 * d = omega arith in
        let p : (a + 256 * b + place2 * c + place3 * d) % 256 ≡ a = omega arith in
        let q : (a + 256 * b + place2 * c + place3 * d) / 256 ≡ b + 256 * c + place2 * d = omega arith in
        let r : (a + 256 * b + place2 * c + place3 * d) / place2 ≡ c + 256 * d = omega arith in
        let s : (a + 256 * b + place2 * c + place3 * d) / place3 ≡ d = omega arith in
        let t : (b + 256 * c + place2 * d) % 256 ≡ b = omega arith in
        let u : (c + 256 * d) % 256 ≡ c = omega arith in
        rw (e, p, q, r, s, t, u)

pub bytes-mid2 : (w : ℕ) → bytes2 (mid2 w) ≡ w / place5 % 256 ∷ w / place4 % 256 ∷ []
unfolding bytes2
bytes-mid2 w = go (w / place5 % 256) (w / place4 % 256) (omega arith)
  where
    go : (a b : ℕ) → a < 256 → bytes2 (a + 256 * b) ≡ a ∷ b ∷ []
    go a b h =
        let p : (a + 256 * b) % 256 ≡ a = omega arith in
        let q : (a + 256 * b) / 256 ≡ b = omega arith in
        rw (p, q)

bytes_small : (n : ℕ) → n < 256 → bytes4 n ≡ n ∷ 0 ∷ 0 ∷ 0 ∷ []
unfolding bytes4
bytes_small n h =
    let p : n % 256 ≡ n = omega arith in
    let q : n / 256 % 256 ≡ 0 = omega arith in
    let r : n / place2 % 256 ≡ 0 = omega arith in
    let s : n / place3 ≡ 0 = omega arith in
    rw (p, q, r, s)

-- the bytes after the first of a word whose node has the first byte k
upper : ℕ → ℕ → List ℕ
upper k w =
    cond (eqb k 7) (w / place4 % place3 ∷ 0 ∷ 0 ∷ digits4 w)
    (cond (eqb k 8)
    ((w / place6 - load_kind) ∷ w / place5 % 256 ∷ w / place4 % 256 ∷ w / place3 % 256 ∷ 0 ∷ 0 ∷ 0 ∷ w / place2 % 256 ∷ w % place2 ∷ [])
    (w % place7 ∷ 0 ∷ 0 ∷ 0 ∷ 0 ∷ 0 ∷ 0 ∷ []))

tail_of : ℕ → ℕ → List ℕ
tail_of zero w = w / place4 ∷ 0 ∷ 0 ∷ digits4 w
tail_of (suc zero) w = w / place6 % 256 ∷ w / place5 % 256 ∷ w / place4 % 256 ∷ digits4 w
tail_of (suc (suc k)) w = upper (suc (suc k)) w

-- the first byte, where the word lies, and the bytes
record Seen (w : ℕ) : Type 0 where
  first : ℕ
  most : first ≤ 8
  low : first * first_reading ≤ w
  high : first < 8 → w < (first + 1) * place7
  all : bytes (node_of w) ≡ first ∷ tail_of first w

seen : (w : ℕ) → Seen w
unfolding bytes source_bytes tail_of upper
seen w = go (shape w)
  where
    go : Shape w → Seen w
    go (number h e) = record { first = 0; most = omega arith; low = omega arith; high = λ q. h; all = rw e (rw bytes-low4) }
    go (reading l h e) = record { first = 1; most = omega arith; low = l; high = λ q. h; all = rw e (rw (bytes-mid2, bytes-low4)) }
    go (calc add l h e) = record { first = 2; most = omega arith; low = l; high = λ q. h; all = rw e }
    go (calc sub l h e) = record { first = 3; most = omega arith; low = l; high = λ q. h; all = rw e }
    go (calc mul l h e) = record { first = 4; most = omega arith; low = l; high = λ q. h; all = rw e }
    go (calc div l h e) = record { first = 5; most = omega arith; low = l; high = λ q. h; all = rw e }
    go (change l h e) = record { first = 6; most = omega arith; low = l; high = λ q. h; all = rw e }
    go (variable l h e) = record { first = 7; most = omega arith; low = l; high = λ q. h; all = rw e (rw bytes-low4) }
    go (load l e) = record {
      first = 8;
      most = omega arith;
      low = l;
      high = λ q.
          absurd (omega arith);
      all = rw e (rw (bytes-mid2, bytes_small (w / place3 % 256) (omega arith)));
    }

-- two comparisons that answer alike
like : (a b c d : ℕ) → (a < b → c < d) → (b < a → d < c) → (a ≡ b → c ≡ d) → compare a b ≡ compare c d
like a b c d f g e = go (tri a b)
  where
    go : Tri a b → compare a b ≡ compare c d
    go (less h) = compare_less a b h ∙ sym (compare_less c d (f h))
    go (equal h) = compare_same a b h ∙ sym (compare_same c d (e h))
    go (more h) = compare_more a b h ∙ sym (compare_more c d (g h))

-- the type, the field or label, and the rest
split_7 : (v w : ℕ) → compare v w ≡ (compare (v / place6) (w / place6) then
    (compare (v / place5 % 256) (w / place5 % 256) then
    (compare (v / place4 % 256) (w / place4 % 256) then compare (v % place4) (w % place4))))
split_7 v w =
    let p : v / place4 / place2 ≡ v / place6 = omega arith in
    let q : w / place4 / place2 ≡ w / place6 = omega arith in
    let r : v / place4 / 256 % 256 ≡ v / place5 % 256 = omega arith in
    let s : w / place4 / 256 % 256 ≡ w / place5 % 256 = omega arith in
    split_4 v w ∙ rw (split_6 (v / place4) (w / place4), p, q, r, s, then_assoc, then_assoc)

-- words whose nodes have the same first byte are compared by the other bytes
module _ (v w : ℕ) where
  loads : first_load ≤ v → first_load ≤ w → order_numbers (tail_of 8 v) (tail_of 8 w) ≡ compare v w
  unfolding order_numbers tail_of upper
  loads l m =
      let t = like (v / place6) (w / place6) (v / place6 - load_kind) (w / place6 - load_kind) (λ p. omega arith) (λ p. omega arith)
      (λ p. omega arith) in
      rw (split_7 v w, t, split_3 v w, split_2 v w, then_none)

  variables : first_variable ≤ v → v < first_load → first_variable ≤ w → w < first_load → order_numbers (tail_of 7 v) (tail_of 7 w) ≡ compare v w
  unfolding order_numbers tail_of upper
  variables l h m k =
      let t = like (v / place4) (w / place4) (v / place4 % place3) (w / place4 % place3) (λ p. omega arith) (λ p. omega arith) (λ p. omega arith) in
      rw (split_4 v w, t, order_4 v w)

  readings : first_reading ≤ v → v < first_sum → first_reading ≤ w → w < first_sum → order_numbers (tail_of 1 v) (tail_of 1 w) ≡ compare v w
  unfolding order_numbers tail_of
  readings l h m k =
      let t = like (v / place6) (w / place6) (v / place6 % 256) (w / place6 % 256) (λ p. omega arith) (λ p. omega arith) (λ p. omega arith) in
      rw (split_7 v w, t, order_4 v w)

  same_kind : (k : ℕ) → k ≤ 8 → k * first_reading ≤ v → k * first_reading ≤ w
      → (k < 8 → v < (k + 1) * place7) → (k < 8 → w < (k + 1) * place7)
      → order_numbers (tail_of k v) (tail_of k w) ≡ compare v w
  unfolding order_numbers tail_of upper
  same_kind zero m lv lw hv hw = rw (split_4 v w, order_4 v w)
  same_kind (suc zero) m lv lw hv hw = readings lv (hv (omega arith)) lw (hw (omega arith))
  same_kind (suc (suc k)) m lv lw hv hw = go (decide (eqb (suc (suc k)) 7)) (decide (eqb (suc (suc k)) 8))
    where
      go : (eqb (suc (suc k)) 7 ≡ true) ⊎ (eqb (suc (suc k)) 7 ≡ false) → (eqb (suc (suc k)) 8 ≡ true) ⊎ (eqb (suc (suc k)) 8 ≡ false)
          → order_numbers (upper (suc (suc k)) v) (upper (suc (suc k)) w) ≡ compare v w
      go (inl p) q =
          let e : suc (suc k) ≡ 7 = eqb-true (suc (suc k)) 7 p in
          let hv' = hv (omega arith) in
          let hw' = hw (omega arith) in
          rw p (variables (omega arith) (omega arith) (omega arith) (omega arith))
      go (inr p) (inl q) =
          let e : suc (suc k) ≡ 8 = eqb-true (suc (suc k)) 8 q in
          rw (p, q) (loads (omega arith) (omega arith))
      go (inr p) (inr q) =
          let n : suc (suc k) ≡ 8 → ⊥ = eqb-false (suc (suc k)) 8 q in
          let hv' = hv (omega arith) in
          let hw' = hw (omega arith) in
          rw (p, q, then_none) (sym (like v w (v % place7) (w % place7) (λ r. omega arith) (λ r. omega arith) (λ r. omega arith)))

  -- the order of two words is that of their nodes by bytes
  pub word-order : order_numbers (bytes (node_of v)) (bytes (node_of w)) ≡ compare v w
  unfolding order_numbers
  word-order = go (tri (seen v).first (seen w).first)
    where
      go : Tri (seen v).first (seen w).first → order_numbers (bytes (node_of v)) (bytes (node_of w)) ≡ compare v w
      go (less h) =
          let f = (seen v).high (omega (arith, (seen w).most)) in
          rw ((seen v).all, (seen w).all, compare_less _ _ h) (sym (compare_less v w (omega (arith, (seen w).low))))
      go (more h) =
          let f = (seen w).high (omega (arith, (seen v).most)) in
          rw ((seen v).all, (seen w).all, compare_more _ _ h) (sym (compare_more v w (omega (arith, (seen v).low))))
      go (equal h) =
          rw ((seen v).all, (seen w).all, compare_same _ _ h, ← h)
          (same_kind (seen v).first (seen v).most (seen v).low (omega (arith, (seen w).low)) (seen v).high
          (λ q. omega (arith, (seen w).high (omega arith))))
