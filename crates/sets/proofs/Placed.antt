-- A region in which one slot was put before the i-th of its n: the slots from there on stand one higher, and the count is one more.
use mathlib.Core.List.{List, [], ◌∷◌, ◌++◌, map, map-append}
use mathlib.Core.Logic.{inl, inr}
use mathlib.Core.Path.{◌≡◌, refl, sym, ap, ap₂, ◌∙◌}
use Prim.Native.Nat.{ℕ, zero, suc, ◌+◌, ◌-◌, ◌*◌, ◌<◌, ◌≤◌}
use native.Mathlib.Omega.{arith}
use lib.ListN.{length, get_or, take, drop, set, length-append, length-drop, length-set, get_or-append}
use lib.Seq.{ext_get_or, get_or-take, get_or-drop, get_or_at, get_or-append-add, length-take-le, drop-set-lt, get_or-set_same, get_or-set_other}
use Rattle.model.specs.Sizes.{most_conjuncts, most_nodes}
use Rattle.bytes_le.proofs.Overlays.{length-overlay, overlay_read}
use Rattle.bytes_le.specs.Overlay.{overlay}
use Rattle.conjunct.proofs.node.WordOrder.{Tri, less, equal, more, tri}
use Rattle.conjunct.specs.Word.{nodes_of_lem}
use Rattle.sets.proofs.Overlaid.{overlay-before, overlay-beyond}
use Rattle.sets.proofs.Rows.{few-is, slot_same, rows-length, rows_at}
use Rattle.sets.specs.Region.{slot_at, rows_from, rows_of, set_of, Outside, Within, region_words, slot_words}

map-take : {A B : Type 0} (f : A → B) (n : ℕ) (xs : List A) → map f (take n xs) ≡ take n (map f xs)
map-take f zero xs = refl
map-take f (suc n) [] = refl
map-take f (suc n) (x ∷ xs) = ap (f x ∷◌) (map-take f n xs)

map-drop : {A B : Type 0} (f : A → B) (n : ℕ) (xs : List A) → map f (drop n xs) ≡ drop n (map f xs)
map-drop f zero xs = refl
map-drop f (suc n) [] = refl
map-drop f (suc n) (x ∷ xs) = map-drop f n xs

module _ (s u : List ℕ) (b n i : ℕ) (ws : List ℕ) (few' : n < most_conjuncts) (in' : i ≤ n) (fits : b + region_words ≤ length s) (short : length ws ≤ most_nodes)
    (u-length : length u ≡ length s)
    (moved : rows_from u (b + 1 + slot_words * i + slot_words) (n - i) ≡ rows_from s (b + 1 + slot_words * i) (n - i))
    (kept : Outside (b + 1 + slot_words * i + slot_words) (slot_words * (n - i)) s u) where
  -- where the slot goes, and the region after each step once the slots from there on have moved
  a : ℕ
  a = b + 1 + slot_words * i

  v : List ℕ
  v = overlay u a (length ws ∷ ws)

  t : List ℕ
  t = set v b (n + 1)

  v_length : length v ≡ length s
  unfolding v
  v_length = length-overlay (length ws ∷ ws) u a ∙ u-length

  t_length : length t ≡ length s
  unfolding t
  t_length = length-set v b (n + 1) ∙ v_length

  -- words before the slot
  low : (x : ℕ) → x < a → (x ≡ b → ⊥) → get_or t x 0 ≡ get_or s x 0
  unfolding t v a
  low x h d = get_or-set_other v b x (n + 1) 0 d ∙ overlay-before (length ws ∷ ws) u a x h ∙ kept x (inl (omega arith))

  -- words behind it
  behind : (x : ℕ) → a + slot_words ≤ x → get_or t x 0 ≡ get_or u x 0
  unfolding t v a
  behind x h = get_or-set_other v b x (n + 1) 0 (λ e. omega arith) ∙ overlay-beyond (length ws ∷ ws) u a x (omega arith)

  -- the slots that have moved
  high : (k : ℕ) → k < n - i → slot_at t (a + slot_words + slot_words * k) ≡ slot_at s (a + slot_words * k)
  unfolding a
  high k h =
      slot_same u t (a + slot_words + slot_words * k) (a + slot_words + slot_words * k) (omega (arith, u-length)) (omega (arith, t_length))
      (λ x g. behind (a + slot_words + slot_words * k + x) (omega arith))
      ∙ sym (rows_at (n - i) u (a + slot_words) k h)
      ∙ ap (λ r. get_or r k []) moved
      ∙ rows_at (n - i) s a k h

  -- words beyond
  beyond : (x : ℕ) → b + region_words ≤ x → get_or t x 0 ≡ get_or s x 0
  unfolding a
  beyond x h = behind x (omega arith) ∙ kept x (inr (omega arith))

  -- the slot itself
  slot : slot_at t a ≡ ws
  unfolding slot_at t v a overlay
  slot =
      let e : suc a ≡ a + 1 = omega arith in
      let w = set u a (length ws) in
      let wl = length-set u a (length ws) in
      let vl = v_length in
      let ul = u-length in
      let count : get_or t a 0 ≡ length ws =
      get_or-set_other v b a (n + 1) 0 (λ q. omega arith) ∙ overlay-before ws w (suc a) a (omega arith)
      ∙ get_or-set_same u a (length ws) 0 (omega arith) in
      let words : drop (a + 1) t ≡ drop (a + 1) (overlay w (a + 1) ws) =
      drop-set-lt (a + 1) v b (n + 1) (omega arith) ∙ ap (λ k. drop (a + 1) (overlay w k ws)) e in
      ap₂ (λ c l. take c (take most_nodes l)) count words ∙ overlay_read ws w (a + 1) most_nodes (omega arith) short

  placed-within : Within b s t
  unfolding a
  placed-within x (inl h) = low x (omega arith) (λ e. omega arith)
  placed-within x (inr h) = beyond x h

  placed-count : get_or t b 0 ≡ n + 1
  unfolding t
  placed-count = get_or-set_same v b (n + 1) 0 (omega (arith, v_length))

  -- each slot
  R : List (List ℕ)
  R = rows_from s (b + 1) n

  slots : (j : ℕ) → j < n + 1 → slot_at t (b + 1 + slot_words * j) ≡ get_or (take i R ++ (ws ∷ drop i R)) j []
  unfolding R a
  slots j h = go (tri j i)
    where
      len : length (take i R) ≡ i
      len = length-take-le i R (omega (arith, rows-length n s (b + 1)))

      go : Tri j i → slot_at t (b + 1 + slot_words * j) ≡ get_or (take i R ++ (ws ∷ drop i R)) j []
      go (less p) =
          slot_same s t (b + 1 + slot_words * j) (b + 1 + slot_words * j) (omega arith) (omega (arith, t_length))
          (λ x g. low (b + 1 + slot_words * j + x) (omega arith) (λ e. omega arith))
          ∙ sym (get_or-append (take i R) (ws ∷ drop i R) [] j (omega (arith, len)) ∙ get_or-take i R j [] p ∙ rows_at n s (b + 1) j (omega arith))
      go (equal p) =
          ap (λ k. slot_at t (b + 1 + slot_words * k)) p ∙ slot
          ∙ sym (ap (λ k. get_or (take i R ++ (ws ∷ drop i R)) k []) p ∙ get_or_at (take i R) ws (drop i R) [] i len)
      go (more p) =
          let k = j - (i + 1) in
          let e : b + 1 + slot_words * j ≡ a + slot_words + slot_words * k = omega arith in
          let f : j ≡ length (take i R) + suc k = omega (arith, len) in
          ap (slot_at t) e
          ∙ high k (omega arith)
          ∙ ap (slot_at s) (slotted k)
          ∙ sym (ap (λ y. get_or (take i R ++ (ws ∷ drop i R)) y []) f ∙ get_or-append-add (take i R) (ws ∷ drop i R) (suc k) [] ∙ get_or-drop i R k []
          ∙ rows_at n s (b + 1) (i + k) (omega arith))
        where
          slotted : (k : ℕ) → a + slot_words * k ≡ b + 1 + slot_words * (i + k)
          slotted k = omega arith

  placed-rows : rows_from t (b + 1) (n + 1) ≡ take i R ++ (ws ∷ drop i R)
  unfolding R
  placed-rows =
      ext_get_or [] (rows_from t (b + 1) (n + 1)) (take i R ++ (ws ∷ drop i R)) (rows-length (n + 1) t (b + 1) ∙ sym total) (λ j h.
      let l : j < n + 1 = omega (arith, rows-length (n + 1) t (b + 1)) in
      rows_at (n + 1) t (b + 1) j l ∙ slots j l)
    where
      total : length (take i R ++ (ws ∷ drop i R)) ≡ n + 1
      total =
          let p = length-append (take i R) (ws ∷ drop i R) in
          let q : length (take i R) ≡ i = length-take-le i R (omega (arith, rows-length n s (b + 1))) in
          let r = length-drop i R in
          omega (arith, rows-length n s (b + 1))

  placed-set : set_of t b ≡ take i (map nodes_of_lem R) ++ (nodes_of_lem ws ∷ drop i (map nodes_of_lem R))
  unfolding set_of rows_of
  placed-set =
      rw (
        placed-count,
        few-is (n + 1) (omega arith),
        placed-rows,
        map-append nodes_of_lem (take i R) (ws ∷ drop i R),
        map-take nodes_of_lem i R,
        map-drop nodes_of_lem i R,
      )

  pub placed : (after : List ℕ) → after ≡ set (overlay u (b + 1 + slot_words * i) (length ws ∷ ws)) b (n + 1)
      → (set_of after b ≡ take i (map nodes_of_lem (rows_from s (b + 1) n)) ++ (nodes_of_lem ws ∷ drop i (map nodes_of_lem (rows_from s (b + 1) n)))) × Within b s after
  unfolding t v a R
  placed after e = (ap (λ l. set_of l b) e ∙ placed-set, λ x h. ap (λ l. get_or l x 0) e ∙ placed-within x h)
