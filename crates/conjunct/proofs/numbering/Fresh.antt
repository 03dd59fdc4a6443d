-- A substitution whose fresh atoms have n 0, in a conjunct whose atoms all count from 1: renumbered, it is the model's, which raises every n first.
use mathlib.Core.Bool.{true, false, cond}
use mathlib.Core.List.{List, [], ◌∷◌, ◌++◌, flat_map, map-append}
use mathlib.Core.Path.{◌≡◌, refl, sym, ap, ap₂, ◌∙◌, subst}
use Prim.Native.Nat.{ℕ, zero, suc, ◌+◌, ◌<◌, ◌≤◌}
use native.Mathlib.Numerals.{add-one}
use native.Mathlib.Omega.{arith}
use lib.Dec.{eqb, eqb-suc-suc, eqb-zero-suc, eqb-suc-zero}
use lib.ListN.{length, take, drop, get_or, set, length-map, length-append, take-append-drop}
use lib.Seq.{take-suc, take-suc-set}
use Rattle.model.proofs.Conjuncts.Atoms.{at_any, every_map}
use Rattle.model.proofs.Conjuncts.Renumber.{moved, moved_all, renumber-moved}
use Rattle.model.proofs.Basics.Lists.{all_of}
use Rattle.model.proofs.Basics.Tests.{case}
use Rattle.model.specs.Code.{Right, number, copy, calc, change, read, load}
use Rattle.model.specs.Conjunct.{Atom, Node, const, atom, var, op, conv, Conj, atoms, renamed, on_atom_lem, renumber, AtAtom}
use Rattle.model.specs.Lists.{All}
use Rattle.model.specs.Walk.{nodes, replace}
use Rattle.model.specs.TidySets.{Numbered}
use Rattle.model.specs.Touch.{is_var}
use Rattle.conjunct.specs.Word.{node_of, nodes_of_lem}
use Rattle.conjunct.specs.Behind.{piece_of}

-- ---- lists that are put together

module _ {A B : Type 0} (f : A → List B) where
  pub flat_join : (xs ys : List A) → flat_map f (xs ++ ys) ≡ flat_map f xs ++ flat_map f ys
  unfolding flat_map
  flat_join [] ys = refl
  flat_join (x ∷ xs) ys = ap (f x ++◌) (flat_join xs ys) ∙ sym (mathlib.Core.List.append_assoc (f x) (flat_map f xs) (flat_map f ys))

  pub flat_snoc : (l : List A) (i : ℕ) (d : A) → i < length l → flat_map f (take (i + 1) l) ≡ flat_map f (take i l) ++ f (get_or l i d)
  unfolding flat_map
  flat_snoc l i d h =
      rw (add-one i, take-suc l i d h)
      (flat_join (take i l) (get_or l i d ∷ []) ∙ ap (flat_map f (take i l) ++◌) (mathlib.Core.List.append-nil (f (get_or l i d))))

  -- a part is no longer than the whole
  pub flat_part : (l : List A) (i n : ℕ) → i ≤ n → length (flat_map f (take i l)) ≤ length (flat_map f (take n l))
  flat_part l i n h =
      let e : flat_map f (take n l) ≡ flat_map f (take i l) ++ flat_map f (drop i (take n l)) =
      ap (flat_map f) (sym (take-append-drop i (take n l)) ∙ ap (◌++ drop i (take n l)) (lib.Seq.take-take i n l h))
      ∙ flat_join (take i l) (drop i (take n l)) in
      omega (arith, ap length e, length-append (flat_map f (take i l)) (flat_map f (drop i (take n l))))

-- one more word stored
pub put_more : (out out₀ s : List ℕ) (m j : ℕ) → m + j < length out → j < length s → take (m + j) out ≡ take m out₀ ++ take j s
    → take (m + (j + 1)) (set out (m + j) (get_or s j 0)) ≡ take m out₀ ++ take (j + 1) s
put_more out out₀ s m j h k e =
    let p : m + (j + 1) ≡ suc (m + j) = omega arith in
    rw (p, add-one j, take-suc-set out (m + j) (get_or s j 0) h, e, take-suc s j 0 k)
    (mathlib.Core.List.append_assoc (take m out₀) (take j s) (get_or s j 0 ∷ []))

-- none, one, two and three words stored
module _ (out s : List ℕ) (m : ℕ) (three : length s ≡ 3) where
  pub put-none : take (m + 0) out ≡ take m out ++ take 0 s
  put-none = let e : m + 0 ≡ m = omega arith in rw e (sym (mathlib.Core.List.append-nil (take m out)))

  pub put_one : m + 1 ≤ length out → take (m + 1) (set out m (get_or s 0 0)) ≡ take m out ++ take 1 s
  put_one h =
      let e : m + 0 ≡ m = omega arith in
      subst (λ j. take (m + 1) (set out j (get_or s 0 0)) ≡ take m out ++ take 1 s) e
      (put_more out out s m 0 (omega arith) (omega (arith, three)) put-none)

  pub put_two : m + 2 ≤ length out → take (m + 2) (set (set out m (get_or s 0 0)) (m + 1) (get_or s 1 0)) ≡ take m out ++ take 2 s
  put_two h =
      let l = lib.ListN.length-set out m (get_or s 0 0) in
      put_more (set out m (get_or s 0 0)) out s m 1 (omega (arith, l)) (omega (arith, three)) (put_one (omega arith))

  pub put_three : m + 3 ≤ length out
      → take (m + 3) (set (set (set out m (get_or s 0 0)) (m + 1) (get_or s 1 0)) (m + 2) (get_or s 2 0)) ≡ take m out ++ take 3 s
  put_three h =
      let l = lib.ListN.length-set out m (get_or s 0 0) in
      let k = lib.ListN.length-set (set out m (get_or s 0 0)) (m + 1) (get_or s 1 0) in
      put_more (set (set out m (get_or s 0 0)) (m + 1) (get_or s 1 0)) out s m 2 (omega (arith, l, k)) (omega (arith, three)) (put_two (omega arith))

-- ---- the numbers

-- every number but 0 one higher
lift : ℕ → ℕ
lift zero = 0
lift (suc k) = suc (suc k)

lifted : Atom → ℕ
lifted a = lift a.n

lift_apart : (m n : ℕ) → eqb (lift m) (lift n) ≡ eqb m n
unfolding lift
lift_apart zero zero = refl
lift_apart zero (suc n) = eqb-zero-suc (suc n) ∙ sym (eqb-zero-suc n)
lift_apart (suc m) zero = eqb-suc-zero (suc m) ∙ sym (eqb-suc-zero m)
lift_apart (suc m) (suc n) = eqb-suc-suc (suc m) (suc n)

renumber_lifted : (e : Conj) → renumber (moved_all lifted e) ≡ renumber e
unfolding lifted
renumber_lifted e = renumber-moved lifted (λ a. Unit {0}) (λ a b p q s. lift_apart a.n b.n) e (all_of at_any e)

-- nodes whose atoms are all fresh stay
fresh_stay : (r : List Node) → All (AtAtom (λ a. a.n ≡ 0)) r → r ≡ moved_all lifted r
unfolding lifted lift
fresh_stay [] h = refl
fresh_stay (const ty i ∷ r) h = ap (const ty i ∷◌) (fresh_stay r h.1)
fresh_stay (atom a ∷ r) h = ap₂ (λ k d. atom (record { src = a.src; n = k }) ∷ d) (h.0 ∙ ap lift (sym h.0)) (fresh_stay r h.1)
fresh_stay (var x ty ∷ r) h = ap (var x ty ∷◌) (fresh_stay r h.1)
fresh_stay (op o ty ∷ r) h = ap (op o ty ∷◌) (fresh_stay r h.1)
fresh_stay (conv ty ∷ r) h = ap (conv ty ∷◌) (fresh_stay r h.1)

lift_suc : (n : ℕ) → 0 < n → suc n ≡ lift n
unfolding lift
lift_suc zero h = absurd (omega arith)
lift_suc (suc k) h = refl

-- any other node, raised
raised : (x : ℕ) (r : List Node) (v : Node) → is_var x v ≡ false → AtAtom (λ a. 0 < a.n) v → replace x r v ≡ moved_all lifted (v ∷ [])
unfolding replace lifted
raised x r (const ty i) n h = refl
raised x r (atom b) n h = ap (λ k. atom (record { src = b.src; n = k }) ∷ []) (lift_suc b.n h)
raised x r (var y ty) n h = rw n
raised x r (op o ty) n h = refl
raised x r (conv ty) n h = refl

here : (x : ℕ) (r : List Node) (v : Node) → is_var x v ≡ true → replace x r v ≡ r
unfolding replace
here x r (const ty i) n = absurd (Rattle.model.proofs.Basics.Tests.true→T n)
here x r (atom b) n = absurd (Rattle.model.proofs.Basics.Tests.true→T n)
here x r (var y ty) n = rw n
here x r (op o ty) n = absurd (Rattle.model.proofs.Basics.Tests.true→T n)
here x r (conv ty) n = absurd (Rattle.model.proofs.Basics.Tests.true→T n)

module _ (x : ℕ) (r : List ℕ) (fresh : All (AtAtom (λ a. a.n ≡ 0)) (nodes_of_lem r)) where
  one : (w : ℕ) → AtAtom (λ a. 0 < a.n) (node_of w) → replace x (nodes_of_lem r) (node_of w) ≡ moved_all lifted (nodes_of_lem (piece_of x r w))
  unfolding piece_of
  one w h =
      case (is_var x (node_of w)) (λ z. replace x (nodes_of_lem r) (node_of w) ≡ moved_all lifted (nodes_of_lem (cond z r (w ∷ []))))
      (λ p. here x (nodes_of_lem r) (node_of w) p ∙ fresh_stay (nodes_of_lem r) fresh) (λ p. raised x (nodes_of_lem r) (node_of w) p h)

  all : (ws : List ℕ) → All (AtAtom (λ a. 0 < a.n)) (nodes_of_lem ws)
      → flat_map (replace x (nodes_of_lem r)) (nodes_of_lem ws) ≡ moved_all lifted (nodes_of_lem (flat_map (piece_of x r) ws))
  unfolding flat_map
  all [] h = refl
  all (w ∷ ws) h =
      ap₂ ◌++◌ (one w h.0) (all ws h.1)
      ∙ sym (map-append (on_atom_lem (λ a. atom (moved lifted a))) (nodes_of_lem (piece_of x r w)) (nodes_of_lem (flat_map (piece_of x r) ws)))
      ∙ ap (moved_all lifted) (sym (map-append node_of (piece_of x r w) (flat_map (piece_of x r) ws)))

  module _ (ws : List ℕ) (numbered : Numbered (nodes_of_lem ws)) where
    positive : All (AtAtom (λ a. 0 < a.n)) (nodes_of_lem ws)
    unfolding renumber renamed
    positive =
        subst (All (AtAtom (λ a. 0 < a.n))) numbered
        (every_map (λ a. Unit {0}) (λ a. 0 < a.n) (λ a. atom (renamed (atoms (nodes_of_lem ws)) a)) (λ a u. omega arith) (nodes_of_lem ws)
        (all_of at_any (nodes_of_lem ws)))

    pub fresh-length : length (flat_map (replace x (nodes_of_lem r)) (nodes_of_lem ws)) ≡ length (flat_map (piece_of x r) ws)
    fresh-length =
        let C = flat_map (piece_of x r) ws in
        ap length (all ws positive) ∙ length-map (nodes_of_lem C) (on_atom_lem (λ a. atom (moved lifted a))) ∙ length-map C node_of

    pub fresh-renumber : renumber (nodes_of_lem (flat_map (piece_of x r) ws)) ≡ renumber (flat_map (replace x (nodes_of_lem r)) (nodes_of_lem ws))
    fresh-renumber = sym (ap renumber (all ws positive) ∙ renumber_lifted (nodes_of_lem (flat_map (piece_of x r) ws)))

-- the right side of an assignment is fresh
pub right-fresh : (l ty : ℕ) (r : Right) → All (AtAtom (λ a. a.n ≡ 0)) (nodes l ty r)
unfolding nodes
right-fresh l ty (number i) = (tt, tt)
right-fresh l ty (copy b) = (tt, tt)
right-fresh l ty (calc o b c) = (tt, (tt, (tt, tt)))
right-fresh l ty (change b u) = (tt, (tt, tt))
right-fresh l ty (read f) = (refl, tt)
right-fresh l ty (load t k i) = (refl, tt)
