-- The order of conjuncts is a strict total order: by its own value at (d, d), at (e, d), and at (a, c) from (a, b) and (b, c);
-- and what it finds equal is equal, for equal bytes are equal nodes.
use mathlib.Core.Path.{◌≡◌, refl, sym, ◌∙◌, ap, ap₂, subst, fun_ext}
use mathlib.Core.Logic.{◌⊎◌, inl, inr}
use mathlib.Core.Bool.{true, cond}
use mathlib.Core.List.{List, [], ◌∷◌}
use Prim.Native.Nat.compare
use Prim.Native.Nat.{ℕ, zero, suc, ◌<◌, compare, Ordering}
use native.Mathlib.Omega.{arith}
use lib.Dec.{eqb, compare_is_eq}
use lib.ListN.{length, get_or}
use borrow.Author.Tests.{eqb-true}
use Rattle.model.specs.Bytes.{u16_at, u32_at, bytes2, bytes4}
use Rattle.model.specs.Conjunct.{Source, field, cell, Node, const, atom, var, op, conv, Conj, Conjuncts, bytes, source_bytes, ◌then◌, order_numbers, order_nodes, order, same}
use Rattle.model.specs.Values.{add, sub, mul, div}
use Rattle.model.specs.TidySets.{Less}
use Rattle.model.proofs.Basics.LittleEndian.{two_back, four_back}
use Rattle.model.proofs.Basics.Tests.{true→T, and_left, and_right}

-- ---- what an order is

-- the answer with the sides exchanged
abbrev pub flip : Ordering → Ordering
flip Ordering.lt = Ordering.gt
flip Ordering.eq = Ordering.eq
flip Ordering.gt = Ordering.lt

-- what the answers for (a, b) and (b, c) say of the answer for (a, c)
abbrev Chain : Ordering → Ordering → Ordering → Type 0
Chain Ordering.lt Ordering.lt o = o ≡ Ordering.lt
Chain Ordering.lt Ordering.eq o = o ≡ Ordering.lt
Chain Ordering.lt Ordering.gt o = Unit {0}
Chain Ordering.eq Ordering.lt o = o ≡ Ordering.lt
Chain Ordering.eq Ordering.eq o = o ≡ Ordering.eq
Chain Ordering.eq Ordering.gt o = Unit {0}
Chain Ordering.gt p o = Unit {0}

-- at (a, a), at (b, a), and at (a, c)
record Orders {A : Type 0} (o : A → A → Ordering) : Type 0 where
  self : (a : A) → o a a ≡ Ordering.eq
  flips : (a b : A) → o b a ≡ flip (o a b)
  chain : (a b c : A) → Chain (o a b) (o b c) (o a c)

-- ---- the first difference decides

then_left : (o p : Ordering) → (o then p) ≡ Ordering.eq → o ≡ Ordering.eq
then_left Ordering.lt p e = e
then_left Ordering.eq p e = refl
then_left Ordering.gt p e = e

then_right : (o p : Ordering) → (o then p) ≡ Ordering.eq → p ≡ Ordering.eq
then_right Ordering.lt p e = absurd (true→T (ap compare_is_eq e))
then_right Ordering.eq p e = e
then_right Ordering.gt p e = absurd (true→T (ap compare_is_eq e))

pub then_assoc : (o p q : Ordering) → ((o then p) then q) ≡ (o then (p then q))
then_assoc Ordering.lt p q = refl
then_assoc Ordering.eq p q = refl
then_assoc Ordering.gt p q = refl

then_flip : (o p : Ordering) → flip (o then p) ≡ (flip o then flip p)
then_flip Ordering.lt p = refl
then_flip Ordering.eq p = refl
then_flip Ordering.gt p = refl

then_chain : (o₁ o₂ o₃ p₁ p₂ p₃ : Ordering) → Chain o₁ o₂ o₃ → Chain p₁ p₂ p₃ → Chain (o₁ then p₁) (o₂ then p₂) (o₃ then p₃)
then_chain Ordering.lt Ordering.lt o₃ p₁ p₂ p₃ h k = ap (◌then p₃) h
then_chain Ordering.lt Ordering.eq o₃ p₁ Ordering.lt p₃ h k = ap (◌then p₃) h
then_chain Ordering.lt Ordering.eq o₃ p₁ Ordering.eq p₃ h k = ap (◌then p₃) h
then_chain Ordering.lt Ordering.eq o₃ p₁ Ordering.gt p₃ h k = tt
then_chain Ordering.lt Ordering.gt o₃ p₁ p₂ p₃ h k = tt
then_chain Ordering.eq Ordering.lt o₃ Ordering.lt p₂ p₃ h k = ap (◌then p₃) h
then_chain Ordering.eq Ordering.lt o₃ Ordering.eq p₂ p₃ h k = ap (◌then p₃) h
then_chain Ordering.eq Ordering.lt o₃ Ordering.gt p₂ p₃ h k = tt
then_chain Ordering.eq Ordering.eq o₃ p₁ p₂ p₃ h k = subst (λ o. Chain p₁ p₂ (o then p₃)) (sym h) k
then_chain Ordering.eq Ordering.gt o₃ Ordering.lt p₂ p₃ h k = tt
then_chain Ordering.eq Ordering.gt o₃ Ordering.eq p₂ p₃ h k = tt
then_chain Ordering.eq Ordering.gt o₃ Ordering.gt p₂ p₃ h k = tt
then_chain Ordering.gt o₂ o₃ p₁ p₂ p₃ h k = tt

-- ---- lists

module _ {A : Type 0} (o : A → A → Ordering) where
  -- element after element; a list that ends first is smaller
  abbrev in_lists : List A → List A → Ordering
  in_lists [] [] = Ordering.eq
  in_lists [] (y ∷ ys) = Ordering.lt
  in_lists (x ∷ xs) [] = Ordering.gt
  in_lists (x ∷ xs) (y ∷ ys) = o x y then in_lists xs ys

  lists_eq : ((x y : A) → o x y ≡ Ordering.eq → x ≡ y) → (xs ys : List A) → in_lists xs ys ≡ Ordering.eq → xs ≡ ys
  lists_eq f [] [] e = refl
  lists_eq f [] (y ∷ ys) e = absurd (true→T (ap compare_is_eq e))
  lists_eq f (x ∷ xs) [] e = absurd (true→T (ap compare_is_eq e))
  lists_eq f (x ∷ xs) (y ∷ ys) e = ap₂ ◌∷◌ (f x y (then_left (o x y) (in_lists xs ys) e)) (lists_eq f xs ys (then_right (o x y) (in_lists xs ys) e))

  module _ (h : Orders o) where
    lists_self : (xs : List A) → in_lists xs xs ≡ Ordering.eq
    lists_self [] = refl
    lists_self (x ∷ xs) = ap₂ ◌then◌ (h.self x) (lists_self xs)

    lists_flip : (xs ys : List A) → in_lists ys xs ≡ flip (in_lists xs ys)
    lists_flip [] [] = refl
    lists_flip [] (y ∷ ys) = refl
    lists_flip (x ∷ xs) [] = refl
    lists_flip (x ∷ xs) (y ∷ ys) = ap₂ ◌then◌ (h.flips x y) (lists_flip xs ys) ∙ sym (then_flip (o x y) (in_lists xs ys))

    -- a list that ends first comes before, whatever follows
    chain_first : (p : Ordering) → Chain Ordering.lt p Ordering.lt
    chain_first Ordering.lt = refl
    chain_first Ordering.eq = refl
    chain_first Ordering.gt = tt

    chain_last : (p q : Ordering) → Chain p Ordering.gt q
    chain_last Ordering.lt q = tt
    chain_last Ordering.eq q = tt
    chain_last Ordering.gt q = tt

    lists_chain : (xs ys zs : List A) → Chain (in_lists xs ys) (in_lists ys zs) (in_lists xs zs)
    lists_chain [] [] [] = refl
    lists_chain [] [] (z ∷ zs) = refl
    lists_chain [] (y ∷ ys) [] = tt
    lists_chain [] (y ∷ ys) (z ∷ zs) = chain_first (in_lists (y ∷ ys) (z ∷ zs))
    lists_chain (x ∷ xs) [] zs = tt
    lists_chain (x ∷ xs) (y ∷ ys) [] = chain_last (in_lists (x ∷ xs) (y ∷ ys)) Ordering.gt
    lists_chain (x ∷ xs) (y ∷ ys) (z ∷ zs) =
        then_chain (o x y) (o y z) (o x z) (in_lists xs ys) (in_lists ys zs) (in_lists xs zs) (h.chain x y z) (lists_chain xs ys zs)

    lists : Orders in_lists
    lists = record { self = lists_self; flips = lists_flip; chain = lists_chain }

-- ---- numbers

pub compare_eq : (m n : ℕ) → compare m n ≡ Ordering.eq → m ≡ n
compare_eq m n e = eqb-true m n (ap compare_is_eq e)

pub compare_less : (m n : ℕ) → m < n → compare m n ≡ Ordering.lt
compare_less zero zero h = absurd (omega arith)
compare_less zero (suc n) h = compare.zero-suc n
compare_less (suc m) zero h = absurd (omega arith)
compare_less (suc m) (suc n) h = compare.suc-suc m n ∙ compare_less m n (omega arith)

pub compare_more : (m n : ℕ) → n < m → compare m n ≡ Ordering.gt
compare_more zero n h = absurd (omega arith)
compare_more (suc m) zero h = compare.suc-zero m
compare_more (suc m) (suc n) h = compare.suc-suc m n ∙ compare_more m n (omega arith)

pub compare_same : (m n : ℕ) → m ≡ n → compare m n ≡ Ordering.eq
compare_same zero zero h = compare.zero-zero
compare_same zero (suc n) h = absurd (omega arith)
compare_same (suc m) zero h = absurd (omega arith)
compare_same (suc m) (suc n) h = compare.suc-suc m n ∙ compare_same m n (omega arith)

compare_self : (m : ℕ) → compare m m ≡ Ordering.eq
compare_self zero = compare.zero-zero
compare_self (suc m) = compare.suc-suc m m ∙ compare_self m

compare_flip : (m n : ℕ) → compare n m ≡ flip (compare m n)
compare_flip zero zero = refl
compare_flip zero (suc n) = rw (compare.zero-suc, compare.suc-zero)
compare_flip (suc m) zero = rw (compare.zero-suc, compare.suc-zero)
compare_flip (suc m) (suc n) = compare.suc-suc n m ∙ compare_flip m n ∙ ap flip (sym (compare.suc-suc m n))

compare_chain : (a b c : ℕ) → Chain (compare a b) (compare b c) (compare a c)
compare_chain zero zero zero = refl
compare_chain zero zero (suc c) = rw (compare.zero-suc c)
compare_chain zero (suc b) zero = rw (compare.zero-suc b, compare.suc-zero b) tt
compare_chain zero (suc b) (suc c) = go (compare b c) (compare.suc-suc b c)
  where
    go : (o : Ordering) → compare (suc b) (suc c) ≡ o → Chain (compare zero (suc b)) (compare (suc b) (suc c)) (compare zero (suc c))
    go Ordering.lt q = rw (q, compare.zero-suc b, compare.zero-suc c)
    go Ordering.eq q = rw (q, compare.zero-suc b, compare.zero-suc c)
    go Ordering.gt q = rw (q, compare.zero-suc b) tt
compare_chain (suc a) zero c = rw (compare.suc-zero a) tt
compare_chain (suc a) (suc b) zero = go (compare a b) (compare.suc-suc a b)
  where
    go : (o : Ordering) → compare (suc a) (suc b) ≡ o → Chain (compare (suc a) (suc b)) (compare (suc b) zero) (compare (suc a) zero)
    go Ordering.lt q = rw (q, compare.suc-zero b) tt
    go Ordering.eq q = rw (q, compare.suc-zero b) tt
    go Ordering.gt q = rw q tt
compare_chain (suc a) (suc b) (suc c) = rw (compare.suc-suc a b, compare.suc-suc b c, compare.suc-suc a c) (compare_chain a b c)

compares : Orders compare
compares = record { self = compare_self; flips = compare_flip; chain = compare_chain }

numbers_lists : (xs ys : List ℕ) → in_lists compare xs ys ≡ order_numbers xs ys
unfolding order_numbers
numbers_lists [] [] = refl
numbers_lists [] (y ∷ ys) = refl
numbers_lists (x ∷ xs) [] = refl
numbers_lists (x ∷ xs) (y ∷ ys) = ap (compare x y then◌) (numbers_lists xs ys)

numbers : Orders order_numbers
numbers = subst Orders (fun_ext λ xs. fun_ext (numbers_lists xs)) (lists compare compares)

-- ---- nodes: equal bytes are equal nodes

-- the node that has these bytes
unbytes : List ℕ → Node
unbytes l =
    let k = get_or l 0 0 in
    let ty = get_or l 1 0 in
    cond (eqb k 0) (const ty (u32_at l 4))
    (cond (eqb k 1) (atom (record { src = field (u16_at l 2) ty; n = u32_at l 4 }))
    (cond (eqb k 2) (op add ty)
    (cond (eqb k 3) (op sub ty)
    (cond (eqb k 4) (op mul ty)
    (cond (eqb k 5) (op div ty)
    (cond (eqb k 6) (conv ty)
    (cond (eqb k 7) (var (u32_at l 4) ty)
    (atom (record { src = cell (u16_at l 2) (get_or l 8 0) (get_or l 9 0) ty; n = u32_at l 4 })))))))))

source-back : (s : Source) (n : ℕ) → unbytes (source_bytes s n) ≡ atom (record { src = s; n = n })
unfolding unbytes source_bytes bytes2 bytes4
source-back (field f ty) n = λ i. atom (record { src = field (two_back f i) ty; n = four_back n i })
source-back (cell l r k ty) n = λ i. atom (record { src = cell (two_back l i) r k ty; n = four_back n i })

node-back : (v : Node) → unbytes (bytes v) ≡ v
unfolding unbytes bytes bytes4
node-back (const ty i) = ap (const ty) (four_back i)
node-back (atom a) = source-back a.src a.n
node-back (var x ty) = λ i. var (four_back x i) ty
node-back (op add ty) = refl
node-back (op sub ty) = refl
node-back (op mul ty) = refl
node-back (op div ty) = refl
node-back (conv ty) = refl

-- by their bytes
abbrev by_bytes : Node → Node → Ordering
by_bytes v w = order_numbers (bytes v) (bytes w)

node_eq : (v w : Node) → by_bytes v w ≡ Ordering.eq → v ≡ w
node_eq v w e =
    sym (node-back v) ∙ ap unbytes (lists_eq compare compare_eq (bytes v) (bytes w) (numbers_lists (bytes v) (bytes w) ∙ e)) ∙ node-back w

nodes_lists : (d e : Conj) → in_lists by_bytes d e ≡ order_nodes d e
unfolding order_nodes
nodes_lists [] [] = refl
nodes_lists [] (w ∷ e) = refl
nodes_lists (v ∷ d) [] = refl
nodes_lists (v ∷ d) (w ∷ e) = ap (by_bytes v w then◌) (nodes_lists d e)

nodes : Orders order_nodes
nodes =
    let each : Orders by_bytes = record {
      self = λ v. numbers.self (bytes v);
      flips = λ v w. numbers.flips (bytes v) (bytes w);
      chain = λ u v w. numbers.chain (bytes u) (bytes v) (bytes w);
    } in
    subst Orders (fun_ext λ d. fun_ext (nodes_lists d)) (lists by_bytes each)

pub nodes_self : (d : Conj) → order_nodes d d ≡ Ordering.eq
nodes_self = nodes.self

pub nodes_eq : (d e : Conj) → order_nodes d e ≡ Ordering.eq → d ≡ e
nodes_eq d e p = lists_eq by_bytes node_eq d e (nodes_lists d e ∙ p)

-- ---- conjuncts: by length, then by nodes

conjuncts : Orders order
unfolding order
conjuncts = record {
  self = λ d. ap₂ ◌then◌ (compare_self (length d)) (nodes.self d);
  flips = λ d e. ap₂ ◌then◌ (compare_flip (length d) (length e)) (nodes.flips d e) ∙ sym (then_flip (compare (length d) (length e)) (order_nodes d e));
  chain = λ a b c.
      then_chain (compare (length a) (length b)) (compare (length b) (length c)) (compare (length a) (length c)) (order_nodes a b) (order_nodes b c) (order_nodes a c)
      (compare_chain (length a) (length b) (length c)) (nodes.chain a b c);
}

pub order_self : (d : Conj) → order d d ≡ Ordering.eq
order_self = conjuncts.self

pub order_flip : (d e : Conj) → order e d ≡ flip (order d e)
order_flip = conjuncts.flips

pub order_eq : (d e : Conj) → order d e ≡ Ordering.eq → d ≡ e
unfolding order
order_eq d e p = nodes_eq d e (then_right (compare (length d) (length e)) (order_nodes d e) p)

lt≢eq : Ordering.lt ≡ Ordering.eq → ⊥
lt≢eq e = true→T (ap compare_is_eq e)

-- irreflexive
pub less_irreflexive : (d : Conj) → Less d d → ⊥
less_irreflexive d h = lt≢eq (sym h ∙ order_self d)

-- transitive
pub less_trans : (a b c : Conj) → Less a b → Less b c → Less a c
less_trans a b c h k = subst (λ o. Chain o Ordering.lt (order a c)) h (subst (λ o. Chain (order a b) o (order a c)) k (conjuncts.chain a b c))

-- trichotomous
pub trichotomy : (d e : Conj) → Less d e ⊎ ((d ≡ e) ⊎ Less e d)
trichotomy d e = go (order d e) refl
  where
    go : (o : Ordering) → order d e ≡ o → Less d e ⊎ ((d ≡ e) ⊎ Less e d)
    go Ordering.lt q = inl q
    go Ordering.eq q = inr (inl (order_eq d e q))
    go Ordering.gt q = inr (inr (order_flip d e ∙ ap flip q))

-- ---- the test of sets

pub is_eq_true : (o : Ordering) → compare_is_eq o ≡ true → o ≡ Ordering.eq
is_eq_true Ordering.lt e = absurd (true→T e)
is_eq_true Ordering.eq e = refl
is_eq_true Ordering.gt e = absurd (true→T e)

pub same_eq : (R S : Conjuncts) → same R S ≡ true → R ≡ S
unfolding same
same_eq [] [] e = refl
same_eq [] (d ∷ S) e = absurd (true→T e)
same_eq (d ∷ R) [] e = absurd (true→T e)
same_eq (d ∷ R) (c ∷ S) e =
    let t = compare_is_eq (order_nodes d c) in
    ap₂ ◌∷◌ (nodes_eq d c (is_eq_true (order_nodes d c) (and_left t (same R S) e))) (same_eq R S (and_right t (same R S) e))

pub same_self : (S : Conjuncts) → same S S ≡ true
unfolding same
same_self [] = refl
same_self (e ∷ S) = rw (nodes_self e) (same_self S)
