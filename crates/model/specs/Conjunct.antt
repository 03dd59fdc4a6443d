-- Conjuncts in postfix, their order, sets of them, and their numbering: document 01, "The condition".
use Rattle.std.specs.Prelude.{Bool, true, false, ◌&&◌, ◌||◌, cond, List, [], ◌∷◌, ◌++◌, map, ltb, eqb, length}
use Prim.Native.Nat.{ℕ, suc, compare, Ordering}
use Rattle.std.proofs.Math.Dec.{compare_is_eq}
use Rattle.model.specs.Sizes.{most_nodes, most_conjuncts}
use Rattle.model.specs.Refusals.{Out, ok, refused, too_many_nodes, too_many_conjuncts}
use Rattle.model.specs.Bytes.{bytes2, bytes4}
use Rattle.model.specs.Values.{Operation, operation_kind}

-- where an atom comes from: a reading of a field, or a load at a label from an array (its number and its length)
pub data Source : Type 0 where
  field : (f ty : ℕ) → Source
  cell : (label array len ty : ℕ) → Source

-- an atom: the n-th of its source
pub record Atom : Type 0 where
  pub src : Source
  pub n : ℕ

-- a node of a conjunct: a constant by its immediate, an atom, a variable, an operation on two operands, a conversion
pub data Node : Type 0 where
  const : (ty imm : ℕ) → Node
  atom : Atom → Node
  var : (x ty : ℕ) → Node
  op : Operation → (ty : ℕ) → Node
  conv : (ty : ℕ) → Node

-- a conjunct: one expression in postfix
abbrev pub Conj : Type 0
Conj = List Node

-- a set of conjuncts: a list in rising order, none twice
abbrev pub Conjuncts : Type 0
Conjuncts = List Conj

-- ---- the order: by node count, then by bytes

-- kind, type, and the rest of a node that has no more
abbrev pub bare : ℕ → ℕ → List ℕ
bare k ty = k ∷ ty ∷ 0 ∷ 0 ∷ 0 ∷ 0 ∷ 0 ∷ 0 ∷ []

-- an atom's 8 bytes: kind 1, type, field and n; a load, which reaches no file, has kind 8, its label and n, and then its array
unfoldable pub source_bytes : Source → ℕ → List ℕ
source_bytes (field f ty) n = 1 ∷ ty ∷ (bytes2 f ++ bytes4 n)
source_bytes (cell l r k ty) n = 8 ∷ ty ∷ (bytes2 l ++ bytes4 n ++ (r ∷ k ∷ []))

-- a node's 8 bytes: kind, type, field number, immediate or n; a variable, which reaches no file, has kind 7 and its number
unfoldable pub bytes : Node → List ℕ
bytes (const ty i) = 0 ∷ ty ∷ 0 ∷ 0 ∷ bytes4 i
bytes (atom a) = source_bytes a.src a.n
bytes (var x ty) = 7 ∷ ty ∷ 0 ∷ 0 ∷ bytes4 x
bytes (op o ty) = bare (operation_kind o) ty
bytes (conv ty) = bare 6 ty

infixl 20 ◌then◌
-- the first difference decides
abbrev pub ◌then◌ : Ordering → Ordering → Ordering
Ordering.lt then o = Ordering.lt
Ordering.eq then o = o
Ordering.gt then o = Ordering.gt

-- bytes one after the other, the first difference decides; a list that ends first is smaller
unfoldable pub order_numbers : List ℕ → List ℕ → Ordering
order_numbers [] [] = Ordering.eq
order_numbers [] (y ∷ ys) = Ordering.lt
order_numbers (x ∷ xs) [] = Ordering.gt
order_numbers (x ∷ xs) (y ∷ ys) = compare x y then order_numbers xs ys

-- node after node, by their bytes
unfoldable pub order_nodes : Conj → Conj → Ordering
order_nodes [] [] = Ordering.eq
order_nodes [] (y ∷ ys) = Ordering.lt
order_nodes (x ∷ xs) [] = Ordering.gt
order_nodes (x ∷ xs) (y ∷ ys) = order_numbers (bytes x) (bytes y) then order_nodes xs ys

-- the order of conjuncts
unfoldable pub order : Conj → Conj → Ordering
order d e = compare (length d) (length e) then order_nodes d e

-- ---- sets

-- e put before d ∷ S, found there, or put into what follows d, which is then `rest`
abbrev pub place : Ordering → Conj → Conj → Conjuncts → Conjuncts → Conjuncts
place Ordering.lt e d S rest = e ∷ d ∷ S
place Ordering.eq e d S rest = d ∷ S
place Ordering.gt e d S rest = d ∷ rest

-- a set with one conjunct more
unfoldable pub with_conjunct : Conj → Conjuncts → Conjuncts
with_conjunct e [] = e ∷ []
with_conjunct e (d ∷ S) = place (order e d) e d S (with_conjunct e S)

-- a set with all conjuncts of another
unfoldable pub union_of : Conjuncts → Conjuncts → Conjuncts
union_of [] S = S
union_of (e ∷ R) S = with_conjunct e (union_of R S)

-- the same set: canonical lists are compared place by place
unfoldable pub same : Conjuncts → Conjuncts → Bool
same [] [] = true
same [] (e ∷ S) = false
same (d ∷ R) [] = false
same (d ∷ R) (e ∷ S) = compare_is_eq (order_nodes d e) && same R S

-- has a conjunct over 120 nodes?
unfoldable pub long : Conjuncts → Bool
long [] = false
long (e ∷ S) = ltb most_nodes (length e) || long S

-- after every rule: no conjunct over 120 nodes, then no more than 64 conjuncts
unfoldable pub limits : Conjuncts → Out Conjuncts
limits S = cond (long S) (refused too_many_nodes) (cond (ltb most_conjuncts (length S)) (refused too_many_conjuncts) (ok S))

-- ---- the numbering: within a conjunct the n of each source count from 1 by first appearance

-- are two sources the same?
unfoldable pub same_source_lem : Source → Source → Bool
same_source_lem (field f ty) (field g u) = eqb f g && eqb ty u
same_source_lem (field f ty) (cell l r k u) = false
same_source_lem (cell l r k ty) (field g u) = false
same_source_lem (cell l r k ty) (cell m s j u) = eqb l m && eqb r s && eqb k j && eqb ty u

-- are two atoms the same?
unfoldable pub same_atom : Atom → Atom → Bool
same_atom a b = same_source_lem a.src b.src && eqb a.n b.n

-- the list without an atom
unfoldable pub without : Atom → List Atom → List Atom
without a [] = []
without a (b ∷ bs) = cond (same_atom a b) (without a bs) (b ∷ without a bs)

-- the distinct atoms with a node put in front of them
abbrev pub note : Node → List Atom → List Atom
note (const ty i) ks = ks
note (atom a) ks = a ∷ without a ks
note (var x ty) ks = ks
note (op o ty) ks = ks
note (conv ty) ks = ks

-- the distinct atoms by first appearance
unfoldable pub atoms : Conj → List Atom
atoms [] = []
atoms (v ∷ e) = note v (atoms e)

-- how many atoms of a's source stand before a
unfoldable pub rank : Atom → List Atom → ℕ
rank a [] = 0
rank a (b ∷ bs) = cond (same_source_lem a.src b.src) (cond (eqb a.n b.n) 0 (suc (rank a bs))) (rank a bs)

-- the atom with its new number
unfoldable pub renamed : List Atom → Atom → Atom
renamed ks a = record { src = a.src; n = suc (rank a ks) }

-- is the atom in the list?
abbrev pub has : Atom → List Atom → Bool
has a [] = false
has a (b ∷ bs) = same_atom a b || has a bs

-- f at each atom, nothing else changed
abbrev pub on_atom_lem : (Atom → Node) → Node → Node
on_atom_lem f (const ty i) = const ty i
on_atom_lem f (atom a) = f a
on_atom_lem f (var x ty) = var x ty
on_atom_lem f (op o ty) = op o ty
on_atom_lem f (conv ty) = conv ty

-- P of the atom, if the node is one
abbrev pub AtAtom : (Atom → Type 0) → Node → Type 0
AtAtom P (const ty i) = Unit {0}
AtAtom P (atom a) = P a
AtAtom P (var x ty) = Unit {0}
AtAtom P (op o ty) = Unit {0}
AtAtom P (conv ty) = Unit {0}

-- a conjunct numbered as a rule leaves it
unfoldable pub renumber : Conj → Conj
renumber e = let ks = atoms e in map (on_atom_lem (λ a. atom (renamed ks a))) e
