-- The bytes of a conjunct of a condition file: how many they are, and that they are read back.
use mathlib.Core.Path.{◌≡◌, refl, ◌∙◌, ap}
use mathlib.Core.Bool.{true}
use mathlib.Core.List.{List, ◌++◌, map, map-id}
use Prim.Native.Nat.{ℕ, ◌*◌}
use native.Mathlib.Nat.{add_assoc, add-zero}
use lib.ListN.{length, get_or}
use lib.Seq.{get_or-drop}
use borrow.Author.Tests.{lt-ltb, eq-eqb}
use Rattle.model.specs.Lists.{All}
use Rattle.model.specs.Bytes.{bytes2, bytes4, entries}
use Rattle.model.specs.Values.{add, sub, mul, div}
use Rattle.model.specs.Conjunct.{Source, field, cell, Node, const, atom, var, op, conv, Conj, bytes, source_bytes}
use Rattle.model.specs.Condition.{conjunct_bytes, node_at, node_right_lem}
use Rattle.model.specs.Formed.{FileSource, FileNode}
use Rattle.model.proofs.Basics.Lists.{all_imp}
use Rattle.model.proofs.Basics.LittleEndian.{two_back, four_back}
use Rattle.model.proofs.Files.Places.{From, Local, length_things, entries-read}

-- ---- one node

node_local : Local node_at
unfolding node_at
node_local s a = simp (get_or-drop, add_assoc, add-zero)

right_local : (types : List ℕ) → Local (node_right_lem types)
unfolding node_right_lem
right_local types s a = simp (get_or-drop, add_assoc, add-zero)

module _ (types : List ℕ) where
  source-size : (src : Source) (n : ℕ) → FileSource types src → length (source_bytes src n) ≡ 8
  unfolding source_bytes bytes2 bytes4
  source-size (field f ty) n h = refl
  source-size (cell l r k ty) n h = absurd h

  node-size : (v : Node) → FileNode types v → length (bytes v) ≡ 8
  unfolding bytes bytes4
  node-size (const ty i) h = refl
  node-size (atom a) h = source-size a.src a.n h
  node-size (var x ty) h = absurd h
  node-size (op o ty) h = refl
  node-size (conv ty) h = refl

  source-read : (src : Source) (n : ℕ) → FileSource types src → (t : List ℕ) → node_at (source_bytes src n ++ t) 0 ≡ atom (record { src = src; n = n })
  unfolding node_at source_bytes bytes2 bytes4
  source-read (field f ty) n h t = λ i. atom (record { src = field (two_back f i) ty; n = four_back n i })
  source-read (cell l r k ty) n h t = absurd h

  node-read : (v : Node) → FileNode types v → (t : List ℕ) → node_at (bytes v ++ t) 0 ≡ v
  unfolding node_at bytes bytes4
  node-read (const ty i) h t = ap (const ty) (four_back i)
  node-read (atom a) h t = source-read a.src a.n h t
  node-read (var x ty) h t = absurd h
  node-read (op add ty) h t = refl
  node-read (op sub ty) h t = refl
  node-read (op mul ty) h t = refl
  node-read (op div ty) h t = refl
  node-read (conv ty) h t = refl

  source-right : (src : Source) (n : ℕ) → FileSource types src → (t : List ℕ) → node_right_lem types (source_bytes src n ++ t) 0 ≡ true
  unfolding node_right_lem source_bytes bytes2 bytes4
  source-right (field f ty) n h t = rw (two_back f, lt-ltb f (length types) h.0, eq-eqb ty (get_or types f 0) h.1)
  source-right (cell l r k ty) n h t = absurd h

  node-right : (v : Node) → FileNode types v → (t : List ℕ) → node_right_lem types (bytes v ++ t) 0 ≡ true
  unfolding node_right_lem bytes bytes4
  node-right (const ty i) h t = rw (four_back i, lt-ltb ty 8 h.0) h.1
  node-right (atom a) h t = source-right a.src a.n h t
  node-right (var x ty) h t = absurd h
  node-right (op add ty) h t = rw (lt-ltb ty 8 h)
  node-right (op sub ty) h t = rw (lt-ltb ty 8 h)
  node-right (op mul ty) h t = rw (lt-ltb ty 8 h)
  node-right (op div ty) h t = rw (lt-ltb ty 8 h)
  node-right (conv ty) h t = rw (lt-ltb ty 8 h)

  -- ---- one conjunct

  pub conjunct-size : (e : Conj) → All (FileNode types) e → length (conjunct_bytes e) ≡ 8 * length e
  unfolding conjunct_bytes
  conjunct-size e h = length_things bytes 8 e (all_imp node-size e h)

  -- where it stands, the reader finds its nodes, each in its form
  module _ (e : Conj) (h : All (FileNode types) e) (s : List ℕ) (a : ℕ) (t : List ℕ) (f : From s a (conjunct_bytes e ++ t)) where
    pub conjunct-read : entries node_at 8 s a (length e) ≡ e
    unfolding conjunct_bytes
    conjunct-read = entries-read bytes 8 node_at (λ v. v) node_local e (all_imp node-size e h) (all_imp node-read e h) s a t f ∙ map-id e

    pub conjunct-right : entries (node_right_lem types) 8 s a (length e) ≡ map (λ v. true) e
    unfolding conjunct_bytes
    conjunct-right = entries-read bytes 8 (node_right_lem types) (λ v. true) (right_local types) e (all_imp node-size e h) (all_imp node-right e h) s a t f
