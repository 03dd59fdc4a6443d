-- The condition file, written and read: document 01, "The condition".
use Rattle.std.specs.Prelude.{Bool, true, false, ◌&&◌, leb, ltb, eqb, length, get_or}
use mathlib.Core.List.{List, [], ◌∷◌, ◌++◌, map, flat_map}
use Prim.Native.Nat.{ℕ, zero, suc, ◌+◌, ◌*◌, ◌/◌, ◌%◌, Ordering}
use Rattle.std.proofs.Math.Dec.{compare_is_eq}
use Rattle.arith.specs.Step.{fits}
use Rattle.arith.specs.Words.{immediate}
use Rattle.model.specs.Sizes.{field_size, most_fields, most_conjuncts, most_nodes, node_size, counts_size, pair_size_lem}
use Rattle.model.specs.Lists.{every}
use Rattle.model.specs.Refusals.{Out, ok, refused, ◌>>=◌, check, wrong_condition}
use Rattle.model.specs.Bytes.{byte_at, u16_at, u32_at, bytes4, part, Pair, entries, pairs_at, chained}
use Rattle.model.specs.Values.{add, sub, mul, div}
use Rattle.model.specs.Fields.{Field, field_at, field_bytes, field_right, types_in}
use Rattle.model.specs.Program.{Program, type_right, read_program}
use Rattle.model.specs.Conjunct.{Source, field, cell, Atom, Node, const, atom, var, op, conv, Conj, Conjuncts, bytes, order, order_nodes, renumber}
use Rattle.model.specs.Walk.{derived}

-- ---- written

-- the bytes of a conjunct
unfoldable pub conjunct_bytes : Conj → List ℕ
conjunct_bytes e = flat_map bytes e

-- the pairs of conjuncts that stand one after the other from a place on
unfoldable pub pair_bytes : ℕ → Conjuncts → List ℕ
pair_bytes at [] = []
pair_bytes at (e ∷ S) = bytes4 at ++ bytes4 (node_size * length e) ++ pair_bytes (at + node_size * length e) S

-- where the conjuncts begin: after two counts, f fields and c pairs
abbrev pub conjuncts_at : ℕ → ℕ → ℕ
conjuncts_at f c = counts_size + field_size * f + pair_size_lem * c

-- the condition file of a set, with the program's fields
unfoldable pub encode : List Field → Conjuncts → List ℕ
encode fields S =
    bytes4 (length S) ++ bytes4 (length fields) ++ flat_map field_bytes fields
    ++ pair_bytes (conjuncts_at (length fields) (length S)) S
    ++ flat_map conjunct_bytes S

-- the length of the longest one: two counts, 32 fields, 64 pairs, and 64 conjuncts of 120 nodes
abbrev pub condition_bytes : ℕ
condition_bytes = counts_size + field_size * most_fields + most_conjuncts * (pair_size_lem + node_size * most_nodes)

-- the condition file that the analysis writes for a program's bytes, or the refusal
unfoldable pub analysis : List ℕ → Out (List ℕ)
analysis s = read_program s >>= λ P. derived P.code >>= λ S. ok (encode P.tables.fields S)

-- ---- read

-- the fields and the conjuncts
pub record Condition : Type 0 where
  pub fields : List Field
  pub conjuncts : Conjuncts

-- the node at a place, by its kind
unfoldable pub node_at : List ℕ → ℕ → Node
node_at s a =
    let ty = byte_at s (a + 1) in
    let f = u16_at s (a + 2) in
    let i = u32_at s (a + 4) in
    get_or
    (const ty i ∷ atom (record { src = field f ty; n = i }) ∷ op add ty ∷ op sub ty ∷ op mul ty ∷ op div ty ∷ [])
    (byte_at s a) (conv ty)

-- the conjunct of a pair: a node in each 8 bytes
abbrev pub conjunct_at : List ℕ → Pair → Conj
conjunct_at s p = entries node_at node_size s p.offset (p.len / node_size)

-- the form of the node at a place, by its kind: a constant inside its type; a reading of a listed field in its type;
-- an operation or a conversion; unused parts are zero
unfoldable pub node_right_lem : List ℕ → List ℕ → ℕ → Bool
node_right_lem types s a =
    let ty = byte_at s (a + 1) in
    let f = u16_at s (a + 2) in
    let i = u32_at s (a + 4) in
    let constant = type_right ty && eqb f 0 && fits ty (immediate ty i) in
    let reading = ltb f (length types) && eqb ty (get_or types f 0) in
    let operation = type_right ty && eqb f 0 && eqb i 0 in
    get_or (constant ∷ reading ∷ operation ∷ operation ∷ operation ∷ operation ∷ operation ∷ []) (byte_at s a) false

-- the types on the stack after an operation: two operands of its type
abbrev pub operation : ℕ → List ℕ → Out (List ℕ)
operation ty [] = refused wrong_condition
operation ty (b ∷ []) = refused wrong_condition
operation ty (b ∷ a ∷ st) = check (eqb a ty && eqb b ty) wrong_condition (ok (ty ∷ st))

-- after a conversion: one operand of any type
abbrev pub conversion : ℕ → List ℕ → Out (List ℕ)
conversion ty [] = refused wrong_condition
conversion ty (a ∷ st) = ok (ty ∷ st)

-- the type of an atom's source
abbrev pub source_type : Source → ℕ
source_type (field f ty) = ty
source_type (cell l r k ty) = ty

-- after a node
unfoldable pub type_node : Node → List ℕ → Out (List ℕ)
type_node (const ty i) st = ok (ty ∷ st)
type_node (atom a) st = ok (source_type a.src ∷ st)
type_node (var x ty) st = ok (ty ∷ st)
type_node (op o ty) st = operation ty st
type_node (conv ty) st = conversion ty st

-- after a conjunct
unfoldable pub type_nodes : Conj → List ℕ → Out (List ℕ)
type_nodes [] st = ok st
type_nodes (v ∷ e) st = type_node v st >>= type_nodes e

-- one value is left
abbrev pub single : Out (List ℕ) → Bool
single (ok []) = false
single (ok (ty ∷ [])) = true
single (ok (ty ∷ u ∷ st)) = false
single (refused n) = false

-- one whole expression in which types agree
unfoldable pub whole : Conj → Bool
whole e = single (type_nodes e [])

-- numbered as after a rule
unfoldable pub numbered : Conj → Bool
numbered e = compare_is_eq (order_nodes (renumber e) e)

-- one stands before the other
abbrev pub is_before : Ordering → Bool
is_before Ordering.lt = true
is_before Ordering.eq = false
is_before Ordering.gt = false

-- in rising order, none twice
unfoldable pub rising : Conjuncts → Bool
rising [] = true
rising (d ∷ []) = true
rising (d ∷ e ∷ S) = is_before (order d e) && rising (e ∷ S)

-- the length of a conjunct: 1 to 120 nodes
abbrev pub length_right : Pair → Bool
length_right p = ltb 0 p.len && leb p.len (node_size * most_nodes) && eqb (p.len % node_size) 0

-- every node of a pair's conjunct has its form
abbrev pub nodes_right : List ℕ → List ℕ → Pair → Bool
nodes_right types s p = every (λ b. b) (entries (node_right_lem types) node_size s p.offset (p.len / node_size))

-- the condition of a byte string, or 12
unfoldable pub read_condition : List ℕ → Out Condition
read_condition s =
    let c = u32_at s 0 in
    let f = u32_at s 4 in
    let fields = entries field_at field_size s counts_size f in
    let pairs = pairs_at s (counts_size + field_size * f) c in
    let conjuncts = map (conjunct_at s) pairs in
    check
    (leb counts_size (length s) && leb c most_conjuncts && leb f most_fields
    && chained (conjuncts_at f c) pairs (length s)
    && every field_right fields
    && every length_right pairs
    && every (nodes_right (types_in fields) s) pairs
    && every whole conjuncts
    && every numbered conjuncts
    && rising conjuncts)
    wrong_condition
    (ok (record { fields = fields; conjuncts = conjuncts }))
