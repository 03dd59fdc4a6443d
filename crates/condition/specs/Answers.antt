-- What the answers of the condition's reader stand for, and a node by its four numbers.
use Rattle.std.specs.Prelude.{◌≡◌, Result, Ok, Err, Bool, false, ◌&&◌, List, [], ◌∷◌, map, ℕ, ◌+◌, ◌*◌, ◌/◌, ◌≤◌, ltb, eqb, length, get_or}
use Rattle.model.specs.Sizes.{field_size, most_fields, most_nodes, node_size, counts_size, pair_size_lem}
use Rattle.arith.specs.Step.{fits}
use Rattle.arith.specs.Words.{immediate}
use Rattle.model.specs.Lists.{every}
use Rattle.model.specs.Refusals.{Out, ok, mapped, check, wrong_condition}
use Rattle.model.specs.Bytes.{byte_at, u16_at, u32_at, part, Pair, pair_at, entries, pairs_at, chained}
use Rattle.model.specs.Values.{add, sub, mul, div}
use Rattle.model.specs.Fields.{Field, field_at, types_in}
use Rattle.model.specs.Program.{type_right}
use Rattle.model.specs.Conjunct.{field, Node as ModelNode, const, atom, op, conv, Conj, Conjuncts}
use Rattle.model.specs.Condition.{Condition, conjuncts_at, node_at, node_right_lem, nodes_right, conjunct_at, whole, numbered, length_right, read_condition}
use Rattle.condition.specs.declared.Node.{Node}
use Rattle.condition.specs.declared.Counts.{Counts}
use Rattle.refusals.specs.declared.Refusal.{Refusal}
use Rattle.refusals.specs.Answers.{out_of}

-- ---- nodes

-- the node with a kind, a type, a field number and an immediate or n
unfoldable pub node_by : ℕ → ℕ → ℕ → ℕ → ModelNode
node_by k ty f i =
    get_or (const ty i ∷ atom (record { src = field f ty; n = i }) ∷ op add ty ∷ op sub ty ∷ op mul ty ∷ op div ty ∷ []) k (conv ty)

abbrev pub constant_right_lem : ℕ → ℕ → ℕ → Bool
constant_right_lem ty f i = type_right ty && eqb f 0 && fits ty (immediate ty i)

abbrev pub reading_right_lem : List ℕ → ℕ → ℕ → Bool
reading_right_lem types ty f = ltb f (length types) && eqb ty (get_or types f 0)

abbrev pub operation_right_lem : ℕ → ℕ → ℕ → Bool
operation_right_lem ty f i = type_right ty && eqb f 0 && eqb i 0

-- its form
unfoldable pub right_by_lem : List ℕ → ℕ → ℕ → ℕ → ℕ → Bool
right_by_lem types k ty f i =
    let o = operation_right_lem ty f i in
    get_or (constant_right_lem ty f i ∷ reading_right_lem types ty f ∷ o ∷ o ∷ o ∷ o ∷ o ∷ []) k false

-- the node that a value of the code stands for
abbrev pub node_from : Node → ModelNode
node_from v = node_by v.kind v.ty v.field v.imm

-- it has the numbers that stand at a place
pub record NodeIs (v : Node) (s : List ℕ) (a : ℕ) : Type 0 where
  pub kind : v.kind ≡ byte_at s a
  pub type : v.ty ≡ byte_at s (a + 1)
  pub source : v.field ≡ u16_at s (a + 2)
  pub number : v.imm ≡ u32_at s (a + 4)

-- the entry that was read has the numbers that stand at a place
abbrev pub EntryIs : Result Node Refusal → List ℕ → ℕ → Type 0
EntryIs (Ok v) s a = NodeIs v s a
EntryIs (Err r) s a = Unit {0}

abbrev pub node_out : Result Node Refusal → Out ModelNode
node_out = out_of node_from

-- ---- parts

-- the nodes of a part
abbrev pub part_nodes : List ℕ → Conj
part_nodes s = entries node_at node_size s 0 (length s / node_size)

-- each of them has its form
abbrev pub part_right_lem : List ℕ → List ℕ → Bool
part_right_lem types s = every (λ b. b) (entries (node_right_lem types) node_size s 0 (length s / node_size))

-- the bytes of the pair at a place
abbrev pub pair_part : List ℕ → ℕ → List ℕ
pair_part s a = part s (pair_at s a).offset (pair_at s a).len

-- the fields, their types and the pairs of a file with so many fields and conjuncts
abbrev pub fields_at : List ℕ → (fields : ℕ) → List Field
fields_at s f = entries field_at field_size s counts_size f

abbrev pub types_at : List ℕ → (fields : ℕ) → List ℕ
types_at s f = types_in (fields_at s f)

abbrev pub pairs_of : List ℕ → (fields conjuncts : ℕ) → List Pair
pairs_of s f c = pairs_at s (counts_size + field_size * f) c

-- the conjuncts stand one after the other from behind the pairs to the file's end
abbrev pub linked : List ℕ → (fields conjuncts : ℕ) → Bool
linked s f c = chained (conjuncts_at f c) (pairs_of s f c) (length s)

-- where the pair of a conjunct stands, in a file with so many fields
abbrev pub pair_place : (fields i : ℕ) → ℕ
pair_place f i = counts_size + field_size * f + pair_size_lem * i

-- the tests of one pair
unfoldable pub pair_right : List ℕ → List ℕ → Pair → Bool
pair_right types s p = length_right p && nodes_right types s p && whole (conjunct_at s p) && numbered (conjunct_at s p)

-- a conjunct is in its form, or the number of the refusal
abbrev pub conjunct_answer : Result Unit Refusal → Out (Unit {0})
conjunct_answer = out_of (λ u. tt {0})

-- by a test of the form
abbrev pub formed : Bool → Out (Unit {0})
formed b = check b wrong_condition (ok tt)

-- ---- the file

-- how many conjuncts and fields
abbrev pub sizes : Condition → ℕ × ℕ
sizes C = (length C.conjuncts, length C.fields)

abbrev pub sizes_of : Counts → ℕ × ℕ
sizes_of k = (k.conjuncts, k.fields)

-- the counts that stand at a file's start
abbrev pub counts_of : List ℕ → Counts
counts_of s = record { conjuncts = u32_at s 0; fields = u32_at s 4 }

-- how many conjuncts and fields a condition that is read has, or the number of the refusal
abbrev pub condition_answer : Result (List ℕ) Refusal → Out (ℕ × ℕ)
condition_answer = out_of (λ s. sizes_of (counts_of s))

-- its bytes, or the number of the refusal
abbrev pub bytes_answer : Result (List ℕ) Refusal → Out (List ℕ)
bytes_answer = out_of (λ s. s)

-- the condition is in its form, with these counts
abbrev pub ConditionIsRead : List ℕ → Counts → Type 0
ConditionIsRead s k = mapped sizes (read_condition s) ≡ ok (sizes_of k)

-- the fields, their types and the conjuncts that a file holds
abbrev pub fields_of : List ℕ → List Field
fields_of s = fields_at s (u32_at s 4)

abbrev pub types_of : List ℕ → List ℕ
types_of s = types_in (fields_of s)

abbrev pub conjuncts_of : List ℕ → Conjuncts
conjuncts_of s = map (conjunct_at s) (pairs_of s (u32_at s 4) (u32_at s 0))

-- ---- a pair and its part

-- a pair stands at a place of a file with so many fields, and its part lies in the file
pub record PairInside (s : List ℕ) (fields at : ℕ) : Type 0 where
  pub few : fields ≤ most_fields
  pub table : counts_size + field_size * fields ≤ length s
  pub pair : at + pair_size_lem ≤ length s
  pub inside : (pair_at s at).offset + (pair_at s at).len ≤ length s

-- a list is the bytes of the conjunct with a number, and its nodes are the conjunct's
pub record ConjunctIs (s : List ℕ) (k : Counts) (i : ℕ) (bytes : List ℕ) : Type 0 where
  pub is-part : bytes ≡ pair_part s (pair_place k.fields i)
  pub nodes : part_nodes bytes ≡ get_or (conjuncts_of s) i []
  pub short : length bytes ≤ node_size * most_nodes
