-- The listing of a condition, in ASCII codes: document 01, "Soundings".
use Rattle.std.specs.Prelude.{cond, ℕ, suc, length}
use mathlib.Core.List.{List, [], ◌∷◌, ◌++◌, flat_map}
use Rattle.arith.specs.Types.{bits, signed}
use Rattle.arith.specs.Words.{immediate}
use Rattle.model.specs.Condition.{Condition, source_type, read_condition}
use Rattle.model.specs.Conjunct.{Source, field, cell, Atom, Node, const, atom, var, op, conv, Conj, Conjuncts}
use Rattle.model.specs.Decimal.{decimal, number}
use Rattle.model.specs.Refusals.{Out, ok, refused}
use Rattle.model.specs.Values.{Operation, add, sub, mul, div}

-- a type behind its colon, as ":u16": u or i, and the width in bits
unfoldable pub type_text_lem : ℕ → List ℕ
type_text_lem ty = 58 ∷ cond (signed ty) 105 117 ∷ decimal (bits ty)

-- "add", "sub", "mul", "div"
unfoldable pub operation_text : Operation → List ℕ
operation_text add = 97 ∷ 100 ∷ 100 ∷ []
operation_text sub = 115 ∷ 117 ∷ 98 ∷ []
operation_text mul = 109 ∷ 117 ∷ 108 ∷ []
operation_text div = 100 ∷ 105 ∷ 118 ∷ []

-- a reading as "f0<1>"; a load reaches no file
unfoldable pub atom_text : Source → ℕ → List ℕ
atom_text (field f ty) n = 102 ∷ (decimal f ++ (60 ∷ (decimal n ++ (62 ∷ []))))
atom_text (cell l r k ty) n = []

-- a node without its type: a constant's value, a reading, an operation, "to"; a variable reaches no file
unfoldable pub node_name : Node → List ℕ
node_name (const ty i) = number (immediate ty i)
node_name (atom a) = atom_text a.src a.n
node_name (var x ty) = []
node_name (op o ty) = operation_text o
node_name (conv ty) = 116 ∷ 111 ∷ []

-- a node's type
unfoldable pub node_type : Node → ℕ
node_type (const ty i) = ty
node_type (atom a) = source_type a.src
node_type (var x ty) = ty
node_type (op o ty) = ty
node_type (conv ty) = ty

-- a node behind a blank
unfoldable pub node_text_lem : Node → List ℕ
node_text_lem v = 32 ∷ (node_name v ++ type_text_lem (node_type v))

-- a conjunct's line: its place, a colon, its nodes, and the line's end
unfoldable pub line_text : ℕ → Conj → List ℕ
line_text place e = decimal place ++ (58 ∷ (flat_map node_text_lem e ++ (10 ∷ [])))

-- the lines of the conjuncts from a place on
unfoldable pub lines_from : ℕ → Conjuncts → List ℕ
lines_from place [] = []
lines_from place (e ∷ S) = line_text place e ++ lines_from (suc place) S

-- "conjuncts ", their number, and a line for each
unfoldable pub listing_text : Conjuncts → List ℕ
listing_text S = 99 ∷ 111 ∷ 110 ∷ 106 ∷ 117 ∷ 110 ∷ 99 ∷ 116 ∷ 115 ∷ 32 ∷ (decimal (length S) ++ (10 ∷ lines_from 0 S))

-- "refused " and the number
unfoldable pub refusal_text : ℕ → List ℕ
refusal_text n = 114 ∷ 101 ∷ 102 ∷ 117 ∷ 115 ∷ 101 ∷ 100 ∷ 32 ∷ (decimal n ++ (10 ∷ []))

-- the text of a condition that is read, or of the refusal
abbrev pub text_of : Out Condition → List ℕ
text_of (ok C) = listing_text C.conjuncts
text_of (refused n) = refusal_text n

-- the listing of a condition file
unfoldable pub listing : List ℕ → List ℕ
listing condition = text_of (read_condition condition)
