-- What a word stands for: every number is one node, and the order of the words is the order of the nodes by their bytes.
-- From the highest byte on a word holds
--   a constant: 0, the type (3 bytes), the immediate (4 bytes, the lowest first);
--   a reading: 1, the type, the field (2 bytes, the lowest first), n (4 bytes, the lowest first);
--   an operation: its kind 2 to 5, the type (7 bytes); a conversion: 6, the type (7 bytes);
--   a variable: 7, the type (3 bytes), its number (4 bytes, the lowest first);
--   a load: 8, the type, the label (2 bytes, the lowest first), n, the array, its length (2 bytes).
-- A number with a higher first byte is a load with a type above 255.
use Rattle.std.specs.Prelude.{Bool, cond, List, [], ◌∷◌, map, ℕ, ◌+◌, ◌-◌, ◌*◌, ◌/◌, ◌%◌, ◌≤◌, ◌<◌, ◌^◌, ltb, leb}
use Rattle.model.specs.Conjunct.{Source, field, cell, Atom, Node, const, atom, var, op, conv, Conj}
use Rattle.model.specs.Values.{add, sub, mul, div}

-- where a byte of a word counts: place k has k bytes below it
abbrev pub place2 : ℕ
place2 = 0x01_0000

abbrev pub place3 : ℕ
place3 = 0x0100_0000

abbrev pub place4 : ℕ
place4 = 0x01_0000_0000

abbrev pub place5 : ℕ
place5 = 0x0100_0000_0000

abbrev pub place6 : ℕ
place6 = 0x01_0000_0000_0000

abbrev pub place7 : ℕ
place7 = 0x01_00_0000_0000_0000

-- the first word of each kind after the constants
abbrev pub first_reading : ℕ
first_reading = 0x01_00_0000_0000_0000

abbrev pub first_sum : ℕ
first_sum = 0x02_00_0000_0000_0000

abbrev pub first_difference : ℕ
first_difference = 0x03_00_0000_0000_0000

abbrev pub first_product : ℕ
first_product = 0x04_00_0000_0000_0000

abbrev pub first_quotient : ℕ
first_quotient = 0x05_00_0000_0000_0000

abbrev pub first_conversion : ℕ
first_conversion = 0x06_00_0000_0000_0000

abbrev pub first_variable : ℕ
first_variable = 0x07_00_0000_0000_0000

abbrev pub first_load : ℕ
first_load = 0x08_00_0000_0000_0000

-- the kind of a variable above the 3 bytes of its type, and of a load above the byte of its type
abbrev pub variable_kind : ℕ
variable_kind = 0x07_00_0000

abbrev pub load_kind : ℕ
load_kind = 0x08_00

-- the number of the four low bytes, the highest of them counting least
abbrev pub low4 : ℕ → ℕ
low4 w = w / place3 % 256 + 256 * (w / place2 % 256 + 256 * (w / 256 % 256 + 256 * (w % 256)))

-- the number of the two bytes above them, the higher counting least
abbrev pub mid2 : ℕ → ℕ
mid2 w = w / place5 % 256 + 256 * (w / place4 % 256)

-- is it an atom's word?
unfoldable pub is_atom_lem : ℕ → Bool
is_atom_lem w = cond (ltb w first_sum) (leb first_reading w) (leb first_load w)

-- the source of an atom's word
unfoldable pub source_of : ℕ → Source
source_of w =
    cond (ltb w first_sum) (field (mid2 w) (w / place6 % 256))
    (cell (mid2 w) (w / place2 % 256) (w % place2) (w / place6 - load_kind))

-- the n of an atom's word
unfoldable pub number_of : ℕ → ℕ
number_of w = cond (ltb w first_sum) (low4 w) (w / place3 % 256)

-- the word of an atom without its n: equal words for equal sources
unfoldable pub key_of : ℕ → ℕ
key_of w = cond (ltb w first_sum) (w - w % place4) (w - w / place3 % 256 * place3)

-- the atom of an atom's word
abbrev pub atom_of : ℕ → Atom
atom_of w = record { src = source_of w; n = number_of w }

-- the node of any other word
unfoldable pub plain_of : ℕ → Node
plain_of w =
    cond (ltb w first_reading) (const (w / place4) (low4 w))
    (cond (ltb w first_difference) (op add (w % place7))
    (cond (ltb w first_product) (op sub (w % place7))
    (cond (ltb w first_quotient) (op mul (w % place7))
    (cond (ltb w first_conversion) (op div (w % place7))
    (cond (ltb w first_variable) (conv (w % place7))
    (var (low4 w) (w / place4 % place3)))))))

-- the node of a word
unfoldable pub node_of : ℕ → Node
node_of w = cond (is_atom_lem w) (atom (atom_of w)) (plain_of w)

-- the nodes of words
abbrev pub nodes_of_lem : List ℕ → Conj
nodes_of_lem ws = map node_of ws

-- what a load is made of fits its bytes: a label, an array with its length, and a type
pub record LoadFits (l t k ty : ℕ) : Type 0 where
  pub label : l < 2 ^ 16
  pub array : t < 2 ^ 8
  pub len : k < 2 ^ 16
  pub type : ty < 2 ^ 8

-- a kind is an operation's, and the type fits its bytes
pub record OperationFits (kind ty : ℕ) : Type 0 where
  pub first : 2 ≤ kind
  pub last : kind ≤ 5
  pub type : ty < 2 ^ 56

-- the 8 bytes of a number, from the highest on
unfoldable pub file_bytes : ℕ → List ℕ
file_bytes v =
    v / place7 ∷ v / place6 % 256 ∷ v / place5 % 256 ∷ v / place4 % 256 ∷ v / place3 % 256 ∷ v / place2 % 256 ∷ v / 256 % 256 ∷ v % 256 ∷ []
