-- Numbers of the program file beside the model's sizes: where the pairs of the section table stand, and how many codes of types and
-- of kinds there are.
use Rattle.std.specs.Prelude.{ℕ, ◌*◌}
use Rattle.model.specs.Sizes.{pair_size_lem}

-- ---- the section table: how many sections there are, and where the pair of each stands

abbrev pub sections : ℕ
sections = 4

abbrev pub fields_pair : ℕ
fields_pair = 0

abbrev pub variables_pair : ℕ
variables_pair = 1 * pair_size_lem

abbrev pub arrays_pair : ℕ
arrays_pair = 2 * pair_size_lem

abbrev pub statements_pair : ℕ
statements_pair = 3 * pair_size_lem

-- ---- types: the unsigned ones first

abbrev pub type_codes : ℕ
type_codes = 8

abbrev pub unsigned_codes : ℕ
unsigned_codes = 4

-- ---- kinds of statements, by their places in the model's list (`kind_of`): those of the blocks come last

abbrev pub number_kind : ℕ
number_kind = 0

abbrev pub copy_kind : ℕ
copy_kind = 1

abbrev pub read_kind : ℕ
read_kind = 7

abbrev pub load_kind : ℕ
load_kind = 8

abbrev pub store_kind : ℕ
store_kind = 9

abbrev pub site_kind : ℕ
site_kind = 10

abbrev pub if_kind : ℕ
if_kind = 11

abbrev pub else_kind : ℕ
else_kind = 12

abbrev pub end_kind : ℕ
end_kind = 13

abbrev pub while_kind : ℕ
while_kind = 14

abbrev pub procedure_kind : ℕ
procedure_kind = 15

abbrev pub call_kind : ℕ
call_kind = 16

abbrev pub kind_codes : ℕ
kind_codes = 17
