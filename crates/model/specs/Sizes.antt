-- The sizes and limits of document 01, each number by one name.
use Rattle.std.specs.Prelude.{ℕ, ◌+◌, ◌*◌}

-- ---- the program file

-- the bytes of the section table: four pairs
abbrev pub section_table : ℕ
section_table = 32

-- the bytes of the longest program
abbrev pub most_program : ℕ
most_program = 8416

-- the bytes of the entry of a field
abbrev pub field_size : ℕ
field_size = 2

-- how much more than the number of a field's bits its second byte is
abbrev pub over_bits : ℕ
over_bits = 128

-- the bytes of the entry of a variable
abbrev pub variable_size : ℕ
variable_size = 1

-- the bytes of the entry of an array
abbrev pub array_size : ℕ
array_size = 4

-- the bytes of a statement
abbrev pub statement_size : ℕ
statement_size = 8

-- the bytes of a pair of offset and length
abbrev pub pair_size_lem : ℕ
pair_size_lem = 8

abbrev pub most_fields : ℕ
most_fields = 32

abbrev pub most_variables : ℕ
most_variables = 64

abbrev pub most_arrays : ℕ
most_arrays = 16

-- the cells of the longest array
abbrev pub most_cells : ℕ
most_cells = 256

abbrev pub most_statements : ℕ
most_statements = 1024

-- the blocks that may be open at once
abbrev pub most_nested : ℕ
most_nested = 4

-- those that may be open at once inside one of them
abbrev pub most_inside : ℕ
most_inside = 3

-- the parameters of a procedure at the most: as many as an immediate has bytes
abbrev pub most_parameters : ℕ
most_parameters = 4

-- the statements of the longest inlined program
abbrev pub most_rows : ℕ
most_rows = 16384

-- ---- the condition

-- the nodes of the longest conjunct
abbrev pub most_nodes : ℕ
most_nodes = 120

-- the conjuncts of the largest set
abbrev pub most_conjuncts : ℕ
most_conjuncts = 64

-- the rounds of a while in which its set has to settle
abbrev pub most_rounds : ℕ
most_rounds = 16

-- the bytes of a node
abbrev pub node_size : ℕ
node_size = 8

-- the bytes of the two counts at the start of a condition file
abbrev pub counts_size : ℕ
counts_size = 8

-- ---- the input and the filter

-- the readings of a field at the most
abbrev pub most_readings : ℕ
most_readings = 128

-- the combinations of a conjunct at the most
abbrev pub most_combinations : ℕ
most_combinations = 1048576

-- ---- the run

-- the bytes of a record
abbrev pub record_size : ℕ
record_size = 12

-- the bytes of a choice
abbrev pub choice_size : ℕ
choice_size = 2
