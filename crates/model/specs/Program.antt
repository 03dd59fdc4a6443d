-- The program file (document 01: recipe) and checks 2 to 8 and 16, each over the whole file before the next.
use Rattle.std.specs.Prelude.{Bool, true, false, ◌&&◌, ◌||◌, not, cond, List, [], ◌∷◌, map, ℕ, zero, suc, ◌+◌, ◌-◌, ◌*◌, ◌/◌, ◌%◌, leb, ltb, eqb, length, get_or, take, drop}
use Rattle.arith.specs.Types.{signed}
use Rattle.arith.specs.Step.{fits}
use Rattle.arith.specs.Words.{immediate}
use Rattle.model.specs.Sizes.{section_table, most_program, field_size, array_size, statement_size, most_fields, most_variables, most_arrays, most_statements, most_cells, most_parameters, most_rows}
use Rattle.model.specs.Lists.{every}
use Rattle.model.specs.Refusals.{Out, ok, ◌>>=◌, check, instead, wrong_sections, too_many_entries, wrong_types, wrong_statement, types_disagree, wrong_immediate, wrong_procedures}
use Rattle.model.specs.Bytes.{byte_at, u16_at, u32_at, bytes4, part, entries, pairs_at, chained}
use Rattle.model.specs.Fields.{Field, field_at, field_right, types_in}
use Rattle.model.specs.Kinds.{Kind, a_number, a_copy, an_operation, a_conversion, a_read, a_load, a_store, a_site, an_if, an_else, an_end, a_while, a_procedure, a_call, no_kind_lem, kind_of, begins}
use Rattle.model.specs.Code.{Instr, assign, store, site, number, copy, calc, change, read, load, Stmt, plain, if, else, end, while, Code, tree_of}
use Rattle.model.specs.Procedures.{Item, own, procedure, call, open_after, all_closed, between, Parts, parts_from, parts_right_lem}
use Rattle.model.specs.Inlined.{Origin, Row, stmts_in, origins_in, rows_of}

-- ---- the tables

-- an array's entry (document 01: tray): its type, a byte that is zero, its number of cells
pub record Array : Type 0 where
  pub ty : ℕ
  pub pad : ℕ
  pub len : ℕ

-- a statement's entry
pub record Statement : Type 0 where
  pub kind : ℕ
  pub a : ℕ
  pub b : ℕ
  pub c : ℕ
  pub imm : ℕ

-- the fields, the types of the variables, the arrays and the statements
pub record Tables : Type 0 where
  pub fields : List Field
  pub variables : List ℕ
  pub arrays : List Array
  pub statements : List Statement

-- the entry of an array: 4 bytes
abbrev pub array_at : List ℕ → ℕ → Array
array_at s a = record { ty = byte_at s a; pad = byte_at s (a + 1); len = u16_at s (a + 2) }

-- the entry of a statement: 8 bytes
abbrev pub statement_at : List ℕ → ℕ → Statement
statement_at s a = record { kind = byte_at s a; a = byte_at s (a + 1); b = byte_at s (a + 2); c = byte_at s (a + 3); imm = u32_at s (a + 4) }

-- where the sections are, and how many entries each has: four pairs of offset and length
pub record Layout : Type 0 where
  pub fields_at : ℕ
  pub fields : ℕ
  pub variables_at_lem : ℕ
  pub variables : ℕ
  pub arrays_at_lem : ℕ
  pub arrays : ℕ
  pub statements_at_lem : ℕ
  pub statements : ℕ

-- the layout that the section table gives
unfoldable pub layout_of : List ℕ → Layout
layout_of s = record {
  fields_at = u32_at s 0;
  fields = u32_at s 4 / field_size;
  variables_at_lem = u32_at s 8;
  variables = u32_at s 12;
  arrays_at_lem = u32_at s 16;
  arrays = u32_at s 20 / array_size;
  statements_at_lem = u32_at s 24;
  statements = u32_at s 28 / statement_size;
}

-- the tables at a layout, with these fields
unfoldable pub tables_with : List Field → List ℕ → Layout → Tables
tables_with fields s L = record {
  fields = fields;
  variables = part s L.variables_at_lem L.variables;
  arrays = entries array_at array_size s L.arrays_at_lem L.arrays;
  statements = entries statement_at statement_size s L.statements_at_lem L.statements;
}

-- the tables at a layout
unfoldable pub tables_at : List ℕ → Layout → Tables
tables_at s L = tables_with (entries field_at field_size s L.fields_at L.fields) s L

-- ---- check 2: the length and the section table

-- at least the table and at most so many bytes; the sections one after the other from 32 to the end; whole entries, a field's of
-- this size
unfoldable pub sections_in : (most entry : ℕ) → List ℕ → Bool
sections_in most entry s =
    leb section_table (length s) && leb (length s) most
    && chained section_table (pairs_at s 0 4) (length s)
    && eqb (u32_at s 4 % entry) 0 && eqb (u32_at s 20 % array_size) 0 && eqb (u32_at s 28 % statement_size) 0

-- at most 8,416 bytes, and 2 for each field
abbrev pub sections_right : List ℕ → Bool
sections_right s = sections_in most_program field_size s

-- ---- check 3: the numbers of entries

-- at most 32 fields, 64 variables, 16 arrays and 1,024 statements
unfoldable pub counts_right_lem : Tables → Bool
counts_right_lem T =
    leb (length T.fields) most_fields && leb (length T.variables) most_variables
    && leb (length T.arrays) most_arrays && leb (length T.statements) most_statements

-- ---- check 4: types and array entries

-- a type code
abbrev pub type_right : ℕ → Bool
type_right ty = ltb ty 8

-- a type code, a zero byte, 1 to 256 cells
abbrev pub array_right_lem : Array → Bool
array_right_lem r = type_right r.ty && eqb r.pad 0 && leb 1 r.len && leb r.len most_cells

-- of every field, variable and array
unfoldable pub types_right_lem : Tables → Bool
types_right_lem T = every field_right T.fields && every type_right T.variables && every array_right_lem T.arrays

-- ---- procedures and calls

-- the statements that begin a procedure
abbrev pub beginnings : List Statement → List Statement
beginnings [] = []
beginnings (q ∷ qs) = cond (begins (kind_of q.kind)) (q ∷ beginnings qs) (beginnings qs)

-- the beginning of the procedure with a number, by order of appearance
abbrev pub beginning_of : Tables → ℕ → Statement
beginning_of T p = get_or (beginnings T.statements) p (record { kind = 0; a = 0; b = 0; c = 0; imm = 0 })

-- the immediate's first bytes are the arguments of a call, as many as the procedure has parameters
abbrev pub arguments_of : Tables → Statement → List ℕ
arguments_of T q = take (beginning_of T q.b).a (bytes4 q.imm)

-- ---- check 5: kinds, operands and unused bytes

module _ (T : Tables) where
  -- a number that names a variable, a field, an array
  abbrev pub is_variable_lem : ℕ → Bool
  is_variable_lem x = ltb x (length T.variables)

  abbrev pub is_field : ℕ → Bool
  is_field x = ltb x (length T.fields)

  abbrev pub is_array : ℕ → Bool
  is_array x = ltb x (length T.arrays)

-- a byte, or an immediate, that is not used
abbrev pub unused : ℕ → Bool
unused x = eqb x 0

-- a beginning: its parameters, and its own variables, which there are
unfoldable pub procedure_form_lem : Tables → Statement → Bool
procedure_form_lem T q = leb q.a most_parameters && leb (q.b + q.c) (length T.variables) && unused q.imm

-- a call: its target, a procedure that there is, and in the immediate the arguments, with zeros after them
unfoldable pub call_form_lem : Tables → Statement → Bool
call_form_lem T q =
    is_variable_lem T q.a && ltb q.b (length (beginnings T.statements)) && unused q.c
    && every (is_variable_lem T) (arguments_of T q) && every unused (drop (beginning_of T q.b).a (bytes4 q.imm))

-- what a, b, c and the immediate have to be, by kind
abbrev pub form_of : Kind → Tables → Statement → Bool
form_of a_number T q = is_variable_lem T q.a && unused q.b && unused q.c
form_of a_copy T q = is_variable_lem T q.a && is_variable_lem T q.b && unused q.c && unused q.imm
form_of (an_operation o) T q = is_variable_lem T q.a && is_variable_lem T q.b && is_variable_lem T q.c && unused q.imm
form_of a_conversion T q = is_variable_lem T q.a && is_variable_lem T q.b && unused q.c && unused q.imm
form_of a_read T q = is_variable_lem T q.a && is_field T q.b && unused q.c && unused q.imm
form_of a_load T q = is_variable_lem T q.a && is_array T q.b && is_variable_lem T q.c && unused q.imm
form_of a_store T q = is_array T q.a && is_variable_lem T q.b && is_variable_lem T q.c && unused q.imm
form_of a_site T q = is_variable_lem T q.a && unused q.b && unused q.c && unused q.imm
form_of an_if T q = is_variable_lem T q.a && unused q.b && unused q.c && unused q.imm
form_of an_else T q = unused q.a && unused q.b && unused q.c && unused q.imm
form_of an_end T q = unused q.a && unused q.b && unused q.c && unused q.imm
form_of a_while T q = is_variable_lem T q.a && unused q.b && unused q.c && unused q.imm
form_of a_procedure T q = procedure_form_lem T q
form_of a_call T q = call_form_lem T q
form_of no_kind_lem T q = false

unfoldable pub form_right_lem : Tables → Statement → Bool
form_right_lem T q = form_of (kind_of q.kind) T q

-- ---- check 6: types

-- the type of a variable
abbrev pub variable_type_lem : Tables → ℕ → ℕ
variable_type_lem T x = get_or T.variables x 0

-- the type of a field
abbrev pub field_type_lem : Tables → ℕ → ℕ
field_type_lem T x = get_or (types_in T.fields) x 0

-- the entry of an array
abbrev pub array_of : Tables → ℕ → Array
array_of T x = get_or T.arrays x (record { ty = 0; pad = 0; len = 0 })

-- two variables of one type
abbrev pub alike : Tables → ℕ → ℕ → Bool
alike T x y = eqb (variable_type_lem T x) (variable_type_lem T y)

-- an array and a variable of one type, and an index of an unsigned one
abbrev pub cell_alike : Tables → (array x index : ℕ) → Bool
cell_alike T r x i = eqb (array_of T r).ty (variable_type_lem T x) && not (signed (variable_type_lem T i))

-- the variables have the types of those from x on, one by one
unfoldable pub all_alike : Tables → List ℕ → ℕ → Bool
all_alike T [] x = true
all_alike T (b ∷ bs) x = alike T b x && all_alike T bs (suc x)

-- the arguments of a call have their parameters' types and the target the result's; a call of a procedure with no own variables, or
-- fewer than its parameters, is passed over
unfoldable pub call_alike : Tables → Statement → Bool
call_alike T q =
    let p = beginning_of T q.b in
    eqb p.c 0 || ltb p.c p.a || (all_alike T (arguments_of T q) p.b && alike T q.a (p.b + p.c - 1))

-- the types in a statement agree, by kind, and an index is unsigned; a conversion, a site and a test take any type
abbrev pub agree_of : Kind → Tables → Statement → Bool
agree_of a_number T q = true
agree_of a_copy T q = alike T q.b q.a
agree_of (an_operation o) T q = alike T q.b q.a && alike T q.c q.a
agree_of a_conversion T q = true
agree_of a_read T q = eqb (field_type_lem T q.b) (variable_type_lem T q.a)
agree_of a_load T q = cell_alike T q.b q.a q.c
agree_of a_store T q = cell_alike T q.a q.c q.b
agree_of a_site T q = true
agree_of an_if T q = true
agree_of an_else T q = true
agree_of an_end T q = true
agree_of a_while T q = true
agree_of a_procedure T q = true
agree_of a_call T q = call_alike T q
agree_of no_kind_lem T q = true

unfoldable pub types_agree_lem : Tables → Statement → Bool
types_agree_lem T q = agree_of (kind_of q.kind) T q

-- ---- check 7: immediates

-- an immediate is inside its variable's type; no other kind has one
abbrev pub immediate_of : Kind → Tables → Statement → Bool
immediate_of a_number T q = let ty = variable_type_lem T q.a in fits ty (immediate ty q.imm)
immediate_of a_copy T q = true
immediate_of (an_operation o) T q = true
immediate_of a_conversion T q = true
immediate_of a_read T q = true
immediate_of a_load T q = true
immediate_of a_store T q = true
immediate_of a_site T q = true
immediate_of an_if T q = true
immediate_of an_else T q = true
immediate_of an_end T q = true
immediate_of a_while T q = true
immediate_of a_procedure T q = true
immediate_of a_call T q = true
immediate_of no_kind_lem T q = true

unfoldable pub immediate_right_lem : Tables → Statement → Bool
immediate_right_lem T q = immediate_of (kind_of q.kind) T q

-- ---- check 8: blocks

-- a statement of kinds 0 to 14 with its types; any other counts as an end
abbrev pub meaning_of : Kind → Tables → Statement → Stmt
meaning_of a_number T q = plain (assign q.a (variable_type_lem T q.a) (number q.imm))
meaning_of a_copy T q = plain (assign q.a (variable_type_lem T q.a) (copy q.b))
meaning_of (an_operation o) T q = plain (assign q.a (variable_type_lem T q.a) (calc o q.b q.c))
meaning_of a_conversion T q = plain (assign q.a (variable_type_lem T q.a) (change q.b (variable_type_lem T q.b)))
meaning_of a_read T q = plain (assign q.a (variable_type_lem T q.a) (read q.b))
meaning_of a_load T q = plain (assign q.a (variable_type_lem T q.a) (load q.b (array_of T q.b).len q.c))
meaning_of a_store T q = plain (store q.a (array_of T q.a).len q.b q.c (array_of T q.a).ty)
meaning_of a_site T q = plain (site q.a (variable_type_lem T q.a))
meaning_of an_if T q = if q.a
meaning_of an_else T q = else
meaning_of an_end T q = end
meaning_of a_while T q = while q.a
meaning_of a_procedure T q = end
meaning_of a_call T q = end
meaning_of no_kind_lem T q = end

unfoldable pub stmt_of : Tables → Statement → Stmt
stmt_of T q = meaning_of (kind_of q.kind) T q

-- a statement of any kind
abbrev pub listed_of : Kind → Tables → Statement → Item
listed_of a_number T q = own (stmt_of T q)
listed_of a_copy T q = own (stmt_of T q)
listed_of (an_operation o) T q = own (stmt_of T q)
listed_of a_conversion T q = own (stmt_of T q)
listed_of a_read T q = own (stmt_of T q)
listed_of a_load T q = own (stmt_of T q)
listed_of a_store T q = own (stmt_of T q)
listed_of a_site T q = own (stmt_of T q)
listed_of an_if T q = own (stmt_of T q)
listed_of an_else T q = own (stmt_of T q)
listed_of an_end T q = own (stmt_of T q)
listed_of a_while T q = own (stmt_of T q)
listed_of a_procedure T q = procedure q.a q.b q.c
listed_of a_call T q = call q.a q.b (arguments_of T q)
listed_of no_kind_lem T q = own (stmt_of T q)

unfoldable pub item_of : Tables → Statement → Item
item_of T q = listed_of (kind_of q.kind) T q

-- the statements
abbrev pub items_of : Tables → List Item
items_of T = map (item_of T) T.statements

-- ---- the whole

-- a program: its tables, and the block tree and the origins of the inlined program
pub record Program : Type 0 where
  pub tables : Tables
  pub code : Code
  pub origins : List Origin

-- the statements of the inlined program
abbrev pub inlined_rows : Tables → Parts → List Row
inlined_rows T P = rows_of (variable_type_lem T) (length T.variables) P

-- check 16 of the inlined program: at most 16,384 statements, and at most 4 deep (its blocks match, since those of the program do)
unfoldable pub program_of : Tables → List Row → Out Program
program_of T rows =
    check (leb (length rows) most_rows) wrong_procedures
    (instead wrong_procedures (tree_of (stmts_in rows)) >>= λ c. ok (record { tables = T; code = c; origins = origins_in rows }))

-- a program as it is listed: its tables, and its procedures with the statements after them
pub record Outline : Type 0 where
  pub tables : Tables
  pub parts : Parts

-- the outline of tables, or the first of checks 3 to 8, and 16 of the procedures, that they fail
abbrev pub outline_of : Tables → Out Outline
outline_of T =
    check (counts_right_lem T) too_many_entries
    (check (types_right_lem T) wrong_types
    (check (every (form_right_lem T) T.statements) wrong_statement
    (check (every (types_agree_lem T) T.statements) types_disagree
    (check (every (immediate_right_lem T) T.statements) wrong_immediate
    (open_after [] (items_of T) >>= all_closed >>= λ none.
    parts_from 0 [] between (items_of T) >>= λ P.
    check (parts_right_lem P) wrong_procedures (ok (record { tables = T; parts = P })))))))

-- the outline of a byte string, or the first of checks 2 to 8, and 16 of the procedures, that it fails
unfoldable pub read_outline : List ℕ → Out Outline
read_outline s = check (sections_right s) wrong_sections (outline_of (tables_at s (layout_of s)))

-- the program of an outline, or 16
abbrev pub inlined_program : Outline → Out Program
inlined_program O = program_of O.tables (inlined_rows O.tables O.parts)

-- the program of a byte string, or the first of checks 2 to 8 and 16 that it fails
unfoldable pub read_program : List ℕ → Out Program
read_program s = read_outline s >>= inlined_program
