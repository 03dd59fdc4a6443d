-- What the reader's answers and entries stand for, and what its functions may assume of a layout.
use Rattle.std.specs.Prelude.{◌≡◌, Bool, ◌&&◌, List, [], map, ℕ, Result, Ok, Err, ◌+◌, ◌*◌, ◌%◌, ◌≤◌, ◌<◌, ◌^◌, eqb, length, get_or}
use Rattle.model.specs.Lists.{every}
use Rattle.model.specs.Refusals.{Out, ok, refused, ◌>>=◌, check, too_many_entries, wrong_types, wrong_statement, types_disagree, wrong_immediate, wrong_procedures}
use Rattle.model.specs.Sizes.{most_program, field_size, array_size, statement_size}
use Rattle.model.specs.Bytes.{u32_at, Pair as ModelPair}
use Rattle.model.specs.Code.{Stmt, end}
use Rattle.model.specs.Program.{Statement, Tables, Layout as Sections, tables_at, layout_of, stmt_of, items_of, Outline, read_outline}
use Rattle.model.specs.Program.{counts_right_lem, types_right_lem, form_right_lem, types_agree_lem, immediate_right_lem}
use Rattle.model.specs.Procedures.{open_after, all_closed, between, parts_from, parts_right_lem}
use Rattle.program.specs.Numbers.{fields_pair, arrays_pair, statements_pair, end_kind}
use Rattle.program.specs.declared.Layout.{Layout}
use Rattle.program.specs.declared.Entry.{Entry}
use Rattle.program.specs.declared.sections.Pair.{Pair}
use Rattle.refusals.specs.Answers.{number_of, out_of}
use Rattle.refusals.specs.declared.Refusal.{Refusal}

-- the model's layout that the code's is
abbrev pub layout_from : Layout → Sections
layout_from L = record {
  fields_at = L.fields_at;
  fields = L.fields;
  variables_at_lem = L.variables_at;
  variables = L.variables;
  arrays_at_lem = L.arrays_at;
  arrays = L.arrays;
  statements_at_lem = L.statements_at;
  statements = L.statements;
}

-- the reader's answer: where the sections are, or the number of the refusal
abbrev pub program_answer : Result (List ℕ) Refusal → Out Sections
program_answer r = out_of layout_of r

-- the bytes of the program, or the number of the refusal
abbrev pub bytes_answer : Result (List ℕ) Refusal → Out (List ℕ)
bytes_answer r = out_of (λ s. s) r

-- the answer to the section table: where the sections are, or the number of the refusal
abbrev pub layout_answer : Result Layout Refusal → Out Sections
layout_answer r = out_of layout_from r

-- the answer of checks: that they pass, and then o, or the number of the refusal
abbrev pub followed : Result (Unit {0}) Refusal → Out (List ℕ) → Out (List ℕ)
followed (Ok u) o = o
followed (Err r) o = refused (number_of r)

-- the same of the last checks: the program follows
abbrev pub checks_answer : List ℕ → Result (Unit {0}) Refusal → Out (List ℕ)
checks_answer s r = followed r (ok s)

-- the pair that stands at a place: two numbers of 4 bytes
pub record PairIs (p : Pair) (s : List ℕ) (place : ℕ) : Type 0 where
  pub offset : p.at ≡ u32_at s place
  pub length : p.len ≡ u32_at s (place + 4)
  pub offset-small : p.at < 2 ^ 32
  pub length-small : p.len < 2 ^ 32

-- a section's pair, or the number of the refusal
abbrev pub section_of : Result Pair Refusal → Out ModelPair
section_of r = out_of (λ p. record { offset = p.at; len = p.len }) r

-- both numbers of 4 bytes
abbrev pub InFourBytes : Result Pair Refusal → Type 0
InFourBytes (Ok p) = (p.at < 2 ^ 32) × (p.len < 2 ^ 32)
InFourBytes (Err r) = Unit {0}

-- the sections of fields, of this size, of arrays and of statements are whole entries
abbrev pub whole_entries : ℕ → List ℕ → Bool
whole_entries entry s =
    eqb (u32_at s (fields_pair + 4) % entry) 0
    && eqb (u32_at s (arrays_pair + 4) % array_size) 0 && eqb (u32_at s (statements_pair + 4) % statement_size) 0

-- the model's entry that the code's is
abbrev pub entry_of : Entry → Statement
entry_of q = record { kind = q.kind; a = q.a; b = q.b; c = q.c; imm = q.imm }

-- a statement's entry, or the number of the refusal
abbrev pub statement_from : Result Entry Refusal → Out Statement
statement_from r = out_of entry_of r

-- the tables of a byte string at its own layout
abbrev pub tables_of : List ℕ → Tables
tables_of s = tables_at s (layout_of s)

-- past the last statement stands an end
abbrev pub no_statement : Statement
no_statement = record { kind = end_kind; a = 0; b = 0; c = 0; imm = 0 }

-- the statement with a label
abbrev pub statement_of : Tables → ℕ → Statement
statement_of T i = get_or T.statements i no_statement

-- the model's statements of the tables
abbrev pub stmts_of : Tables → List Stmt
stmts_of T = map (stmt_of T) T.statements

-- the statement with a label; past the last one an end
abbrev pub stmt_at : Tables → ℕ → Stmt
stmt_at T i = get_or (stmts_of T) i end

-- the statement with a label, behind check 5
abbrev pub form_checked : Tables → ℕ → Out Statement
form_checked T i = check (form_right_lem T (statement_of T i)) wrong_statement (ok (statement_of T i))

-- checks 5, 6 and 7, each over all statements, and then o
abbrev pub statement_checks : List ℕ → Out (List ℕ) → Out (List ℕ)
statement_checks s o =
    let T = tables_of s in
    check (every (form_right_lem T) T.statements) wrong_statement
    (check (every (types_agree_lem T) T.statements) types_disagree
    (check (every (immediate_right_lem T) T.statements) wrong_immediate o))

-- check 16
abbrev pub procedure_checks : List ℕ → Out (List ℕ)
procedure_checks s = parts_from 0 [] between (items_of (tables_of s)) >>= λ P. check (parts_right_lem P) wrong_procedures (ok s)

-- checks 8 and 16
abbrev pub block_checks : List ℕ → Out (List ℕ)
block_checks s = open_after [] (items_of (tables_of s)) >>= all_closed >>= λ none. procedure_checks s

-- checks 3 to 8 and 16
abbrev pub table_checks : List ℕ → Out (List ℕ)
table_checks s =
    let T = tables_of s in
    check (counts_right_lem T) too_many_entries (check (types_right_lem T) wrong_types (statement_checks s (block_checks s)))

-- the tables have as many entries as the layout says
pub record Sized (T : Tables) (L : Layout) : Type 0 where
  pub fields : length T.fields ≡ L.fields
  pub variables : length T.variables ≡ L.variables
  pub arrays : length T.arrays ≡ L.arrays
  pub statements : length T.statements ≡ L.statements

-- the layout is the byte string's own, and each section lies in it
pub record Placed (s : List ℕ) (L : Layout) : Type 0 where
  pub layout : layout_from L ≡ layout_of s
  pub fields : L.fields_at + field_size * L.fields ≤ length s
  pub variables : L.variables_at + L.variables ≤ length s
  pub arrays : L.arrays_at + array_size * L.arrays ≤ length s
  pub statements : L.statements_at + statement_size * L.statements ≤ length s
  pub small : length s ≤ most_program

-- the reader has passed the program
pub record ProgramIsRead (s : List ℕ) : Type 0 where
  pub outline : Outline
  pub read : read_outline s ≡ ok outline
