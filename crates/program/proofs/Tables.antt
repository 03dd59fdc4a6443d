-- The tables of a byte string whose sections lie in it: which entries they have, and how many.
use mathlib.Core.Path.{◌≡◌, refl}
use mathlib.Core.Bool.{Bool, true, false, ◌&&◌}
use mathlib.Core.List.{List}
use Prim.Native.Nat.{ℕ, ◌+◌, ◌*◌, ◌≤◌, ◌<◌}
use native.Mathlib.Omega.{arith}
use borrow.Author.Tests.{leb-true, leb-false, ltb-true}
use lib.Dec.{leb}
use lib.ListN.{length, get_or, get_or-eq_default, get_or-map}
use Rattle.model.specs.Sizes.{field_size, array_size, statement_size}
use Rattle.model.specs.Fields.{field_at, field_right}
use Rattle.model.specs.Lists.{every}
use Rattle.model.specs.Bytes.{part, entries}
use Rattle.model.specs.Code.{end}
use Rattle.model.specs.Kinds.{kind_of}
use Rattle.model.specs.Program.{Tables, array_at, statement_at, tables_with, tables_at, type_right, array_right_lem, types_right_lem, variable_type_lem, array_of, stmt_of}
use Rattle.model.proofs.Basics.Tests.{and_left, and_right}
use Rattle.model.proofs.Basics.Every.{every-at}
use Rattle.model.proofs.Files.Parts.{length-entries, entries-get_or, length_part}
use Rattle.program.specs.Numbers.{type_codes}
use Rattle.program.specs.Reading.{tables_of, no_statement, statement_of, stmts_of, Sized, Placed}
use Rattle.program.specs.declared.Layout.{Layout}

-- past the end

entry_past : {A : Type 0} (at : List ℕ → ℕ → A) (size : ℕ) (s : List ℕ) (a n i : ℕ) (d : A) → n ≤ i → get_or (entries at size s a n) i d ≡ d
entry_past at size s a n i d h = get_or-eq_default (entries at size s a n) d (rw (length-entries at size s n a) h)

-- ---- which entries they have

module _ (s : List ℕ) (L : Layout) (h : Placed s L) where
  pub fields-are : (tables_of s).fields ≡ entries field_at field_size s L.fields_at L.fields
  unfolding tables_at tables_with
  fields-are = rw (← h.layout)

  pub variables-are : (tables_of s).variables ≡ part s L.variables_at L.variables
  unfolding tables_at tables_with
  variables-are = rw (← h.layout)

  pub arrays-are : (tables_of s).arrays ≡ entries array_at array_size s L.arrays_at L.arrays
  unfolding tables_at tables_with
  arrays-are = rw (← h.layout)

  pub statements-are : (tables_of s).statements ≡ entries statement_at statement_size s L.statements_at L.statements
  unfolding tables_at tables_with
  statements-are = rw (← h.layout)

  pub sized : Sized (tables_of s) L
  sized = record {
    fields = rw fields-are (length-entries field_at field_size s L.fields L.fields_at);
    variables = rw variables-are (length_part s L.variables_at L.variables h.variables);
    arrays = rw arrays-are (length-entries array_at array_size s L.arrays L.arrays_at);
    statements = rw statements-are (length-entries statement_at statement_size s L.statements L.statements_at);
  }

  -- a statement of the table lies in the section
  pub inside_section : (v : List ℕ) → s ≡ v → (i : ℕ) → i < length (tables_of v).statements → i < L.statements
  inside_section v e i k = rw (← sized.statements, e) k

  pub array_in : (x : ℕ) → x < L.arrays → array_of (tables_of s) x ≡ array_at s (L.arrays_at + array_size * x)
  array_in x k = rw arrays-are (entries-get_or array_at array_size s L.arrays L.arrays_at x _ k)

  pub array-past : (x : ℕ) → L.arrays ≤ x → array_of (tables_of s) x ≡ record { ty = 0; pad = 0; len = 0 }
  array-past x k = rw arrays-are (entry_past array_at array_size s L.arrays_at L.arrays x _ k)

  pub statement_in : (i : ℕ) → i < L.statements → statement_of (tables_of s) i ≡ statement_at s (L.statements_at + statement_size * i)
  statement_in i k = rw statements-are (entries-get_or statement_at statement_size s L.statements L.statements_at i _ k)

-- ---- their types, and the statements of the model

-- every variable's type is one of the eight; past the last one it counts as 0
pub type-small : (T : Tables) → types_right_lem T ≡ true → (x : ℕ) → variable_type_lem T x < type_codes
unfolding types_right_lem
type-small T h x = go (leb (length vs) x) refl
  where
    vs : List ℕ
    vs = T.variables

    known : every type_right vs ≡ true
    known =
        let fields = every field_right T.fields in
        and_right fields (every type_right vs) (and_left (fields && every type_right vs) (every array_right_lem T.arrays) h)

    go : (b : Bool) → leb (length vs) x ≡ b → get_or vs x 0 < type_codes
    go true e = rw (get_or-eq_default vs 0 (leb-true (length vs) x e)) (omega arith)
    go false e = ltb-true (get_or vs x 0) type_codes (every-at type_right 0 vs known x (leb-false (length vs) x e))

-- the statement of the list with a label
pub stmt-at : (T : Tables) (i : ℕ) → get_or (stmts_of T) i end ≡ stmt_of T (statement_of T i)
unfolding stmt_of kind_of
stmt-at T i = get_or-map (stmt_of T) T.statements i no_statement
