-- What a caller knows of a program that is read: its layout, its counts and what checks 4 to 8 and 16 left.
use mathlib.Core.Path.{◌≡◌, sym, ap, subst, ◌∙◌}
use mathlib.Core.Bool.{true, ◌&&◌}
use mathlib.Core.List.{List}
use Prim.Native.Nat.{ℕ, ◌≤◌, ◌<◌}
use borrow.Author.Tests.{leb-true}
use lib.Dec.{leb}
use lib.ListN.{length}
use Rattle.model.specs.Sizes.{most_fields, most_variables, most_arrays, most_statements}
use Rattle.model.specs.Lists.{every}
use Rattle.model.specs.Refusals.{ok, mapped}
use Rattle.model.specs.Program.{Tables, counts_right_lem, types_right_lem, form_right_lem, Program, read_outline, read_program}
use Rattle.model.proofs.Basics.Results.{mapped-ok}
use Rattle.model.proofs.Basics.Tests.{and_left, and_right}
use Rattle.model.proofs.Basics.Every.{every-at}
use Rattle.model.proofs.Files.Checked.{Outlined, outline_checked, program_checked}
use Rattle.program.specs.Reading.{bytes_answer, tables_of, no_statement, statement_of, ProgramIsRead}
use Rattle.std.specs.Prelude.{Result, Ok}
use Rattle.refusals.specs.declared.Refusal.{Refusal}

-- the reader's answer, where it is a program: these bytes
pub is_read : (s : List ℕ) (r : Result (List ℕ) Refusal) (p : List ℕ) → bytes_answer r ≡ mapped (λ O. s) (read_outline s) → r ≡ Ok p
    → (p ≡ s) × ProgramIsRead s
is_read s r p h e =
    let k = mapped-ok (λ O. s) (read_outline s) p (sym h ∙ ap bytes_answer e) in
    (sym k.2, record { outline = k.0; read = k.1 })

-- no table has too many entries
pub record FewEntries (T : Tables) : Type 0 where
  pub fields : length T.fields ≤ most_fields
  pub variables : length T.variables ≤ most_variables
  pub arrays : length T.arrays ≤ most_arrays
  pub statements : length T.statements ≤ most_statements

pub few-entries : (T : Tables) → counts_right_lem T ≡ true → FewEntries T
unfolding counts_right_lem
few-entries T right =
    let f = leb (length T.fields) most_fields in
    let v = leb (length T.variables) most_variables in
    let a = leb (length T.arrays) most_arrays in
    let q = leb (length T.statements) most_statements in
    let w₃ = and_left (f && v && a) q right in
    let w₂ = and_left (f && v) a w₃ in
    record {
      fields = leb-true (length T.fields) most_fields (and_left f v w₂);
      variables = leb-true (length T.variables) most_variables (and_right f v w₂);
      arrays = leb-true (length T.arrays) most_arrays (and_right (f && v) a w₃);
      statements = leb-true (length T.statements) most_statements (and_right (f && v && a) q right);
    }

module _ (s : List ℕ) where
  pub tables-read : (P : Program) → read_program s ≡ ok P → P.tables ≡ tables_of s
  tables-read P e = (program_checked s P e).outlined.tables

  module _ (h : ProgramIsRead s) where
    abbrev T : Tables
    T = tables_of s

    checked : Outlined s h.outline
    checked = outline_checked s h.outline h.read

    same : h.outline.tables ≡ T
    same = checked.tables

    pub counts-known : FewEntries T
    counts-known = few-entries T (subst (λ (U : Tables). counts_right_lem U ≡ true) same checked.counts)

    pub types-known : types_right_lem T ≡ true
    types-known = subst (λ (U : Tables). types_right_lem U ≡ true) same checked.types

    -- the form of a statement
    pub form-known : (i : ℕ) → i < length T.statements → form_right_lem T (statement_of T i) ≡ true
    form-known i k =
        every-at (form_right_lem T) no_statement T.statements (subst (λ (U : Tables). every (form_right_lem U) U.statements ≡ true) same checked.forms) i k
