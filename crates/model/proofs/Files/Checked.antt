-- What checks 2 to 8 and 16 leave of a program: each test passes, and so numbers name something and types agree in every statement.
use mathlib.Core.Path.{◌≡◌, refl, sym, subst}
use mathlib.Core.Bool.{Bool, true, false, ◌&&◌, not}
use mathlib.Core.List.{List, [], ◌∷◌}
use Prim.Native.Nat.{ℕ, ◌≤◌, ◌<◌}
use lib.Dec.{leb, ltb, eqb}
use lib.ListN.{length}
use borrow.Author.Tests.{leb-true, ltb-true, eqb-true}
use Rattle.arith.specs.Types.{signed}
use Rattle.model.specs.Lists.{All, every}
use Rattle.model.specs.Refusals.{Out, ok, ◌>>=◌, check, instead}
use Rattle.model.specs.Refusals.{wrong_sections, too_many_entries, wrong_types, wrong_statement, types_disagree, wrong_immediate, wrong_blocks, wrong_procedures}
use Rattle.model.specs.Code.{Code, tree_of}
use Rattle.model.specs.Procedures.{own, named, Block, open_after, all_closed, Parts, between, parts_from, parts_right_lem}
use Rattle.model.specs.Inlined.{stmts_in, origins_in}
use Rattle.model.specs.Fields.{field_right}
use Rattle.model.specs.Program.{Statement, Tables, tables_at, layout_of, sections_right, counts_right_lem, type_right, array_right_lem, types_right_lem}
use Rattle.model.specs.Program.{is_variable_lem, is_field, is_array, unused, form_of, form_right_lem, variable_type_lem, field_type_lem, array_of, alike, cell_alike}
use Rattle.model.specs.Program.{agree_of, types_agree_lem, immediate_of, immediate_right_lem, meaning_of, stmt_of, items_of}
use Rattle.model.specs.Program.{inlined_rows, program_of, inlined_program, Outline, read_outline, Program, read_program}
use Rattle.model.specs.Kinds.{Kind, a_number, a_copy, an_operation, a_conversion, a_read, a_load, a_store, a_site, an_if, an_else, an_end, a_while, a_procedure, a_call, no_kind_lem, kind_of}
use Rattle.model.specs.Sizes.{most_fields, most_variables, most_arrays, most_cells, most_statements, most_rows}
use Rattle.model.specs.Typing.{AtPlain, Indexed, TypedInstr}
use Rattle.model.proofs.Basics.Every.{every-all}
use Rattle.model.proofs.Basics.Lists.{all_get_d}
use Rattle.model.proofs.Basics.Results.{ok_eq, refused-ok, check-ok, bind_ok, instead-ok}
use Rattle.model.proofs.Basics.Tests.{and_left, and_right}

-- ---- a program that is listed

-- what checks 2 to 8, and 16 of the procedures, leave of it
pub record Outlined (s : List ℕ) (O : Outline) : Type 0 where
  pub tables : O.tables ≡ tables_at s (layout_of s)
  pub sections : sections_right s ≡ true
  pub counts : counts_right_lem O.tables ≡ true
  pub types : types_right_lem O.tables ≡ true
  pub forms : every (form_right_lem O.tables) O.tables.statements ≡ true
  pub agree : every (types_agree_lem O.tables) O.tables.statements ≡ true
  pub immediates : every (immediate_right_lem O.tables) O.tables.statements ≡ true
  pub blocks : open_after [] (items_of O.tables) ≡ ok []
  pub parted : parts_from 0 [] between (items_of O.tables) ≡ ok O.parts
  pub right : parts_right_lem O.parts ≡ true

closed_none : (bs cs : List Block) → all_closed bs ≡ ok cs → bs ≡ []
closed_none [] cs e = refl
closed_none (b ∷ bs) cs e = absurd (refused-ok wrong_blocks cs e)

pub outline_checked : (s : List ℕ) (O : Outline) → read_outline s ≡ ok O → Outlined s O
unfolding read_outline
outline_checked s O e =
    let T = tables_at s (layout_of s) in
    let whole : Parts → Out Outline = λ Q. ok (record { tables = T; parts = Q }) in
    let o₁₆ : Parts → Out Outline = λ Q. check (parts_right_lem Q) wrong_procedures (whole Q) in
    let o₉ : List Block → Out Outline = λ none. parts_from 0 [] between (items_of T) >>= o₁₆ in
    let o₈ : Out Outline = open_after [] (items_of T) >>= all_closed >>= o₉ in
    let o₇ : Out Outline = check (every (immediate_right_lem T) T.statements) wrong_immediate o₈ in
    let o₆ : Out Outline = check (every (types_agree_lem T) T.statements) types_disagree o₇ in
    let o₅ : Out Outline = check (every (form_right_lem T) T.statements) wrong_statement o₆ in
    let o₄ : Out Outline = check (types_right_lem T) wrong_types o₅ in
    let o₃ : Out Outline = check (counts_right_lem T) too_many_entries o₄ in
    let c₂ = check-ok (sections_right s) wrong_sections o₃ O e in
    let c₃ = check-ok (counts_right_lem T) too_many_entries o₄ O c₂.1 in
    let c₄ = check-ok (types_right_lem T) wrong_types o₅ O c₃.1 in
    let c₅ = check-ok (every (form_right_lem T) T.statements) wrong_statement o₆ O c₄.1 in
    let c₆ = check-ok (every (types_agree_lem T) T.statements) types_disagree o₇ O c₅.1 in
    let c₇ = check-ok (every (immediate_right_lem T) T.statements) wrong_immediate o₈ O c₆.1 in
    let c₈ = bind_ok (open_after [] (items_of T) >>= all_closed) o₉ O c₇.1 in
    let left = bind_ok (open_after [] (items_of T)) all_closed c₈.0 c₈.1 in
    let c₉ = bind_ok (parts_from 0 [] between (items_of T)) o₁₆ O c₈.2 in
    let c₁₆ = check-ok (parts_right_lem c₉.0) wrong_procedures (whole c₉.0) O c₉.2 in
    let r : Outline = record { tables = T; parts = c₉.0 } in
    let z : Outlined s r = record {
      tables = refl {a = T};
      sections = c₂.0;
      counts = c₃.0;
      types = c₄.0;
      forms = c₅.0;
      agree = c₆.0;
      immediates = c₇.0;
      blocks = subst (λ bs. open_after [] (items_of T) ≡ ok bs) (closed_none left.0 c₈.0 left.2) left.1;
      parted = c₉.1;
      right = c₁₆.0;
    } in
    subst (Outlined s) {x = r} (ok_eq r O c₁₆.1) z

-- ---- a program that is read

-- its outline, and what check 16 leaves of the inlined program
pub record Checked (s : List ℕ) (P : Program) : Type 0 where
  pub parts : Parts
  pub listed : read_outline s ≡ ok (record { tables = P.tables; parts = parts })
  pub outlined : Outlined s (record { tables = P.tables; parts = parts })
  pub short : leb (length (inlined_rows P.tables parts)) most_rows ≡ true
  pub tree : tree_of (stmts_in (inlined_rows P.tables parts)) ≡ ok P.code
  pub origins : P.origins ≡ origins_in (inlined_rows P.tables parts)

pub program_checked : (s : List ℕ) (P : Program) → read_program s ≡ ok P → Checked s P
unfolding read_program program_of
program_checked s P e =
    let o = bind_ok (read_outline s) inlined_program P e in
    let O = o.0 in
    let rows = inlined_rows O.tables O.parts in
    let whole : Code → Out Program = λ c. ok (record { tables = O.tables; code = c; origins = origins_in rows }) in
    let few = check-ok (leb (length rows) most_rows) wrong_procedures (instead wrong_procedures (tree_of (stmts_in rows)) >>= whole) P o.2 in
    let c = bind_ok (instead wrong_procedures (tree_of (stmts_in rows))) whole P few.1 in
    let r : Program = record { tables = O.tables; code = c.0; origins = origins_in rows } in
    let z : Checked s r = record {
      parts = O.parts;
      listed = o.1;
      outlined = outline_checked s O o.1;
      short = few.0;
      tree = instead-ok wrong_procedures (tree_of (stmts_in rows)) c.0 c.1;
      origins = refl {a = origins_in rows};
    } in
    subst (Checked s) {x = r} (ok_eq r P c.2) z

-- ---- the fields

-- at most 32
pub few-fields : (T : Tables) → counts_right_lem T ≡ true → length T.fields ≤ most_fields
unfolding counts_right_lem
few-fields T e =
    let f = leb (length T.fields) most_fields in
    let v = leb (length T.variables) most_variables in
    let r = leb (length T.arrays) most_arrays in
    leb-true (length T.fields) most_fields (and_left f v (and_left (f && v) r (and_left (f && v && r) (leb (length T.statements) most_statements) e)))

-- ---- one statement

module _ (T : Tables) (known : types_right_lem T ≡ true) where
  pub fields-known : All (λ F. field_right F ≡ true) T.fields
  unfolding types_right_lem
  fields-known =
      let two = every field_right T.fields && every type_right T.variables in
      every-all field_right T.fields (and_left (every field_right T.fields) (every type_right T.variables) (and_left two (every array_right_lem T.arrays) known))

  variables-known : All (λ t. type_right t ≡ true) T.variables
  unfolding types_right_lem
  variables-known =
      let two = every field_right T.fields && every type_right T.variables in
      every-all type_right T.variables (and_right (every field_right T.fields) (every type_right T.variables) (and_left two (every array_right_lem T.arrays) known))

  arrays-known : All (λ r. array_right_lem r ≡ true) T.arrays
  unfolding types_right_lem
  arrays-known = every-all array_right_lem T.arrays (and_right (every field_right T.fields && every type_right T.variables) (every array_right_lem T.arrays) known)

  -- a variable that there is has a type
  pub variable-type : (x : ℕ) → ltb x (length T.variables) ≡ true → variable_type_lem T x < 8
  variable-type x h = ltb-true (variable_type_lem T x) 8 (all_get_d (λ t. type_right t ≡ true) T.variables x 0 variables-known (ltb-true x (length T.variables) h))

  array-type : (r : ℕ) → ltb r (length T.arrays) ≡ true → (array_of T r).ty < 8
  array-type r h =
      let A = array_of T r in
      let right = all_get_d (λ r. array_right_lem r ≡ true) T.arrays r (record { ty = 0; pad = 0; len = 0 }) arrays-known (ltb-true r (length T.arrays) h) in
      let three = type_right A.ty && eqb A.pad 0 && leb 1 A.len in
      let two = type_right A.ty && eqb A.pad 0 in
      ltb-true A.ty 8 (and_left (type_right A.ty) (eqb A.pad 0) (and_left two (leb 1 A.len) (and_left three (leb A.len most_cells) right)))

  -- the parts of a form
  row-a : (p q r s : Bool) → (p && q && r && s) ≡ true → p ≡ true
  row-a p q r s e = and_left p q (and_left (p && q) r (and_left (p && q && r) s e))

  row-b : (p q r s : Bool) → (p && q && r && s) ≡ true → q ≡ true
  row-b p q r s e = and_right p q (and_left (p && q) r (and_left (p && q && r) s e))

  row-c : (p q r s : Bool) → (p && q && r && s) ≡ true → r ≡ true
  row-c p q r s e = and_right (p && q) r (and_left (p && q && r) s e)

  module _ (q : Statement) where
    abbrev a : ℕ
    a = q.a

    abbrev b : ℕ
    b = q.b

    abbrev c : ℕ
    c = q.c

    abbrev is_v : ℕ → Bool
    is_v x = is_variable_lem T x

    abbrev free : ℕ → Bool
    free x = unused x

    abbrev ty : ℕ
    ty = variable_type_lem T a

    -- an array and a variable of its type
    cell-array : (r x i : ℕ) → cell_alike T r x i ≡ true → (array_of T r).ty ≡ variable_type_lem T x
    cell-array r x i g =
        eqb-true (array_of T r).ty (variable_type_lem T x) (and_left (eqb (array_of T r).ty (variable_type_lem T x)) (not (signed (variable_type_lem T i))) g)

    -- an index of an unsigned type
    cell-index : (r x i : ℕ) → cell_alike T r x i ≡ true → Indexed T r (array_of T r).len i
    cell-index r x i g =
        (refl, not-true (signed (variable_type_lem T i)) (and_right (eqb (array_of T r).ty (variable_type_lem T x)) (not (signed (variable_type_lem T i))) g))
      where
        not-true : (t : Bool) → not t ≡ true → t ≡ false
        not-true true e = sym e
        not-true false e = refl

    -- the tests of a statement of each kind leave it typed
    kind-typed : (k : Kind) → form_of k T q ≡ true → agree_of k T q ≡ true → immediate_of k T q ≡ true → AtPlain (TypedInstr T) (meaning_of k T q)
    kind-typed a_number f g h = ((refl, variable-type a (and_left (is_v a) (free b) (and_left (is_v a && free b) (free c) f))), h)
    kind-typed a_copy f g h =
        let small = variable-type a (row-a (is_v a) (is_v b) (free c) (free q.imm) f) in
        ((refl, small), (eqb-true (variable_type_lem T b) ty g, small))
    kind-typed (an_operation o) f g h =
        let small = variable-type a (row-a (is_v a) (is_v b) (is_v c) (free q.imm) f) in
        let same-b = eqb-true (variable_type_lem T b) ty (and_left (alike T b a) (alike T c a) g) in
        let same-c = eqb-true (variable_type_lem T c) ty (and_right (alike T b a) (alike T c a) g) in
        ((refl, small), ((same-b, small), (same-c, small)))
    kind-typed a_conversion f g h =
        ((refl, variable-type a (row-a (is_v a) (is_v b) (free c) (free q.imm) f)), (refl, variable-type b (row-b (is_v a) (is_v b) (free c) (free q.imm) f)))
    kind-typed a_read f g h = (
      (refl, variable-type a (row-a (is_v a) (is_field T b) (free c) (free q.imm) f)),
      (eqb-true (field_type_lem T b) ty g, ltb-true b (length T.fields) (row-b (is_v a) (is_field T b) (free c) (free q.imm) f)),
    )
    kind-typed a_load f g h =
        let small = variable-type a (row-a (is_v a) (is_array T b) (is_v c) (free q.imm) f) in
        ((refl, small), ((cell-array b a c g, small), cell-index b a c g))
    kind-typed a_store f g h =
        let small = array-type a (row-a (is_array T a) (is_v b) (is_v c) (free q.imm) f) in
        ((refl, small), (sym (cell-array a c b g), small), cell-index a c b g)
    kind-typed a_site f g h = (refl, variable-type a (row-a (is_v a) (free b) (free c) (free q.imm) f))
    kind-typed an_if f g h = tt
    kind-typed an_else f g h = tt
    kind-typed an_end f g h = tt
    kind-typed a_while f g h = tt
    kind-typed a_procedure f g h = tt
    kind-typed a_call f g h = tt
    kind-typed no_kind_lem f g h = tt

    pub statement-typed : form_right_lem T q ≡ true → types_agree_lem T q ≡ true → immediate_right_lem T q ≡ true → AtPlain (TypedInstr T) (stmt_of T q)
    unfolding form_right_lem types_agree_lem immediate_right_lem stmt_of
    statement-typed = kind-typed (kind_of q.kind)

    -- ---- the variables that it names

    -- a variable that there is
    abbrev Below : ℕ → Type 0
    Below x = x < length T.variables

    is-variable : (x : ℕ) → is_v x ≡ true → Below x
    is-variable x e = ltb-true x (length T.variables) e

    first-named : (x y z : Bool) → (is_v a && x && y && z) ≡ true → Below a
    first-named x y z f = is-variable a (row-a (is_v a) x y z f)

    two_named : (is_v a && is_v b && free c && free q.imm) ≡ true → Below a × (Below b × Unit {0})
    two_named f = (first-named (is_v b) (free c) (free q.imm) f, (is-variable b (row-b (is_v a) (is_v b) (free c) (free q.imm) f), tt))

    kind-named : (k : Kind) → form_of k T q ≡ true → All Below (named (own (meaning_of k T q)))
    kind-named a_number f = (is-variable a (and_left (is_v a) (free b) (and_left (is_v a && free b) (free c) f)), tt)
    kind-named a_copy f = two_named f
    kind-named (an_operation o) f = (
      first-named (is_v b) (is_v c) (free q.imm) f,
      (is-variable b (row-b (is_v a) (is_v b) (is_v c) (free q.imm) f), (is-variable c (row-c (is_v a) (is_v b) (is_v c) (free q.imm) f), tt)),
    )
    kind-named a_conversion f = two_named f
    kind-named a_read f = (first-named (is_field T b) (free c) (free q.imm) f, tt)
    kind-named a_load f =
        (first-named (is_array T b) (is_v c) (free q.imm) f, (is-variable c (row-c (is_v a) (is_array T b) (is_v c) (free q.imm) f), tt))
    kind-named a_store f =
        (is-variable b (row-b (is_array T a) (is_v b) (is_v c) (free q.imm) f), (is-variable c (row-c (is_array T a) (is_v b) (is_v c) (free q.imm) f), tt))
    kind-named a_site f = (first-named (free b) (free c) (free q.imm) f, tt)
    kind-named an_if f = (first-named (free b) (free c) (free q.imm) f, tt)
    kind-named an_else f = tt
    kind-named an_end f = tt
    kind-named a_while f = (first-named (free b) (free c) (free q.imm) f, tt)
    kind-named a_procedure f = tt
    kind-named a_call f = tt
    kind-named no_kind_lem f = tt

    -- the variables that a statement names are there
    pub statement-named : form_right_lem T q ≡ true → All (λ x. x < length T.variables) (named (own (stmt_of T q)))
    unfolding form_right_lem stmt_of
    statement-named = kind-named (kind_of q.kind)
