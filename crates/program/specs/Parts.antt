-- The procedures of a program in a table of words, two for each: the labels of its beginning and of its end.
use Rattle.std.specs.Prelude.{◌≡◌, Bool, ◌&&◌, List, [], ◌∷◌, ◌++◌, ℕ, zero, suc, Option, Some, None, ◌+◌, ◌-◌, ◌*◌, ◌≤◌, ◌<◌, length, get_or, take, drop}
use Rattle.model.specs.Lists.{every}
use Rattle.model.specs.Sizes.{most_statements}
use Rattle.model.specs.Refusals.{ok, refused, wrong_procedures}
use Rattle.model.specs.Code.{plain, if, else, end, while}
use Rattle.model.specs.Procedures.{Item, own, procedure, call, Procedure, Parts, between, parts_from, named, owns, calls_before_lem}
use Rattle.model.specs.Program.{Tables, items_of}
use Rattle.program.specs.Numbers.{procedure_kind}
use Rattle.program.specs.Reading.{statement_of, tables_of}
use Rattle.program.specs.declared.procedures.Main.{Main}

-- the statement with a label; past the last one an end
abbrev pub item_at : Tables → ℕ → Item
item_at T i = get_or (items_of T) i (own end)

-- ---- what the functions are given

-- a procedure begins at a label of a program with no more statements than may be
pub record Begins (s : List ℕ) (begin : ℕ) : Type 0 where
  pub few : length (tables_of s).statements ≤ most_statements
  pub label : begin < length (tables_of s).statements
  pub kind : (statement_of (tables_of s) begin).kind ≡ procedure_kind

-- two labels of a program, one behind the other
pub record Stretched (s : List ℕ) (begin end : ℕ) : Type 0 where
  pub later : begin < end
  pub inside : end ≤ length (tables_of s).statements

-- a table has room for the procedures of a program with no more statements than may be
pub record Tabled (s table : List ℕ) : Type 0 where
  pub few : length (tables_of s).statements ≤ most_statements
  pub room : length (tables_of s).statements ≤ length table

-- ---- one procedure

-- how many blocks are open behind a statement of a procedure, from those before it; the procedure counts as one
abbrev pub depth_after_lem : ℕ → Item → ℕ
depth_after_lem d (own (plain i)) = d
depth_after_lem d (own (if v)) = d + 1
depth_after_lem d (own else) = d
depth_after_lem d (own end) = d - 1
depth_after_lem d (own (while v)) = d + 1
depth_after_lem d (procedure n x k) = d
depth_after_lem d (call t p as') = d

-- the procedure with a beginning, and the statements before an end
abbrev pub procedure_between : Tables → (begin end : ℕ) → Procedure
procedure_between T b e =
    let q = statement_of T b in
    record { params = q.a; first = q.b; count = q.c; label = b + 1; body = take (e - (b + 1)) (drop (b + 1) (items_of T)) }

-- the statements of procedure number n use its own variables only and call earlier ones only
abbrev pub body_right_lem : ℕ → Procedure → Bool
body_right_lem n q = every (λ i. every (owns q) (named i)) q.body && every (calls_before_lem n) q.body

-- the procedure that begins at b ends at e
pub record EndsAt (T : Tables) (b e : ℕ) : Type 0 where
  pub later : b < e
  pub inside : e < length T.statements
  pub read : (ps : List Procedure) → parts_from b ps between (drop b (items_of T)) ≡ parts_from (e + 1) (ps ++ (procedure_between T b e ∷ [])) between (drop (e + 1) (items_of T))

-- where it ends, or that it does not
abbrev pub EndIs : Tables → ℕ → Option ℕ → Type 0
EndIs T b (Some e) = EndsAt T b e
EndIs T b None = (ps : List Procedure) → parts_from b ps between (drop b (items_of T)) ≡ refused wrong_procedures

-- ---- all of them

-- the labels of the procedure with a number, and the procedure
abbrev pub begin_in : List ℕ → ℕ → ℕ
begin_in t p = get_or t (2 * p) 0

abbrev pub end_in : List ℕ → ℕ → ℕ
end_in t p = get_or t (2 * p + 1) 0

abbrev pub procedure_in_lem : Tables → List ℕ → ℕ → Procedure
procedure_in_lem T t p = procedure_between T (begin_in t p) (end_in t p)

-- the first n procedures of a table
unfoldable pub procedures_in : Tables → List ℕ → ℕ → List Procedure
procedures_in T t zero = []
procedures_in T t (suc n) = procedures_in T t n ++ (procedure_in_lem T t n ∷ [])

-- with the statements from a label on
abbrev pub parts_in : Tables → List ℕ → (label n : ℕ) → Parts
parts_in T t l n = record { procedures = procedures_in T t n; label = l; main = drop l (items_of T) }

-- a procedure lies before a label
pub record Between (T : Tables) (l b e : ℕ) : Type 0 where
  pub begins : (statement_of T b).kind ≡ procedure_kind
  pub later : b < e
  pub before : e < l

-- the parts of a program: n procedures by a table, and the statements from the label l on
pub record PartsAre (T : Tables) (t : List ℕ) (l n : ℕ) : Type 0 where
  pub read : parts_from 0 [] between (items_of T) ≡ ok (parts_in T t l n)
  pub inside : l ≤ length T.statements
  pub two_each : 2 * n ≤ l
  pub each : (p : ℕ) → p < n → Between T l (begin_in t p) (end_in t p)

-- the parts by an answer, or that they are refused
abbrev pub PartsBy : Tables → List ℕ → Option Main → Type 0
PartsBy T t (Some m) = PartsAre T t m.label m.procedures
PartsBy T t None = parts_from 0 [] between (items_of T) ≡ refused wrong_procedures

-- the parts of a program with no more statements than may be, in a table that has room for them
pub record PartsListed (s t : List ℕ) (m : Main) : Type 0 where
  pub few : length (tables_of s).statements ≤ most_statements
  pub room : length (tables_of s).statements ≤ length t
  pub parts : PartsAre (tables_of s) t m.label m.procedures
