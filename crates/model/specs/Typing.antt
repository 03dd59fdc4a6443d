-- Statements in which numbers name something and types agree, as checks 4 to 7 leave them, and values inside their types.
use Rattle.std.specs.Prelude.{◌≡◌, true, false, List, ◌++◌, map, ℕ, ◌<◌, length}
use Rattle.arith.specs.Types.{signed}
use Rattle.arith.specs.Step.{fits}
use Rattle.arith.specs.Words.{immediate}
use Rattle.model.specs.Lists.{All}
use Rattle.model.specs.Code.{Right, number, copy, calc, change, read, load, Instr, assign, store, site, Code, done, step, branch, loop, Stmt, plain, if, else, end, while}
use Rattle.model.specs.Inlined.{Row}
use Rattle.model.specs.Program.{Tables, variable_type_lem, field_type_lem, array_of}
use Rattle.model.specs.Input.{Input}
use Rattle.model.specs.Run.{State}

module _ (P : Instr → Type 0) where
  -- P of every statement of kinds 0 to 10
  abbrev pub Each : Code → Type 0
  Each done = Unit {0}
  Each (step l i rest) = P i × Each rest
  Each (branch l v y n rest) = Each y × Each n × Each rest
  Each (loop l v body rest) = Each body × Each rest

  -- P of the statement, if it is of these kinds
  abbrev pub AtPlain : Stmt → Type 0
  AtPlain (plain i) = P i
  AtPlain (if v) = Unit {0}
  AtPlain else = Unit {0}
  AtPlain end = Unit {0}
  AtPlain (while v) = Unit {0}

module _ (T : Tables) where
  -- a variable of a type
  abbrev pub TypedVar : ℕ → ℕ → Type 0
  TypedVar x ty = (variable_type_lem T x ≡ ty) × (ty < 8)

  -- an array of a type
  abbrev pub TypedArray : ℕ → ℕ → Type 0
  TypedArray r ty = ((array_of T r).ty ≡ ty) × (ty < 8)

  -- a field of a type
  abbrev pub TypedField : ℕ → ℕ → Type 0
  TypedField f ty = (field_type_lem T f ≡ ty) × (f < length T.fields)

  -- an array of a length, and an index of an unsigned type
  abbrev pub Indexed : ℕ → ℕ → ℕ → Type 0
  Indexed r k i = ((array_of T r).len ≡ k) × (signed (variable_type_lem T i) ≡ false)

  -- a right side of a type
  abbrev pub TypedRight : ℕ → Right → Type 0
  TypedRight ty (number i) = fits ty (immediate ty i) ≡ true
  TypedRight ty (copy b) = TypedVar b ty
  TypedRight ty (calc o b c) = TypedVar b ty × TypedVar c ty
  TypedRight ty (change b u) = TypedVar b u
  TypedRight ty (read f) = TypedField f ty
  TypedRight ty (load r k i) = TypedArray r ty × Indexed r k i

  -- a statement in which types agree
  abbrev pub TypedInstr : Instr → Type 0
  TypedInstr (assign a ty r) = TypedVar a ty × TypedRight ty r
  TypedInstr (store r k i x ty) = TypedArray r ty × TypedVar x ty × Indexed r k i
  TypedInstr (site a ty) = TypedVar a ty

  -- a program of such statements
  abbrev pub Typed : Code → Type 0
  Typed c = Each TypedInstr c

  -- an input whose readings are inside their field's type
  abbrev pub TypedInput : Input → Type 0
  TypedInput I = (f : ℕ) → All (λ z. fits (field_type_lem T f) z ≡ true) (I f)

  -- every value is inside its type
  pub record InTypes (σ : State) : Type 0 where
    pub in_vars : (x : ℕ) → fits (variable_type_lem T x) (σ.vars x).num ≡ true
    pub in_cells : (r k i : ℕ) → fits (array_of T r).ty (σ.cells r k i).num ≡ true

-- ---- the inlined program

-- the type of the variable that a statement assigns
abbrev pub assigned : Stmt → ℕ
assigned (plain (assign a ty r)) = ty
assigned (plain (store r k i x ty)) = 0
assigned (plain (site a ty)) = 0
assigned (if v) = 0
assigned else = 0
assigned end = 0
assigned (while v) = 0

-- the types of the variables of its places
abbrev pub place_types : List Row → List ℕ
place_types rows = map (λ r. assigned r.stmt) rows

-- the tables with a variable for each place of the inlined program: of the type that the statement there assigns
abbrev pub widened : Tables → List Row → Tables
widened T rows = record { fields = T.fields; variables = T.variables ++ place_types rows; arrays = T.arrays; statements = T.statements }
