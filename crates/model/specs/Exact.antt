-- The exact run (document 01: the whole-number run): the steps of the run, with a whole number and the places of its
-- making beside each value. It is fed the program, the input, the limit, the choices and the log's length.
use Rattle.std.specs.Prelude.{Bool, true, false, ◌&&◌, ◌||◌, not, cond, List, [], ◌∷◌, ◌++◌, ℕ, zero, suc, ◌+◌, ◌/◌, ◌%◌, eqb, ℤ, pos, length, get_or}
use Rattle.arith.specs.declared.Op.TheVariants.{Convert}
use Rattle.arith.specs.Step.{exact_of_lem, overflows}
use Rattle.arith.specs.Words.{immediate}
use Rattle.model.specs.Sizes.{record_size}
use Rattle.model.specs.Refusals.{Out, ok, ◌>>=◌}
use Rattle.model.specs.Values.{Val, step_op}
use Rattle.model.specs.Code.{Right, number, copy, calc, change, read, load, Instr, assign, store, site, Code, done, step, branch, loop}
use Rattle.model.specs.Program.{Program, Tables, read_program}
use Rattle.model.specs.Input.{Input, read_input}
use Rattle.model.specs.Run.{State, zeros, index, Next, go, halt, exec, append, permit, room_left, taken, choices_of, Origins, label_of, quiet, due, settled, origins_of}

-- a whole number, and the set of places in the list of steps from which it came
pub record Made : Type 0 where
  pub total : ℤ
  pub places : List ℕ

-- a number that no step made
abbrev pub given : ℤ → Made
given z = record { total = z; places = [] }

-- beside each variable and cell
pub record Store : Type 0 where
  pub vars : ℕ → Made
  pub cells : ℕ → ℕ → ℕ → Made

-- at first 0 and empty
abbrev pub nothing : Store
nothing = record { vars = λ x. given (pos 0); cells = λ r k i. given (pos 0) }

-- a variable changed
abbrev pub make_var : Store → ℕ → Made → Store
make_var τ a m = record { vars = λ x. cond (eqb x a) m (τ.vars x); cells = τ.cells }

-- a cell changed
abbrev pub make_cell : Store → ℕ → ℕ → ℕ → Made → Store
make_cell τ r k i m = record { vars = τ.vars; cells = λ s j n. cond (eqb s r && eqb j k && eqb n i) m (τ.cells s j n) }

-- sets of places
abbrev pub member : ℕ → List ℕ → Bool
member p [] = false
member p (q ∷ qs) = eqb p q || member p qs

-- a set with one place more
abbrev pub put : ℕ → List ℕ → List ℕ
put p qs = cond (member p qs) qs (p ∷ qs)

-- the union of two sets
abbrev pub both : List ℕ → List ℕ → List ℕ
both [] qs = qs
both (p ∷ ps) qs = put p (both ps qs)

-- the next choice
abbrev pub first : List ℕ → ℕ
first [] = 0
first (c ∷ ch) = c

-- what a step makes: σ's wrapped values choose the cell, `place` is this step's place
unfoldable pub make : Input → State → List ℕ → ℕ → Instr → Store → Store
make I σ ch place (assign a ty (number i)) τ = make_var τ a (given (immediate ty i))
make I σ ch place (assign a ty (copy b)) τ = make_var τ a (τ.vars b)
make I σ ch place (assign a ty (calc o b c)) τ =
    make_var τ a (record { total = exact_of_lem (step_op o) (τ.vars b).total (τ.vars c).total; places = put place (both (τ.vars b).places (τ.vars c).places) })
make I σ ch place (assign a ty (change b u)) τ = make_var τ a (record { total = (τ.vars b).total; places = put place (τ.vars b).places })
make I σ ch place (assign a ty (read f)) τ = make_var τ a (given (get_or (I f) (first ch % length (I f)) (pos 0)))
make I σ ch place (assign a ty (load r k i)) τ = make_var τ a (τ.cells r k (index σ k i))
make I σ ch place (store r k i x ty) τ = make_cell τ r k (index σ k i) (τ.vars x)
make I σ ch place (site a ty) τ = τ

-- does the step overflow on its wrapped operands?
unfoldable pub over : State → Instr → Bool
over σ (assign a ty (number i)) = false
over σ (assign a ty (copy b)) = false
over σ (assign a ty (calc o b c)) = overflows (step_op o) ty (σ.vars b).num (σ.vars c).num
over σ (assign a ty (change b u)) = overflows Convert ty (σ.vars b).num (pos 0)
over σ (assign a ty (read f)) = false
over σ (assign a ty (load r k i)) = false
over σ (store r k i x ty) = false
over σ (site a ty) = false

-- the steps taken, the last first: did each overflow? A place counts from the first.
abbrev pub flag : List Bool → ℕ → Bool
flag [] p = false
flag (b ∷ H) p = cond (eqb p (length H)) b (flag H p)

-- how many of the places overflowed
abbrev pub overflow_count : List Bool → List ℕ → ℕ
overflow_count H [] = 0
overflow_count H (p ∷ ps) = cond (flag H p) 1 0 + overflow_count H ps

-- what is noted at a site: its label and type, the whole number, and how many places of its making overflowed
pub record Note : Type 0 where
  pub label : ℕ
  pub type : ℕ
  pub total : ℤ
  pub overflowed : ℕ

-- what a statement notes
unfoldable pub noted : ℕ → Instr → List Bool → Store → List Note
noted l (assign a ty r) H τ = []
noted l (store r k i x ty) H τ = []
noted l (site a ty) H τ = record { label = l; type = ty; total = (τ.vars a).total; overflowed = overflow_count H (τ.vars a).places } ∷ []

-- the run goes on, or ends
abbrev pub following : Next → (State → List ℕ → List Note) → List Note
following (go σ ch) f = f σ ch
following (halt c) f = []

-- what an assignment of a call makes: whole number and set go together
abbrev pub moved_store : Store → Instr → Store
moved_store τ (assign a ty (number n)) = make_var τ a (given (immediate ty n))
moved_store τ (assign a ty (copy b)) = make_var τ a (τ.vars b)
moved_store τ (assign a ty (calc o b c)) = τ
moved_store τ (assign a ty (change b u)) = τ
moved_store τ (assign a ty (read f)) = τ
moved_store τ (assign a ty (load r k x)) = τ
moved_store τ (store r k x y ty) = τ
moved_store τ (site a ty) = τ

-- what there is past the assignments of calls that a piece of program begins with
unfoldable pub settled_store : Origins → Store → Code → Store
settled_store o τ done = τ
settled_store o τ (step l i rest) = cond (quiet (o l) i) (settled_store o (moved_store τ i) rest) τ
settled_store o τ (branch l v y n rest) = τ
settled_store o τ (loop l v body rest) = τ

-- the notes of one step, and then the run goes on
abbrev pub noting : Input → Origins → ℕ → State → Store → List Bool → Code → List ℕ → (ℕ → State → Store → List Bool → Code → List ℕ → List Note) → List Note
noting I o room σ τ H done ch next = []
noting I o room σ τ H (step l i rest) ch next =
    following (permit room i (exec I σ i ch))
    (λ σ' ch'. noted (label_of (o l)) i H τ ++ next (room_left room i) σ' (make I σ ch (length H) i τ) (over σ i ∷ H) rest ch')
noting I o room σ τ H (branch l v y m rest) ch next = next room σ τ (false ∷ H) (cond (taken σ v) (append y rest) (append m rest)) ch
noting I o room σ τ H (loop l v body rest) ch next = next room σ τ (false ∷ H) (cond (taken σ v) (append body (loop l v body rest)) rest) ch

-- the notes of a run of at most n steps with room for so many lines
unfoldable pub notes : Input → Origins → ℕ → ℕ → State → Store → List Bool → Code → List ℕ → List Note
notes I o zero room σ τ H c ch = []
notes I o (suc n) room σ τ H c ch =
    noting I o room (settled o σ c) (settled_store o τ c) H (due o c) ch (λ r σ' τ' H' c' ch'. notes I o n r σ' τ' H' c' ch')

-- the exact run of a program's and an input's bytes with a limit, choices and a log of so many bytes, or the refusal
unfoldable pub exact_run : List ℕ → List ℕ → ℕ → List ℕ → ℕ → Out (List Note)
exact_run program input limit choices room =
    read_program program >>= λ P. read_input P.tables.fields input >>= λ I.
    ok (notes I (origins_of P) limit (room / record_size) zeros nothing [] P.code (choices_of choices))
