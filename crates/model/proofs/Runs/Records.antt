-- The log's bytes, read back, are the records that the run appended; and in every run a record is marked if and only if a step of
-- its value's making overflowed.
use mathlib.Core.Path.{◌≡◌, refl, sym, ◌∙◌, ap, ap₂, subst}
use mathlib.Core.Bool.{Bool, true, false, ◌&&◌, cond}
use mathlib.Core.List.{List, [], ◌∷◌, ◌++◌, map, flat_map, append_assoc, Forall₂}
use Prim.Native.Nat.{ℕ, suc, ◌*◌, ◌/◌}
use native.Mathlib.Omega.{arith}
use lib.Dec.{ltb}
use lib.IntN.{pos}
use lib.ListN.{length, get_or, drop}
use Rattle.arith.specs.Step.{fits}
use Rattle.arith.specs.Words.{word_of, value_at}
use Rattle.arith.proofs.WrapLaws.{wrap-fits, fits_word}
use Rattle.model.specs.Lists.{All}
use Rattle.model.specs.Refusals.{Out, ok, ◌>>=◌, wrong_input}
use Rattle.model.specs.Bytes.{bytes2, bytes4, bytes8, Pair, pair_at, pairs_at, chained}
use Rattle.model.specs.Fields.{types_in}
use Rattle.model.specs.Program.{Tables, Program, field_type_lem, read_program}
use Rattle.model.specs.Input.{Input, width, bits_at, reading_at_lem, readings_of, lengths_right, bits_right_lem, read_input}
use Rattle.model.specs.Run.{zeros, Line, execute, mark_byte, record_bytes, written, choices_of, Ran, ran_of, origins_of, run}
use Rattle.model.specs.Exact.{nothing, Note, notes, exact_run}
use Rattle.model.specs.Demands.{Record, record_at, records_of_lem, Marks, MarkExact}
use Rattle.model.specs.Typing.{TypedInput}
use Rattle.model.proofs.Files.Checked.{program_checked}
use Rattle.model.proofs.Procedures.Programs.{wide, program-typed}
use Rattle.model.proofs.Runs.Follow.{Follows, run-alike, begin}
use Rattle.model.proofs.Basics.Lists.{entries-all}
use Rattle.model.proofs.Basics.LittleEndian.{two_back, u64_bytes8}
use Rattle.model.proofs.Basics.Results.{check-ok, bind_ok, ok_eq}
use Rattle.model.proofs.Basics.Tests.{case}
use Rattle.model.proofs.Runs.Typed.{run_inside, zeros-inside}

-- ---- the bytes of the log

-- the record that a line makes
abbrev pub record_of : Line → Record
record_of r = record { label = r.label; mark = mark_byte r.value.mark; pad = 0; word = word_of r.value.num }

record_back : (r : Line) (s : List ℕ) → record_at (record_bytes r ++ s) ≡ record_of r
unfolding record_bytes bytes2 bytes8 bytes4
record_back r s =
    λ i. record { label = two_back r.label i; mark = mark_byte r.value.mark; pad = 0; word = u64_bytes8 (word_of r.value.num) s i }

record_past : (r : Line) (s : List ℕ) → drop 12 (record_bytes r ++ s) ≡ s
unfolding record_bytes bytes2 bytes8 bytes4
record_past r s = refl

pub records-back : (rs : List Line) (s : List ℕ) → records_of_lem (length rs) (flat_map record_bytes rs ++ s) ≡ map record_of rs
unfolding records_of_lem flat_map
records-back [] s = refl
records-back (r ∷ rs) s =
    let rest = flat_map record_bytes rs ++ s in
    ap (records_of_lem (suc (length rs))) (append_assoc (record_bytes r) (flat_map record_bytes rs) s)
    ∙ ap₂ ◌∷◌ (record_back r rest) (ap (records_of_lem (length rs)) (record_past r rest) ∙ records-back rs s)

-- ---- marks

mark-zero : (b : Bool) → mark_byte b ≡ 0 → b ≡ false
mark-zero true e = absurd (omega arith)
mark-zero false e = refl

zero-mark : (b : Bool) → b ≡ false → mark_byte b ≡ 0
zero-mark b e = ap mark_byte e

-- a line inside its type, and what is noted beside it
line_marks : (r : Line) (w : Note) → fits r.type r.value.num ≡ true → Follows r w → Marks (record_of r) w
line_marks r w inside h = record {
  label = h.label;
  mark = (λ e. h.clean (mark-zero r.value.mark e), λ e. zero-mark r.value.mark (h.marked e));
  pad = refl;
  number = λ e. ap (λ t. value_at t (word_of r.value.num)) (sym h.type) ∙ fits_word r.type r.value.num inside ∙ sym (h.number (mark-zero r.value.mark e));
}

lines_marks : {rs : List Line} {ws : List Note} → Forall₂ Follows rs ws → All (λ r. fits r.type r.value.num ≡ true) rs
    → Forall₂ Marks (map record_of rs) ws
lines_marks Forall₂.nil k = Forall₂.nil
lines_marks (Forall₂.cons {a = r} {b = w} h t) k = Forall₂.cons (line_marks r w k.0 h) (lines_marks t k.1)

-- ---- the readings of an input are inside their types

readings-typed : (ty : ℕ) (s : List ℕ) (p : Pair) → All (λ z. fits ty z ≡ true) (readings_of ty s p)
unfolding readings_of reading_at_lem
readings-typed ty s p = entries-all (λ z. fits ty z ≡ true) (reading_at_lem ty) (λ s a. wrap-fits ty (pos (bits_at ty s a))) (width ty) s p.offset (p.len / width ty)

pub input-typed : (T : Tables) (s : List ℕ) (I : Input) → read_input T.fields s ≡ ok I → TypedInput T I
unfolding read_input
input-typed T s I e f =
    let types = types_in T.fields in
    let n = length T.fields in
    let pairs = pairs_at s 0 n in
    let J : Input = λ f. cond (ltb f n) (readings_of (get_or types f 0) s (pair_at s (8 * f))) [] in
    let right = check-ok (chained (8 * n) pairs (length s) && lengths_right types pairs && bits_right_lem T.fields s pairs) wrong_input (ok J) I e in
    subst (λ (K : Input). All (λ z. fits (field_type_lem T f) z ≡ true) (K f)) (ok_eq J I right.1)
    (case (ltb f n) (λ b. All (λ z. fits (field_type_lem T f) z ≡ true) (cond b (readings_of (get_or types f 0) s (pair_at s (8 * f))) []))
    (λ q. readings-typed (field_type_lem T f) s (pair_at s (8 * f))) (λ q. tt))

-- ---- the theorem

-- what a run that is not refused ran on, and what it gave
pub record Runs (program input : List ℕ) (limit : ℕ) (choices log : List ℕ) (ran : Ran) : Type 0 where
  pub P : Program
  pub I : Input
  pub reads : read_program program ≡ ok P
  pub reads_input : read_input P.tables.fields input ≡ ok I
  pub gives : ran_of (execute I (origins_of P) limit (length log / 12) zeros P.code (choices_of choices)) log ≡ ran

pub run_runs : (program input : List ℕ) (limit : ℕ) (choices log : List ℕ) (ran : Ran) → run program input limit choices log ≡ ok ran
    → Runs program input limit choices log ran
unfolding run
run_runs program input limit choices log ran e =
    let on_input_lem : (P : Program) → Input → Out Ran = λ P I. ok (ran_of (execute I (origins_of P) limit (length log / 12) zeros P.code (choices_of choices)) log) in
    let p = bind_ok (read_program program) (λ P. read_input P.tables.fields input >>= on_input_lem P) ran e in
    let q = bind_ok (read_input p.0.tables.fields input) (on_input_lem p.0) ran p.2 in
    let E = execute q.0 (origins_of p.0) limit (length log / 12) zeros p.0.code (choices_of choices) in
    record { P = p.0; I = q.0; reads = p.1; reads_input = q.1; gives = ok_eq (ran_of E log) ran q.2 }

module _ (program input : List ℕ) (limit : ℕ) (choices log : List ℕ) (ran : Ran) (r : Runs program input limit choices log ran) where
  -- the lines of the run
  unfoldable pub lines_of : List Line
  lines_of = (execute r.I (origins_of r.P) limit (length log / 12) zeros r.P.code (choices_of choices)).log

  -- the notes of the exact run
  unfoldable pub notes_of : List Note
  notes_of = notes r.I (origins_of r.P) limit (length log / 12) zeros nothing [] r.P.code (choices_of choices)

  pub exact-notes : exact_run program input limit choices (length log) ≡ ok notes_of
  unfolding exact_run notes_of
  exact-notes = rw (r.reads, r.reads_input)

  pub ran-records : records_of_lem ran.records ran.log ≡ map record_of lines_of
  unfolding written ran_of lines_of
  ran-records = subst (λ x. records_of_lem x.records x.log ≡ map record_of lines_of) r.gives (records-back lines_of (drop (12 * length lines_of) log))

  pub lines_follow : Forall₂ Follows lines_of notes_of
  unfolding lines_of notes_of
  lines_follow = run-alike r.I (origins_of r.P) limit (length log / 12) [] zeros nothing r.P.code (choices_of choices) (begin r.I)

  pub lines-inside : All (λ l. fits l.type l.value.num ≡ true) lines_of
  unfolding lines_of
  lines-inside =
      let c = program_checked program r.P r.reads in
      let T = wide program r.P c in
      let typed = input-typed T input r.I r.reads_input in
      run_inside T r.I typed (origins_of r.P) limit (length log / 12) zeros r.P.code (choices_of choices) (zeros-inside T r.I typed)
      (program-typed program r.P c)

  pub ran_marks : Forall₂ Marks (records_of_lem ran.records ran.log) notes_of
  ran_marks = subst (λ rs. Forall₂ Marks rs notes_of) (sym ran-records) (lines_marks lines_follow lines-inside)

pub mark-exact : MarkExact
mark-exact program input limit choices log ran e =
    let r = run_runs program input limit choices log ran e in
    record {
      notes = notes_of program input limit choices log ran r;
      is-run = exact-notes program input limit choices log ran r;
      each = ran_marks program input limit choices log ran r;
    }
