-- Demand 3 over byte strings: an accepted program, an input that passes under its condition, and any run of the two.
use mathlib.Core.Path.{◌≡◌, sym, ◌∙◌, ap, subst}
use mathlib.Core.Bool.{true, false, ◌&&◌, cond}
use mathlib.Core.List.{List, [], ◌∷◌, map, Forall₂}
use Prim.Native.Nat.{ℕ, ◌≤◌, ◌/◌}
use lib.Dec.{leb}
use lib.ListN.{length}
use borrow.Author.Tests.{leb-true, ltb-true}
use Rattle.model.specs.Lists.{All, every}
use Rattle.model.specs.Refusals.{Out, ok, ◌>>=◌, check, too_many_combinations, blank_field}
use Rattle.model.specs.Conjunct.{Conjuncts}
use Rattle.model.specs.Walk.{derived}
use Rattle.model.specs.Program.{Program, Tables, counts_right_lem, read_program}
use Rattle.model.specs.Condition.{Condition, encode, read_condition, analysis}
use Rattle.model.specs.Input.{Input, read_input}
use Rattle.model.specs.Filter.{few_combinations, has_readings, holds, pass_number, held_number, filter_input}
use Rattle.model.specs.Run.{zeros, Line, mark_byte, choices_of, Ran, origins_of}
use Rattle.model.specs.Exact.{Note}
use Rattle.model.specs.Demands.{Record, Matches, Marks, Demand3}
use Rattle.model.specs.Sizes.{most_fields, most_variables, most_arrays, most_statements}
use Rattle.model.proofs.Files.Checked.{few-fields, fields-known, program_checked}
use Rattle.model.proofs.Filters.Choosing.{read_of_fields, holds_safe}
use Rattle.model.proofs.Walks.Derives.{derived-formed}
use Rattle.model.proofs.Basics.Every.{every-all}
use Rattle.model.proofs.Filters.FilterExact.{is_pass}
use Rattle.model.proofs.Basics.Lists.{all_imp, all_imp₂, all_map}
use Rattle.model.proofs.Conjuncts.Meaning.{Meets}
use Rattle.model.proofs.Files.ReadBack.{encode-reads}
use Rattle.model.proofs.Runs.Records.{record_of, Runs, run_runs, lines_of, notes_of, exact-notes, ran-records, ran_marks}
use Rattle.model.proofs.Basics.Results.{check-ok, bind_ok, ok_eq}
use Rattle.model.proofs.Filters.SafeMeets.{safe_meets}
use Rattle.model.proofs.Runs.Sound.{sound}
use Rattle.model.proofs.Basics.Tests.{and_left}
use Rattle.model.proofs.Walks.Tidied.{derived-tidy}

-- ---- what the analysis writes is read back

-- what an accepted program is, and what is written for it
pub record Accepted (program condition : List ℕ) : Type 0 where
  pub P : Program
  pub S : Conjuncts
  pub reads : read_program program ≡ ok P
  pub derives : derived P.code ≡ ok S
  pub writes : encode P.tables.fields S ≡ condition

pub analysis_accepts : (program condition : List ℕ) → analysis program ≡ ok condition → Accepted program condition
unfolding analysis
analysis_accepts program condition e =
    let write : Program → Conjuncts → Out (List ℕ) = λ P S. ok (encode P.tables.fields S) in
    let p = bind_ok (read_program program) (λ P. derived P.code >>= write P) condition e in
    let q = bind_ok (derived p.0.code) (write p.0) condition p.2 in
    record { P = p.0; S = q.0; reads = p.1; derives = q.1; writes = ok_eq (encode p.0.tables.fields q.0) condition q.2 }

module _ (program condition : List ℕ) (a : Accepted program condition) where
  -- the condition reader gives back the derived set and the program's fields
  pub derived-reads-back : read_condition condition ≡ ok (record { fields = a.P.tables.fields; conjuncts = a.S })
  derived-reads-back =
      let T = a.P.tables in
      let c = (program_checked program a.P a.reads).outlined in
      ap read_condition (sym a.writes)
      ∙ encode-reads T.fields a.S (few-fields T c.counts) (fields-known T c.types)
      (derived-tidy a.P.code a.S a.derives) (derived-formed program a.P a.S a.reads a.derives)

  -- an input that passes under it: the zero state meets every conjunct
  pub passes_meets : (input : List ℕ) (I : Input) → read_input a.P.tables.fields input ≡ ok I → filter_input condition input ≡ ok pass_number
      → All (Meets I zeros) a.S
  unfolding filter_input
  passes_meets input I i e =
      let C : Condition = record { fields = a.P.tables.fields; conjuncts = a.S } in
      let all = every (holds I) a.S in
      let answer = cond all pass_number held_number in
      let counted = check (every (few_combinations I) a.S) too_many_combinations (ok answer) in
      let full = check-ok (every (has_readings I) a.S) blank_field counted pass_number (rw (derived-reads-back, i) at e) in
      let within = check-ok (every (few_combinations I) a.S) too_many_combinations (ok answer) pass_number full.1 in
      let all_hold = every-all (holds I) a.S (is_pass all (ok_eq answer pass_number within.1)) in
      all_imp₂ (λ c f h. safe_meets I c f (holds_safe I c h)) a.S (read_of_fields condition C derived-reads-back) all_hold

-- ---- the theorem

-- marks that are all 0
unmarked_match : {rs : List Record} {ws : List Note} → Forall₂ Marks rs ws → All (λ r. r.mark ≡ 0) rs → Forall₂ Matches rs ws
unmarked_match Forall₂.nil k = Forall₂.nil
unmarked_match (Forall₂.cons h t) k =
    let m = k.0 in
    Forall₂.cons (record { label = h.label; mark = m; pad = h.pad; number = h.number m; overflows = h.mark.0 m }) (unmarked_match t k.1)

lines_unmarked : (program condition input : List ℕ) (limit : ℕ) (choices log : List ℕ) (ran : Ran) (a : Accepted program condition)
    → filter_input condition input ≡ ok pass_number
    → (r : Runs program input limit choices log ran) → All (λ l. l.value.mark ≡ false) (lines_of program input limit choices log ran r)
unfolding lines_of
lines_unmarked program condition input limit choices log ran a passed r =
    let same : a.P ≡ r.P = ok_eq a.P r.P (sym a.reads ∙ r.reads) in
    let reads : read_input a.P.tables.fields input ≡ ok r.I = subst (λ P. read_input P.tables.fields input ≡ ok r.I) (sym same) r.reads_input in
    sound r.I r.P.code a.S (subst (λ P. derived P.code ≡ ok a.S) same a.derives) (passes_meets program condition a input r.I reads passed)
    (origins_of r.P) limit (length log / 12) (choices_of choices)

pub demand3 : Demand3
demand3 program condition input limit choices log ran accepted passed e =
    let r = run_runs program input limit choices log ran e in
    let a = analysis_accepts program condition accepted in
    let lines = lines_of program input limit choices log ran r in
    let unmarked = all_imp (λ l k. ap mark_byte k) lines (lines_unmarked program condition input limit choices log ran a passed r) in
    let records = all_map (λ (q : Record). q.mark ≡ 0) record_of lines unmarked in
    record {
      notes = notes_of program input limit choices log ran r;
      is-run = exact-notes program input limit choices log ran r;
      each = unmarked_match (ran_marks program input limit choices log ran r)
          (subst (All (λ (q : Record). q.mark ≡ 0)) (sym (ran-records program input limit choices log ran r)) records);
    }
