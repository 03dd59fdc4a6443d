-- The numbers with which the analysis, the filter and the run refuse.
use mathlib.Core.Path.{◌≡◌, refl}
use mathlib.Core.Logic.{◌⊎◌, inl, inr, ⊎_elim}
use mathlib.Core.List.{List, [], ◌∷◌}
use Prim.Native.Nat.{ℕ, ◌<◌}
use native.Mathlib.Omega.{arith}
use lib.Dec.{leb, ltb}
use lib.ListN.{length}
use Rattle.model.specs.Sizes.{most_nested, most_rows}
use Rattle.model.specs.Lists.{All, every}
use Rattle.model.specs.Refusals.{ok, refused, ◌>>=◌, check, instead, wrong_sections, wrong_blocks, wrong_input, wrong_procedures}
use Rattle.model.specs.Code.{Instr, Code, plain, if, else, end, while, tree_of}
use Rattle.model.specs.Procedures.{Item, own, procedure, call, Block, if_block, else_block, while_block, procedure_block, nesting, turning, closing, passing, open_after, all_closed}
use Rattle.model.specs.Procedures.{Procedure, Stage, begins_none, parts_from}
use Rattle.model.specs.Inlined.{Row, stmts_in}
use Rattle.model.specs.Program.{Program, Tables, layout_of, tables_at, sections_in, sections_right, Outline, outline_of, inlined_rows, program_of, inlined_program, read_outline, read_program}
use Rattle.model.specs.OldForm.{most_old, old_field_size, old_tables, read_old, new_form, convert}
use Rattle.model.specs.Conjunct.{Conjuncts, union_of, limits}
use Rattle.model.specs.Walk.{before, gather, back, sites, start, derived}
use Rattle.model.specs.Condition.{Condition, encode, read_condition, analysis}
use Rattle.model.specs.Input.{read_input}
use Rattle.model.specs.Filter.{filter_input}
use Rattle.model.specs.Run.{run}
use Rattle.model.specs.Demands.{FromTo, AnalysisRefusal, FilterRefusal, RunRefusal, OldRefusal}
use Rattle.model.proofs.Walks.Invariant.{sites_keep, join_keeps}
use Rattle.model.proofs.Conjuncts.Limits.{limits_cases}
use Rattle.model.proofs.Basics.Lists.{all_imp}
use Rattle.model.proofs.Basics.Results.{Refuses, refuses_check, refuses_bind, refuses_instead, refuses_imp, refuses_by}
use Rattle.model.proofs.Procedures.Parted.{parts_by}
use Rattle.model.proofs.Walks.Trees.{each_any}

-- ---- the program: 2 to 8 and 16

-- the numbers of checks 2 to 8 and 16
abbrev ReadRefusal : ℕ → Type 0
ReadRefusal n = FromTo wrong_sections wrong_blocks n ⊎ (n ≡ wrong_procedures)

module _ (P : ℕ → Type 0) (blocks : P wrong_blocks) where
  turning_refuses : (bs : List Block) → Refuses P (turning bs)
  turning_refuses [] = blocks
  turning_refuses (if_block ∷ bs) = tt
  turning_refuses (else_block ∷ bs) = blocks
  turning_refuses (while_block ∷ bs) = blocks
  turning_refuses (procedure_block ∷ bs) = blocks

  closing_refuses : (bs : List Block) → Refuses P (closing bs)
  closing_refuses [] = blocks
  closing_refuses (if_block ∷ bs) = blocks
  closing_refuses (else_block ∷ bs) = tt
  closing_refuses (while_block ∷ bs) = tt
  closing_refuses (procedure_block ∷ bs) = tt

  passing_refuses : (i : Item) (bs : List Block) → Refuses P (passing i bs)
  unfolding passing
  passing_refuses (own (plain i)) bs = tt
  passing_refuses (own (if v)) bs = refuses_check P (ltb (nesting bs) most_nested) wrong_blocks (ok (if_block ∷ bs)) blocks tt
  passing_refuses (own else) bs = turning_refuses bs
  passing_refuses (own end) bs = closing_refuses bs
  passing_refuses (own (while v)) bs = refuses_check P (ltb (nesting bs) most_nested) wrong_blocks (ok (while_block ∷ bs)) blocks tt
  passing_refuses (procedure n x k) bs = tt
  passing_refuses (call t p as') bs = tt

  open_after_refuses : (bs : List Block) (is : List Item) → Refuses P (open_after bs is)
  unfolding open_after
  open_after_refuses bs [] = tt
  open_after_refuses bs (i ∷ is) = refuses_bind P (passing i bs) (λ cs. open_after cs is) (passing_refuses i bs) (λ cs. open_after_refuses cs is)

  all_closed_refuses : (bs : List Block) → Refuses P (all_closed bs)
  all_closed_refuses [] = tt
  all_closed_refuses (b ∷ bs) = blocks

module _ (P : ℕ → Type 0) (procedures : P wrong_procedures) where
  parts_refuses : (l : ℕ) (ps : List Procedure) (r : Stage) (is : List Item) → Refuses P (parts_from l ps r is)
  parts_refuses = parts_by (λ l ps r is o. Refuses P o) (record {
    after = λ l ps is. refuses_check P (every begins_none is) wrong_procedures (ok (record { procedures = ps; label = l; main = is })) procedures tt;
    begun = λ l ps n x k is o h. h;
    more = λ l ps q d e i is o n h. h;
    ended = λ l ps q is o h. h;
    within = λ l ps q d n x k is. procedures;
    unended = λ l ps q d. procedures;
  })

  program_refuses : (T : Tables) (rows : List Row) → Refuses P (program_of T rows)
  unfolding program_of
  program_refuses T rows =
      refuses_check P (leb (length rows) most_rows) wrong_procedures _ procedures
      (refuses_bind P (instead wrong_procedures (tree_of (stmts_in rows))) _ (refuses_instead P wrong_procedures (tree_of (stmts_in rows)) procedures) (λ c. tt))

outline_of_refuses : (T : Tables) → Refuses ReadRefusal (outline_of T)
outline_of_refuses T =
    let ns : List ℕ = 2 ∷ 3 ∷ 4 ∷ 5 ∷ 6 ∷ 7 ∷ 8 ∷ [] in
    let low : All (FromTo 2 8) (2 ∷ 3 ∷ 4 ∷ 5 ∷ 6 ∷ 7 ∷ 8 ∷ []) = omega arith in
    let causes : All ReadRefusal (2 ∷ 3 ∷ 4 ∷ 5 ∷ 6 ∷ 7 ∷ 8 ∷ []) = all_imp {P = FromTo 2 8} {Q = ReadRefusal} (λ n. inl) ns low in
    let sixteen : ReadRefusal 16 = inr refl in
    search (refuses_check, refuses_bind, open_after_refuses, all_closed_refuses, parts_refuses) depth 12

two : ReadRefusal wrong_sections
two = inl (omega arith)

read_outline_refuses : (s : List ℕ) → Refuses ReadRefusal (read_outline s)
unfolding read_outline
read_outline_refuses s = refuses_check ReadRefusal (sections_right s) wrong_sections (outline_of (tables_at s (layout_of s))) two (outline_of_refuses (tables_at s (layout_of s)))

inlined_refuses : (O : Outline) → Refuses ReadRefusal (inlined_program O)
inlined_refuses O = program_refuses ReadRefusal (inr refl) O.tables (inlined_rows O.tables O.parts)

read_program_refuses : (s : List ℕ) → Refuses ReadRefusal (read_program s)
unfolding read_program
read_program_refuses s =
    refuses_bind ReadRefusal (read_outline s) inlined_program (read_outline_refuses s) inlined_refuses

-- of a file of the old form
pub refusals_conversion : (s : List ℕ) (n : ℕ) → convert s ≡ refused n → OldRefusal n
unfolding convert read_old
refusals_conversion s n e =
    let right = sections_in most_old old_field_size s in
    let T = old_tables s in
    let outline = check right wrong_sections (outline_of T) in
    refuses_by OldRefusal (convert s) n e
    (refuses_bind OldRefusal (outline >>= inlined_program) (λ P. ok (new_form s))
    (refuses_bind OldRefusal outline inlined_program (refuses_check OldRefusal right wrong_sections (outline_of T) two (outline_of_refuses T)) inlined_refuses)
    (λ P. tt))

-- ---- the derivation: 9 to 11

module _ (P : ℕ → Type 0) (nine : P 9) (ten : P 10) (eleven : P 11) where
  -- of the sets nothing is said
  abbrev Any : Conjuncts → Type 0
  Any S = Unit {0}

  limits_refuses : (S : Conjuncts) → Refuses P (limits S)
  limits_refuses S = limits_cases (Refuses P) S nine ten (λ f. tt)

  back_refuses : (l : ℕ) (i : Instr) (S : Conjuncts) → Refuses P (back l i S)
  unfolding back
  back_refuses l i S = limits_refuses (gather (before l i) S)

  start_refuses : (S : Conjuncts) → Refuses P (start S)
  unfolding start
  start_refuses S = limits_refuses _

  derived_refuses : (c : Code) → Refuses P (derived c)
  unfolding derived
  derived_refuses c =
      let both : (R S : Conjuncts) → Any R → Any S → Refuses P (limits (union_of R S)) = λ R S r s. limits_refuses (union_of R S) in
      join_keeps Any P both Any (λ S s. start_refuses S) [] (sites c) tt
      (sites_keep Any P both eleven (λ i. Unit {0}) (λ l i w S s. back_refuses l i S) (λ a ty w. tt) c (each_any c))

-- ---- the operations

pub refusals_analysis : (p : List ℕ) (n : ℕ) → analysis p ≡ refused n → AnalysisRefusal n
unfolding analysis
refusals_analysis p n e =
    let program = refuses_imp ReadRefusal AnalysisRefusal (λ n. ⊎_elim (λ h. inl (omega arith)) inr) (read_program p) (read_program_refuses p) in
    let derivation = derived_refuses AnalysisRefusal (inl (omega arith)) (inl (omega arith)) (inl (omega arith)) in
    refuses_by AnalysisRefusal (analysis p) n e
    (refuses_bind AnalysisRefusal (read_program p) _ program (λ P. refuses_bind AnalysisRefusal (derived P.code) _ (derivation P.code) (λ S. tt)))

pub refusals_filter : (c i : List ℕ) (n : ℕ) → filter_input c i ≡ refused n → FilterRefusal n
unfolding filter_input read_condition read_input
refusals_filter c i n e =
    let causes : All FilterRefusal (12 ∷ 13 ∷ 14 ∷ 15 ∷ []) = omega arith in
    refuses_by FilterRefusal (filter_input c i) n e (search (refuses_check, refuses_bind) depth 8)

pub refusals_run : (p i : List ℕ) (limit : ℕ) (ch log : List ℕ) (n : ℕ) → run p i limit ch log ≡ refused n → RunRefusal n
unfolding run read_input
refusals_run p i limit ch log n e =
    let program = refuses_imp ReadRefusal RunRefusal (λ n. ⊎_elim (λ h. inl (inl h)) inr) (read_program p) (read_program_refuses p) in
    let thirteen : RunRefusal wrong_input = inl (inr refl) in
    refuses_by RunRefusal (run p i limit ch log) n e (search (refuses_check, refuses_bind))

-- ---- of a program that is listed

-- past checks 2 to 8: 9 to 11, 13 and 16
abbrev pub Later : ℕ → Type 0
Later n = wrong_blocks < n

pub listed_refusals_analysis : (p : List ℕ) (O : Outline) → read_outline p ≡ ok O → (n : ℕ) → analysis p ≡ refused n → Later n
unfolding analysis read_program
listed_refusals_analysis p O r n e =
    let given = derived_refuses Later (omega arith) (omega arith) (omega arith) in
    let program = program_refuses Later (omega arith) O.tables (inlined_rows O.tables O.parts) in
    refuses_by Later (program_of O.tables (inlined_rows O.tables O.parts) >>= λ P. derived P.code >>= λ S. ok (encode P.tables.fields S)) n (rw r at e)
    (refuses_bind Later (program_of O.tables (inlined_rows O.tables O.parts)) _ program
    (λ P. refuses_bind Later (derived P.code) (λ S. ok (encode P.tables.fields S)) (given P.code) (λ S. tt)))

pub listed_refusals_run : (p i : List ℕ) (limit : ℕ) (ch log : List ℕ) (O : Outline) → read_outline p ≡ ok O → (n : ℕ) → run p i limit ch log ≡ refused n → Later n
unfolding run read_input read_program
listed_refusals_run p i limit ch log O r n e =
    let program = program_refuses Later (omega arith) O.tables (inlined_rows O.tables O.parts) in
    let thirteen : Later wrong_input = omega arith in
    refuses_by Later (run p i limit ch log) n e (rw r (search (refuses_check, refuses_bind)))

-- ---- of a program that is read

pub read_refusals_analysis : (p : List ℕ) (P : Program) → read_program p ≡ ok P → (n : ℕ) → analysis p ≡ refused n → FromTo 9 11 n
unfolding analysis
read_refusals_analysis p P r n e =
    let given = derived_refuses (FromTo 9 11) (omega arith) (omega arith) (omega arith) P.code in
    refuses_by (FromTo 9 11) (derived P.code >>= λ S. ok (encode P.tables.fields S)) n (rw r at e)
    (refuses_bind (FromTo 9 11) (derived P.code) (λ S. ok (encode P.tables.fields S)) given (λ S. tt))

pub read_refusals_run : (p i : List ℕ) (limit : ℕ) (ch log : List ℕ) (P : Program) → read_program p ≡ ok P → (n : ℕ) → run p i limit ch log ≡ refused n → n ≡ 13
unfolding run read_input
read_refusals_run p i limit ch log P r n e = refuses_by (λ m. m ≡ 13) (run p i limit ch log) n e (rw r (search (refuses_check, refuses_bind)))

-- of a condition that is read
pub read_refusals_filter : (c i : List ℕ) (C : Condition) → read_condition c ≡ ok C → (n : ℕ) → filter_input c i ≡ refused n → FromTo 13 15 n
unfolding filter_input read_input
read_refusals_filter c i C r n e =
    let causes : All (FromTo 13 15) (13 ∷ 14 ∷ 15 ∷ []) = omega arith in
    refuses_by (FromTo 13 15) (filter_input c i) n e (rw r (search (refuses_check, refuses_bind)))
