-- `program::sections::read_table` meets its contract. The invariant: what the table has to be from the pair i on is what it has to
-- be as a whole.
use mathlib.Core.Path.{◌≡◌, ◌∙◌}
use mathlib.Core.List.{List}
use Prim.Native.Nat.{ℕ, ◌*◌, ◌≤◌}
use native.Mathlib.Omega.{arith}
use borrow.Author.Tests.{eq-eqb, ne_eqb}
use lib.Dec.{eqb}
use lib.ListN.{length}
use Rattle.model.specs.Sizes.{section_table, pair_size_lem}
use Rattle.model.specs.Bytes.{pairs_at, chained}
use Rattle.program.specs.Numbers.{sections}
use Rattle.program.specs.declared.sections.Pair.{Pair}
use Rattle.program.proofs.sections.Chain.{section_taken, section_refused}
use Rattle.program.proofs.sections.Chain.{chain_goes, chain_breaks, chain_ends, table-short, table-long, table_broken, table-linked}
use Rattle.refusals.specs.Answers.{number_of}
use Rattle.program.proofs.sections.read_table.Goals as goal
use Rattle.program.proofs.sections.read_table.Goals.{then-program-lt-SECTION_TABLE-via-then-program-lt-SECTION_TABLE, then-program-lt-SECTION_TABLE-via-else-program-lt-SECTION_TABLE+then-most-program}
use Rattle.program.proofs.sections.read_table.Goals.{After-loop-i, At-loop-i, In-Ok}

abbrev bytes : At-loop-i → List ℕ
bytes c = c.args.program.now

-- the bytes and the size of a field's entry that a file may have
abbrev most : At-loop-i → ℕ
most c = c.args.most

abbrev entry : At-loop-i → ℕ
entry c = c.args.entry

-- the pair of the section that was taken
abbrev pair : In-Ok → Pair
pair c = c.in-Ok.pair

-- the file is as long as it may be
long : (c : At-loop-i) → section_table ≤ length (bytes c)
long c = omega arith

short : (c : At-loop-i) → length (bytes c) ≤ most c
short c = omega arith

-- all pairs are gone through
ended : (c : After-loop-i) → chained section_table (pairs_at (bytes (goal.at.After-loop-i c).At-loop-i) 0 sections) (length (bytes (goal.at.After-loop-i c).At-loop-i)) ≡ eqb c.loop-i.end (length (bytes (goal.at.After-loop-i c).At-loop-i))
ended c = c.loop-i.invariant ∙ chain_ends (bytes (goal.at.After-loop-i c).At-loop-i) c.loop-i.i c.loop-i.end (omega arith)

-- ---- the answers
pub returns-then-program-lt-SECTION_TABLE : goal.returns-then-program-lt-SECTION_TABLE
returns-then-program-lt-SECTION_TABLE c =
    let a = c.args in
    elim c.then-program-lt-SECTION_TABLE.branch [
      | then-program-lt-SECTION_TABLE-via-then-program-lt-SECTION_TABLE w ↦ rw (table-short a.program.now a.most a.entry w.if-program-lt-SECTION_TABLE.true)
      | then-program-lt-SECTION_TABLE-via-else-program-lt-SECTION_TABLE+then-most-program w ↦
          rw (table-long a.program.now a.most a.entry w.if-program-lt-SECTION_TABLE.false w.if-most-program.true)
    ]

pub returns-in_default : goal.returns-in_default
returns-in_default c =
    let here = (goal.at.returns-in_default c).At-loop-i in
    let wrong = section_refused (bytes here) (pair_size_lem * c.loop-i.i) c.loop-i.end (number_of c.in_default.field-0) c.in_default.ensures.0 in
    let breaks = chain_breaks (bytes here) c.loop-i.i c.loop-i.end (omega arith) wrong.0 in
    rw (table_broken (bytes here) (most here) (entry here) (long here) (short here) (c.loop-i.invariant ∙ breaks))

pub loop-i-preserved : goal.loop-i-preserved
loop-i-preserved c =
    let taken = section_taken (bytes (goal.at.loop-i-preserved c).At-loop-i) (pair_size_lem * c.loop-i.i) c.loop-i.end (pair (goal.at.loop-i-preserved c).In-Ok) c.in-Ok.ensures.0 in
    c.loop-i.invariant ∙ chain_goes (bytes (goal.at.loop-i-preserved c).At-loop-i) c.loop-i.i c.loop-i.end (omega arith) (pair (goal.at.loop-i-preserved c).In-Ok) taken

pub returns-then-end-program : goal.returns-then-end-program
returns-then-end-program c =
    rw (table_broken (bytes (goal.at.returns-then-end-program c).At-loop-i) (most (goal.at.returns-then-end-program c).At-loop-i) (entry (goal.at.returns-then-end-program c).At-loop-i) (long (goal.at.returns-then-end-program c).At-loop-i) (short (goal.at.returns-then-end-program c).At-loop-i) (ended (goal.at.returns-then-end-program c).After-loop-i ∙ ne_eqb _ _ c.if-end-program.true))

pub returns : goal.returns
returns c =
    rw (table-linked (bytes (goal.at.returns c).At-loop-i) (most (goal.at.returns c).At-loop-i) (entry (goal.at.returns c).At-loop-i) (long (goal.at.returns c).At-loop-i) (short (goal.at.returns c).At-loop-i) (ended (goal.at.returns c).After-loop-i ∙ eq-eqb _ _ c.if-end-program.false)) c.read_layout.ensures
