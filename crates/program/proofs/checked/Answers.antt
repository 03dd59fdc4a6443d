-- `program::checked` meets its contract.
use mathlib.Core.Path.{◌≡◌, sym, ◌∙◌}
use mathlib.Core.Bool.{true}
use mathlib.Core.List.{List}
use Prim.Native.Nat.{ℕ}
use Rattle.model.specs.Program.{counts_right_lem, types_right_lem}
use Rattle.program.specs.Reading.{tables_of, block_checks}
use Rattle.std.proofs.lemmas.Result.{err_from_is_err_and}
use Rattle.program.proofs.Known.{few-entries}
use Rattle.program.proofs.checked.Goals as goal
use Rattle.program.proofs.checked.Goals.{Else-not-counts_right, Else-not-types_right}

abbrev bytes : Else-not-types_right → List ℕ
bytes c = c.args.program.now

pub returns-then-not-counts_right : goal.returns-then-not-counts_right
returns-then-not-counts_right c =
    rw (sym c.counts_right.ensures ∙ c.if-not-counts_right.true)

-- checks 3 and 4 have passed
counted : (c : Else-not-counts_right) → counts_right_lem (tables_of c.args.program.now) ≡ true
counted c =
    sym c.counts_right.ensures ∙ c.if-not-counts_right.false

typed : (c : Else-not-types_right) → types_right_lem (tables_of (bytes c)) ≡ true
typed c = sym c.types_right.ensures ∙ c.if-not-types_right.false

pub returns-then-not-types_right : goal.returns-then-not-types_right
returns-then-not-types_right c = rw (counted (goal.at.returns-then-not-types_right c).Else-not-counts_right, sym c.types_right.ensures ∙ c.if-not-types_right.true)

pub returns-in_err-statements_right : goal.returns-in_err-statements_right
returns-in_err-statements_right c =
    let s = c.args.program.now in
    let p = err_from_is_err_and c.from_residual.result c.from_residual.ensures.1 in
    rw (p.1, p.2, counted (goal.at.returns-in_err-statements_right c).Else-not-counts_right, typed (goal.at.returns-in_err-statements_right c).Else-not-types_right)
    (c.in_err-statements_right.ensures (block_checks s))

pub blocks_checked-requires : goal.blocks_checked-requires
blocks_checked-requires c =
    let s = c.args.program.now in
    (few-entries (tables_of s) (counted (goal.at.blocks_checked-requires c).Else-not-counts_right)).statements

pub returns : goal.returns
returns c =
    let s = c.args.program.now in
    rw (counted (goal.at.returns c).Else-not-counts_right, typed (goal.at.returns c).Else-not-types_right) (c.blocks_checked.ensures ∙ c.in_ok-statements_right.ensures (block_checks s))
