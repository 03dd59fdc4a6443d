-- `program::sections::are_arrays` meets its contract.
use mathlib.Core.Path.{◌≡◌, sym, ◌∙◌}
use mathlib.Core.Bool.{true, false}
use mathlib.Core.List.{List}
use Prim.Native.Nat.{◌+◌, ◌*◌, ◌<◌}
use native.Mathlib.Omega.{arith}
use lib.ListN.{length, get_or}
use Rattle.model.specs.Sizes.{array_size}
use Rattle.model.specs.Bytes.{entries}
use Rattle.model.specs.Program.{Array, array_right_lem, array_at}
use Rattle.model.proofs.Files.Parts.{length-entries, entries-get_or}
use Rattle.model.proofs.Basics.Passes.{pass_fails, pass_goes, pass_ends}
use Rattle.program.proofs.sections.are_arrays.Goals as goal
use Rattle.program.proofs.sections.are_arrays.Goals.{At-loop-i, In-loop-i}

-- the entries that are asked about
abbrev arrays : At-loop-i → List Array
arrays c = let a = c.args in entries array_at array_size a.program.now a.at a.n

abbrev none : Array
none = record { ty = 0; pad = 0; len = 0 }

all : (c : At-loop-i) → length (arrays c) ≡ c.args.n
all c = let a = c.args in length-entries array_at array_size a.program.now a.n a.at

-- the entry of a turn
inside : (c : In-loop-i) → c.loop-i.i < length (arrays (goal.at.In-loop-i c).At-loop-i)
inside c = rw (all (goal.at.In-loop-i c).At-loop-i) (omega arith)

entry : (c : In-loop-i) → get_or (arrays (goal.at.In-loop-i c).At-loop-i) c.loop-i.i none ≡ array_at c.args.program.now (c.args.at + array_size * c.loop-i.i)
entry c =
    let a = c.args in
    entries-get_or array_at array_size a.program.now a.n a.at c.loop-i.i none (omega arith)

-- ---- the answers
pub returns-then-not-array_right : goal.returns-then-not-array_right
returns-then-not-array_right c =
    let wrong : array_right_lem (get_or (arrays (goal.at.returns-then-not-array_right c).At-loop-i) c.loop-i.i none) ≡ false = rw (entry (goal.at.returns-then-not-array_right c).In-loop-i) (sym c.array_right.ensures ∙ c.if-not-array_right.true) in
    sym (pass_fails array_right_lem none (arrays (goal.at.returns-then-not-array_right c).At-loop-i) c.loop-i.i (inside (goal.at.returns-then-not-array_right c).In-loop-i) c.loop-i.invariant wrong)

pub loop-i-preserved : goal.loop-i-preserved
loop-i-preserved c =
    let right : array_right_lem (get_or (arrays (goal.at.loop-i-preserved c).At-loop-i) c.loop-i.i none) ≡ true = rw (entry (goal.at.loop-i-preserved c).In-loop-i) (sym c.array_right.ensures ∙ c.if-not-array_right.false) in
    (pass_goes array_right_lem none (arrays (goal.at.loop-i-preserved c).At-loop-i) c.loop-i.i (inside (goal.at.loop-i-preserved c).In-loop-i) c.loop-i.invariant right)

pub returns : goal.returns
returns c =
    sym (pass_ends array_right_lem none (arrays (goal.at.returns c).At-loop-i) c.loop-i.i (rw (all (goal.at.returns c).At-loop-i) (omega arith)) c.loop-i.invariant)
