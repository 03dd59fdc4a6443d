-- `program::statements::statements_right` meets its contract. The invariant: the forms of the statements before i are right, and the two flags
-- have what the tests of types and of immediates say of them.
use mathlib.Core.Path.{◌≡◌}
use mathlib.Core.Bool.{◌&&◌}
use lib.ListN.{drop}
use Rattle.model.specs.Lists.{every}
use Rattle.model.specs.Program.{form_right_lem, types_agree_lem, immediate_right_lem}
use Rattle.program.specs.Reading.{tables_of}
use Rattle.program.proofs.statements.statements_right.Given as goal

abbrev pub invariant-loop-i : goal.invariant-loop-i
invariant-loop-i l =
    let T = tables_of l.program in
    let ss = T.statements in
    (every (form_right_lem T) ss ≡ every (form_right_lem T) (drop l.i ss))
    × (every (types_agree_lem T) ss ≡ (l.agree && every (types_agree_lem T) (drop l.i ss)))
    × (every (immediate_right_lem T) ss ≡ (l.inside && every (immediate_right_lem T) (drop l.i ss)))
