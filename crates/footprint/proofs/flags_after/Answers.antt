-- `footprint::flags_after` meets its contract.
use mathlib.Core.Logic.{inl, inr}
use Rattle.footprint.proofs.flags_after.Goals as goal

pub returns-then-size-q : goal.returns-then-size-q
returns-then-size-q c = inl c.of_set.ensures

pub returns : goal.returns
returns c = inr c.flag_statements.ensures
