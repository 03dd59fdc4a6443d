-- No entry that was met is wrong: what is asked of all is asked of those from f on.
use Rattle.std.proofs.Common.{◌≡◌, ◌≤◌, drop}
use Rattle.model.specs.Lists.{every}
use Rattle.model.specs.Fields.{field_right, fields_in}
use Rattle.fields.proofs.all_right.Given as goal

abbrev pub invariant-loop-f : goal.invariant-loop-f
invariant-loop-f l = every field_right (fields_in l.table) ≡ every field_right (drop l.f (fields_in l.table))
