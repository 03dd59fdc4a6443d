-- `widening::put_fields` meets its contract. The invariant: the fields before the turn stand in the new form.
use mathlib.Core.Path.{◌≡◌}
use Rattle.bytes_le.specs.Overlay.{overlay}
use Rattle.widening.proofs.NewFiles.{first_fields}
use Rattle.widening.proofs.put_fields.Given as goal

abbrev pub invariant-loop-f : goal.invariant-loop-f
invariant-loop-f l = (l.file ≡ overlay l.initial.file 32 (first_fields l.old l.f))
