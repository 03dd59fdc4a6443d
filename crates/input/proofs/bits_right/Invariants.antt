-- `input::bits_right` meets its contract: from turn to turn goes that the fields still to come decide.
use mathlib.Core.Path.{◌≡◌}
use Prim.Native.Nat.{◌/◌}
use lib.ListN.{length}
use Rattle.model.specs.Fields.{fields_in}
use Rattle.input.proofs.Pass.{readings_right}
use Rattle.input.proofs.Narrow.{fields_from}
use Rattle.input.proofs.bits_right.Given as goal

abbrev pub invariant-loop-f : goal.invariant-loop-f
invariant-loop-f l =
    (readings_right (fields_in l.fields) l.input ≡ fields_from l.fields l.input (length l.fields / 2) l.f) × (l.count ≡ length l.fields / 2)
