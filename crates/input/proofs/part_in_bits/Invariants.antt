-- `input::part_in_bits` meets its contract: from turn to turn goes that the readings still to come decide.
use mathlib.Core.Path.{◌≡◌}
use Rattle.model.specs.Lists.{every}
use Rattle.model.specs.Fields.{entry_of}
use Rattle.model.specs.Input.{in_bits_lem}
use Rattle.input.specs.Bits.{part_readings}
use Rattle.input.proofs.Narrow.{readings_from}
use Rattle.input.proofs.part_in_bits.Given as goal

abbrev pub invariant-loop-k : goal.invariant-loop-k
invariant-loop-k l =
    every (in_bits_lem (entry_of l.ty l.size)) (part_readings l.ty l.part) ≡ every (in_bits_lem (entry_of l.ty l.size)) (readings_from l.ty l.part l.count l.k)
