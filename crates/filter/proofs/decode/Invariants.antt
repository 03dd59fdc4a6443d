-- `filter::decode` meets its contract. The loop's invariant: the first f fields are decoded.
use mathlib.Core.Path.{◌≡◌}
use lib.ListN.{length}
use Rattle.model.specs.Sizes.{most_fields}
use Rattle.model.specs.Fields.{fields_in}
use Rattle.filter.specs.Decoding.{input_in}
use Rattle.filter.proofs.Readings.{DecodedTo}
use Rattle.filter.proofs.decode.Given as goal

abbrev pub invariant-loop-f : goal.invariant-loop-f
invariant-loop-f l =
    (length l.counts ≡ most_fields) × (length l.mags ≡ length l.initial.mags) × (length l.negs ≡ length l.initial.negs)
    × DecodedTo (input_in (fields_in l.input.fields) l.input.bytes) l.f l.counts l.mags l.negs
