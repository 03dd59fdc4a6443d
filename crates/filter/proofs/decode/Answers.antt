-- `filter::decode` meets its contract. The loop's invariant: the first f fields are decoded.
use mathlib.Core.Path.{subst, ◌≡◌}
use native.Mathlib.Omega.{arith}
use Rattle.model.specs.Sizes.{most_fields}
use Rattle.model.specs.Fields.{fields_in}
use Rattle.model.proofs.Files.FieldTables.{fields-length}
use Rattle.filter.specs.Decoding.{input_in}
use Rattle.filter.proofs.Readings.{DecodedTo, decoded_all, decoded_lent}
use Rattle.filter.proofs.decode.Goals as goal

pub returns : goal.returns
returns c =
    let a = c.args in
    let I = input_in (fields_in a.input.now.fields) a.input.now.bytes in
    let e : c.loop-f.f ≡ most_fields = omega arith in
    let many = fields-length a.input.now.fields in
    let d = subst (λ n. DecodedTo I n c.loop-f.counts c.loop-f.mags c.loop-f.negs) e c.loop-f.invariant.3 in
    let lent = decoded_lent (fields_in a.input.now.fields) a.input.now.bytes c.loop-f.counts c.loop-f.mags c.loop-f.negs d c.loop-f.invariant.0 in (
      lent (omega (arith, many, c.requires.0.magnitudes, c.loop-f.invariant.1)) (omega (arith, many, c.requires.0.signs, c.loop-f.invariant.2)),
      decoded_all I c.loop-f.counts c.loop-f.mags c.loop-f.negs d,
    )
