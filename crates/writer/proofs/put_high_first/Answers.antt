-- `writer::put_high_first` meets its contract.
use mathlib.Core.Path.{◌≡◌, ap, ◌∙◌}
use Prim.Native.Nat.{◌/◌, ◌%◌}
use lib.ListN.{take}
use native.Mathlib.Omega.{arith}
use Rattle.bytes_le.specs.Overlay.{overlay}
use Rattle.conjunct.specs.Word.{place7, file_bytes}
use Rattle.writer.proofs.put_high_first.Goals as goal

pub returns : goal.returns
unfolding file_bytes
returns c =
    let top : c.args.v / place7 % 256 ≡ c.args.v / place7 = omega (arith, c.ranges.v.fits) in
    c.put_bytes.ensures ∙ ap (λ bs. overlay c.args.out.now c.args.a (take 8 bs)) c.to_be_bytes.ensures ∙ rw top
