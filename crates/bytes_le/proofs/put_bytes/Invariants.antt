-- What was written so far: the first i bytes of `from`, from the place a on.
use Rattle.std.proofs.Common.{◌≡◌, length, take}
use Rattle.bytes_le.specs.Overlay.{overlay}
use Rattle.bytes_le.proofs.put_bytes.Given as goal

abbrev pub invariant-loop-i : goal.invariant-loop-i
invariant-loop-i l = (length l.out ≡ length l.initial.out) × (l.out ≡ overlay l.initial.out l.a (take l.i l.from))
