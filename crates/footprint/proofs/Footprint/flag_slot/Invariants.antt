-- `footprint::Footprint::flag_slot` meets its contract: the first j nodes are noted.
use Prim.Native.Nat.{◌+◌}
use Rattle.footprint.proofs.Flags.{Noted}
use Rattle.footprint.proofs.Footprint.flag_slot.Given as goal

abbrev pub invariant-loop-j : goal.invariant-loop-j
invariant-loop-j l = Noted l.initial.self l.self l.s (l.a + 1) l.j
