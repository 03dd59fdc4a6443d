-- `footprint::of_set` meets its contract.
use mathlib.Core.List.{[]}
use mathlib.Core.Path.{◌≡◌, sym, subst}
use Prim.Native.Nat.{◌+◌, ◌*◌}
use native.Mathlib.Omega.{arith}
use lib.ListN.{get_or}
use lib.Seq.{take_all}
use Rattle.conjunct.specs.Word.{nodes_of_lem}
use Rattle.sets.proofs.Rows.{set-length, set_at}
use Rattle.sets.specs.Region.{slot_words, slot_at, set_of}
use Rattle.footprint.proofs.Flags.{speaks_next}
use Rattle.footprint.specs.Footprints.{CoversSet}
use Rattle.footprint.proofs.of_set.Goals as goal

pub loop-i-init : goal.loop-i-init
loop-i-init c = (c.size-n.ensures.0, tt)

pub loop-i-preserved : goal.loop-i-preserved
loop-i-preserved c =
    let a = c.args in
    let S = set_of a.s.now a.b in
    let e = nodes_of_lem (slot_at a.s.now (a.b + 1 + slot_words * c.loop-i.i)) in
    let at : e ≡ get_or S c.loop-i.i [] = sym (set_at a.s.now a.b c.loop-i.i (omega (arith, set-length a.s.now a.b))) in
    (c.loop-i.invariant.0, speaks_next c.loop-i.r c.flag_slot.new.self S c.loop-i.i e (omega arith) at c.flag_slot.ensures.0 c.loop-i.invariant.1 c.flag_slot.ensures.1)

pub returns : goal.returns
returns c =
    let a = c.args in
    let S = set_of a.s.now a.b in
    subst (CoversSet c.loop-i.r) (take_all c.loop-i.i S (omega arith)) c.loop-i.invariant.1
