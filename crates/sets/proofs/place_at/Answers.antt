-- `sets::place_at` meets its contract.
use mathlib.Core.List.{◌∷◌}
use mathlib.Core.Path.{◌≡◌, sym, ap, ◌∙◌}
use Prim.Native.Nat.{◌+◌, ◌*◌}
use native.Mathlib.Omega.{arith}
use lib.ListN.{length, take, set, length-set}
use lib.Seq.{length-take-le}
use Rattle.bytes_le.specs.Overlay.{overlay}
use Rattle.sets.proofs.Placed.{placed}
use Rattle.sets.specs.Region.{slot_words}
use Rattle.sets.proofs.place_at.Goals as goal

pub shape_of-s : goal.shape_of-s
shape_of-s c =
    let a = c.args in
    length-set c.write_slot.new.s a.base (a.n + 1) ∙ c.write_slot.auto.s ∙ c.shift.auto.s

pub returns : goal.returns
returns c =
    let a = c.args in
    let p = c.requires in
    let ws = take a.m a.w.now in
    let count : length ws ≡ a.m = length-take-le a.m a.w.now p.1.there in
    let A = a.base + 1 + slot_words * a.i in
    let after = c.write_slot.new.s in
    let moved = c.shift in
    let u = moved.new.s in
    let e : after ≡ overlay u A (length ws ∷ ws) = c.write_slot.ensures ∙ ap (λ k. overlay u A (k ∷ ws)) (sym count) in
    placed a.s.now u a.base a.n a.i ws p.0.space p.0.place p.0.there (omega arith) moved.auto.s moved.ensures.0 moved.ensures.1
    (set after a.base (a.n + 1)) (ap (λ l. set l a.base (a.n + 1)) e)
