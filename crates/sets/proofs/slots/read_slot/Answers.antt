-- `sets::slots::read_slot` meets its contract.
use mathlib.Core.List.{◌++◌}
use mathlib.Core.Path.{◌≡◌, sym, ap, ◌∙◌}
use native.Mathlib.Omega.{arith}
use lib.ListN.{length, take, drop}
use lib.Seq.{length-take-le, take-append_seam}
use Rattle.sets.proofs.slots.Words.{slot-part}
use Rattle.sets.proofs.slots.read_slot.Goals as goal

pub returns : goal.returns
returns c =
    let a = c.args in
    let cap = c.capped-n in
    let n = cap.result in
    let rest = drop n a.out.now in
    let read = c.copy_from_slice.new.self in
    let count : length read ≡ n = c.copy_from_slice.ensures.len ∙ length-take-le n a.out.now (omega arith) in (
      cap.ensures.0,
      ap (λ k. take k (read ++ rest)) (sym count) ∙ take-append_seam read rest ∙ c.copy_from_slice.ensures.after
          ∙ slot-part a.s.now a.a n (omega arith) (omega arith) cap.ensures.1,
    )
