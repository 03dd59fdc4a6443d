-- `sets::slots::copy_slot` meets its contract.
use Rattle.std.proofs.Common.{◌≡◌, ◌+◌, ◌-◌}
use native.Mathlib.Omega.{arith}
use Rattle.sets.proofs.Copied.{slot_copied}
use Rattle.sets.proofs.slots.copy_slot.Goals as goal

pub returns : goal.returns
returns c =
    let a = c.args in
    let p = c.requires in
    let r = c.copy_within in
    let t = r.ensures.by_index in
    let n = c.capped-n in
    let count : a.from + (1 + n.result) - a.from ≡ 1 + n.result = omega arith in
    slot_copied a.s.now a.to a.from p.first p.second r.new.self n.result n.ensures.0 n.ensures.1 r.ensures.len
    (λ x h g. t.0 x 0 h (omega arith)) (λ x h. t.1 x 0 h) (λ x h. t.2 x 0 (omega arith))
