-- `footprint::Footprint::flag_slot` meets its contract: the first j nodes are noted.
use mathlib.Core.Path.{◌≡◌, subst}
use mathlib.Core.List.{[], ◌∷◌}
use Prim.Native.Nat.{◌+◌}
use native.Mathlib.Omega.{arith}
use lib.ListN.{get_or}
use Rattle.conjunct.specs.Word.{node_of, nodes_of_lem}
use Rattle.sets.proofs.slots.Words.{slot-words}
use Rattle.footprint.proofs.Flags.{extends_self, covers-plain, covers-variable, covers-load, Noted, noted-none, noted-next}
use Rattle.footprint.specs.Footprints.{Covers, Extends}
use Rattle.footprint.specs.declared.Footprint.{Footprint}
use Rattle.footprint.proofs.Footprint.flag_slot.Goals as goal
use Rattle.footprint.proofs.Footprint.flag_slot.Goals.{then-w-lt-LOAD, else-w-lt-LOAD}

pub loop-j-init : goal.loop-j-init
loop-j-init c = noted-none c.args.self.now c.args.s.now (c.args.a + 1)

pub loop-j-preserved-then-w-lt-VARIABLE : goal.loop-j-preserved-then-w-lt-VARIABLE
loop-j-preserved-then-w-lt-VARIABLE c =
    let a = c.args in
    let r = c.loop-j.self in
    noted-next a.self.now r r a.s.now (a.a + 1) c.loop-j.j (omega arith) c.loop-j.invariant
    (extends_self r, covers-plain (get_or a.s.now (a.a + 1 + c.loop-j.j) 0) r c.if-w-lt-VARIABLE.true)

pub loop-j-preserved : goal.loop-j-preserved
loop-j-preserved c =
    let a = c.args in
    let r = c.loop-j.self in
    let w = get_or a.s.now (a.a + 1 + c.loop-j.j) 0 in
    -- what the word flags is covered then
    let next : (n : Footprint) → c.if-w-lt-LOAD.self ≡ n → Extends r n → Covers n (node_of w ∷ []) → Noted a.self.now c.if-w-lt-LOAD.self a.s.now (a.a + 1) (c.loop-j.j + 1) =
    λ n e x k. rw e (noted-next a.self.now r n a.s.now (a.a + 1) c.loop-j.j (omega arith) c.loop-j.invariant (x, k)) in
    elim c.if-w-lt-LOAD.branch [
      | then-w-lt-LOAD v ↦
          let flagged = v.flag_variable in
          next flagged.new.self v.self-is flagged.ensures.0 (covers-variable w c.if-w-lt-VARIABLE.false v.if-w-lt-LOAD.true flagged.new.self flagged.ensures.1)
      | else-w-lt-LOAD v ↦
          let flagged = v.flag_array in
          next flagged.new.self v.self-is flagged.ensures.0 (covers-load w v.if-w-lt-LOAD.false flagged.new.self flagged.ensures.1)
    ]

pub returns : goal.returns
returns c =
    let a = c.args in
    let n = c.capped-n in
    let e : c.loop-j.j ≡ n.result = omega arith in
    let w = slot-words a.s.now a.a n.result (omega arith) (omega arith) n.ensures.1 in
    (c.loop-j.invariant.extends, subst (λ l. Covers c.loop-j.self (nodes_of_lem l)) w (rw e at c.loop-j.invariant.covers))
