-- `program::calls::arguments_right` meets its contract. The invariant: the bytes before j pass, those from j on are left.
use Rattle.std.proofs.Common.{sym, ◌∙◌, ◌<◌, ℕ, List, Bool, ltb, length, arith}
use Rattle.model.specs.Bytes.{bytes4}
use Rattle.model.specs.Program.{unused}
use Rattle.program.proofs.calls.Arguments.{parted, parted_first, parted_other, parted_past, four_bytes}
use Rattle.program.proofs.calls.arguments_right.Goals as goal
use Rattle.program.proofs.calls.arguments_right.Goals.{In-loop-j, After-argument-x, Then-not-right, Else-not-right, then-j-n, else-j-n}

-- the tests of an immediate's bytes
abbrev passes : ℕ → ℕ → List ℕ → Bool
passes variables n xs = parted (λ x. ltb x variables) unused n xs

in_list : (imm j : ℕ) → j < 4 → j < length (bytes4 imm)
in_list imm j h = rw (four_bytes imm) h

pub returns-then-not-right : goal.returns-then-not-right
unfolding parted
returns-then-not-right c =
    let a = c.args in
    let lp = c.loop-j in
    let xs = bytes4 a.imm in
    let h = in_list a.imm lp.j c.loop-j-test.true in
    sym (lp.invariant ∙ elim c.if-j-n.branch [
      | then-j-n w ↦ parted_first _ unused a.n xs lp.j h _ c.argument-x.ensures w.if-j-n.true ∙ rw (sym w.right-is ∙ c.if-not-right.true)
      | else-j-n w ↦ parted_other _ unused a.n xs lp.j h _ c.argument-x.ensures w.if-j-n.false ∙ rw (sym w.right-is ∙ c.if-not-right.true)
    ])

pub loop-j-preserved : goal.loop-j-preserved
loop-j-preserved c =
    let a = c.args in
    let lp = c.loop-j in
    let xs = bytes4 a.imm in
    let h = in_list a.imm lp.j c.loop-j-test.true in
    lp.invariant ∙ elim c.if-j-n.branch [
      | then-j-n w ↦ parted_first _ unused a.n xs lp.j h _ c.argument-x.ensures w.if-j-n.true ∙ rw (sym w.right-is ∙ c.if-not-right.false)
      | else-j-n w ↦ parted_other _ unused a.n xs lp.j h _ c.argument-x.ensures w.if-j-n.false ∙ rw (sym w.right-is ∙ c.if-not-right.false)
    ]

pub returns : goal.returns
unfolding parted
returns c =
    let lp = c.loop-j in
    let a = c.args in
    sym (lp.invariant ∙ parted_past _ unused a.n (bytes4 a.imm) lp.j (rw (four_bytes a.imm) (omega arith)))
