-- `program::calls::call_form` meets its contract.
use Rattle.std.proofs.Common.{ℕ, ◌<◌, ◌∙◌, ◌&&◌, ap, ltb, take, drop, length, arith}
use Rattle.std.proofs.lemmas.Grind.{common_steps}
use borrow.Author.Tests.{eq-eqb, lt-ltb}
use Rattle.model.specs.Bytes.{bytes4}
use Rattle.model.specs.Lists.{every}
use Rattle.model.specs.Program.{unused, call_form_lem}
use Rattle.program.specs.Reading.{tables_of}
use Rattle.program.proofs.calls.call_form.Goals as goal

pub returns-then-q-eq0 : goal.returns-then-q-eq0
unfolding call_form_lem
returns-then-q-eq0 c =
    let q = c.args.q in
    let h = c.variables-v.ensures in
    let n = c.beginning-begun.result.a in
    let same = c.arguments_right.ensures ∙ ap (λ (m : ℕ). every (λ x. ltb x m) (take n (bytes4 q.imm)) && every unused (drop n (bytes4 q.imm))) h in
    let t = c.if-q-eq0.true in
    let target : q.a < length (tables_of c.args.program.now).variables = rw (← h) t.0 in
    rw (lt-ltb _ _ target, ← c.beginning-begun.ensures.1, eq-eqb _ _ t.1, eq-eqb _ _ t.2, ← c.beginning-begun.ensures.0) same

pub returns-else-q-eq0 : goal.returns-else-q-eq0
unfolding call_form_lem
returns-else-q-eq0 c =
    let h = c.variables-v.ensures in
    rw (← c.beginning-begun.ensures.0, ← c.beginning-begun.ensures.1, ← h) (grind (arith, common_steps))
