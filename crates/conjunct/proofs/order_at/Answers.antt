-- `conjunct::order_at` meets its contract.
use mathlib.Core.Path.{sym, ap, ◌∙◌}
use Rattle.std.proofs.Common.{◌≡◌, ◌+◌, ◌-◌, take, drop, arith}
use Rattle.model.specs.Conjunct.{◌then◌, order_numbers}
use Rattle.conjunct.specs.Value.{ordering_of}
use Rattle.conjunct.proofs.Words.{numbers_compared, lists_compared, first_decides, second_decides}
use Rattle.conjunct.proofs.order_at.Goals as goal

pub returns-then-is_ne : goal.returns-then-is_ne
returns-then-is_ne c =
    let a = c.args in
    let o = order_numbers (take a.n (drop a.a a.s.now)) (take a.m (drop a.b a.t.now)) in
    first_decides _ o (sym c.is_ne.ensures ∙ c.if-is_ne.true)
    ∙ ap (λ r. r then o) (ap ordering_of c.cmp-sizes.ensures ∙ numbers_compared a.n a.m)

pub returns : goal.returns
returns c =
    let a = c.args in
    let o = order_numbers (take a.n (drop a.a a.s.now)) (take a.m (drop a.b a.t.now)) in
    let d : a.a + a.n - a.a ≡ a.n = omega arith in
    let e : a.b + a.m - a.b ≡ a.m = omega arith in
    ap ordering_of (rw (d, e) at c.cmp.ensures)
    ∙ lists_compared (take a.n (drop a.a a.s.now)) (take a.m (drop a.b a.t.now))
    ∙ second_decides _ o (sym c.is_ne.ensures ∙ c.if-is_ne.false)
    ∙ ap (λ r. r then o) (ap ordering_of c.cmp-sizes.ensures ∙ numbers_compared a.n a.m)
