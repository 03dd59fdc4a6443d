-- `conjunct::numbering::look_up` meets its contract.
use mathlib.Core.Bool.{Bool, true, false, cond}
use mathlib.Core.Path.{◌≡◌, refl, ap₂, ◌∙◌}
use mir.Val.{bool_byte}
use lib.Dec.{eqb}
use Rattle.conjunct.specs.Word.{key_of}
use Prim.Native.Nat.{◌≤◌}
use native.Mathlib.Omega.{arith}
use lib.ListN.{length, take, get_or}
use lib.Seq.{length-take-le}
use borrow.Author.Rules.{rules}
use Rattle.conjunct.proofs.numbering.Ranks.{left-all, left_met, left-past, left-none}
use Rattle.conjunct.proofs.numbering.look_up.Goals as goal

pub loop-j-init : goal.loop-j-init
loop-j-init c = (
  search rules,
  c.source-s.ensures,
  left-all c.args.seen.now c.args.m c.args.w,
)

pub returns-then-k-w : goal.returns-then-k-w
returns-then-k-w c =
    let a = c.args in
    let p = c.requires in
    let h : a.m ≤ length a.seen.now = p.0.there in
    let len : length (take a.m a.seen.now) ≡ a.m = length-take-le a.m a.seen.now (omega arith) in
    let lp = c.loop-j in
    let f = left_met a.seen.now a.m a.w (omega arith) p.0.atoms p.1 lp.j lp.n lp.invariant.2 (omega arith) c.if-k-w.true in
    record { has = f.1; number = f.0; small = omega arith }

-- a test as a number
counted : (b : Bool) → (bool_byte b ≡ cond b 1 0) × (bool_byte b ≤ 1)
counted true = (refl, omega arith)
counted false = (refl, omega arith)

pub loop-j-preserved : goal.loop-j-preserved
loop-j-preserved c =
    let a = c.args in
    let p = c.requires in
    let h : a.m ≤ length a.seen.now = p.0.there in
    let lp = c.loop-j in
    let one = counted (eqb c.source-s.result c.source.result) in
    let same : bool_byte (eqb c.source-s.result c.source.result) ≡ cond (eqb (key_of a.w) (key_of (get_or a.seen.now lp.j 0))) 1 0 =
    one.0 ∙ ap₂ (λ x y. cond (eqb x y) 1 0) lp.invariant.1 c.source.ensures in (
      omega (arith, one.1),
      lp.invariant.1,
      rw same (left-past a.seen.now a.m a.w (omega arith) p.0.atoms p.1 lp.j lp.n lp.invariant.2 (omega arith) c.if-k-w.false),
    )

pub returns : goal.returns
returns c =
    let a = c.args in
    let p = c.requires in
    let h : a.m ≤ length a.seen.now = p.0.there in
    let len : length (take a.m a.seen.now) ≡ a.m = length-take-le a.m a.seen.now (omega arith) in
    let lp = c.loop-j in
    let f = left-none a.seen.now a.m a.w (omega arith) p.0.atoms p.1 lp.j lp.n lp.invariant.2 (omega arith) (omega arith) in
    record { has = f.1; number = f.0; small = omega arith }
