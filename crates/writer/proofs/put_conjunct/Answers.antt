-- `writer::put_conjunct` meets its contract.
use mathlib.Core.List.{flat_map}
use mathlib.Core.Path.{◌≡◌, ap, ◌∙◌}
use native.Mathlib.Omega.{arith}
use lib.ListN.{length, get_or}
use lib.Seq.{take_all}
use Rattle.bytes_le.proofs.Overlays.{overlay-none}
use Rattle.model.specs.Condition.{conjunct_bytes}
use Rattle.bytes_le.specs.Overlay.{overlay}
use Rattle.conjunct.specs.Value.{conj_of}
use Rattle.writer.proofs.Written.{word_at, words_count, conjunct_more}
use Rattle.writer.proofs.put_conjunct.Goals as goal

pub loop-i-init : goal.loop-i-init
unfolding conjunct_bytes flat_map
loop-i-init c =
    let a = c.args in λ types f. overlay-none a.out.now a.a

pub loop-i-preserved : goal.loop-i-preserved
loop-i-preserved c =
    let a = c.args in
    let w = a.w.now in
    let e = conj_of w a.n in
    let count : length e ≡ a.n = words_count w a.n (omega arith) in
    λ types f.
    conjunct_more types e f a.out.now c.loop-i.out c.put_high_first.new.out a.a c.loop-i.i (get_or w c.loop-i.i 0) _ (omega arith)
    (word_at w a.n c.loop-i.i (omega arith)) (c.filed.ensures types) (c.loop-i.invariant types f) c.put_high_first.ensures

pub returns : goal.returns
returns c =
    let a = c.args in
    let e = conj_of a.w.now a.n in
    let count : length e ≡ a.n = words_count a.w.now a.n (omega arith) in
    record {
      end = omega arith;
      most = omega arith;
      bytes = λ types f. c.loop-i.invariant types f ∙ ap (λ d. overlay a.out.now a.a (conjunct_bytes d)) (take_all c.loop-i.i e (omega arith));
    }
