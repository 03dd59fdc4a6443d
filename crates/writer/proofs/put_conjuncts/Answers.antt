-- `writer::put_conjuncts` meets its contract.
use mathlib.Core.List.{flat_map, []}
use mathlib.Core.Path.{◌≡◌, ap, ◌∙◌}
use Prim.Native.Nat.{◌+◌, ◌*◌, ◌<◌}
use native.Mathlib.Numerals.{add-one}
use native.Mathlib.Omega.{arith}
use lib.ListN.{length, take, get_or}
use lib.Seq.{take_all}
use borrow.Author.Rules.{rules}
use Rattle.bytes_le.proofs.Overlays.{overlay-none}
use Rattle.model.specs.Condition.{conjunct_bytes}
use Rattle.model.specs.Formed.{size}
use Rattle.bytes_le.specs.Overlay.{overlay}
use Rattle.conjunct.specs.Value.{conj_of}
use Rattle.sets.specs.Region.{set_of}
use Rattle.writer.proofs.Written.{size_more, conjuncts_more}
use Rattle.writer.proofs.put_conjuncts.Goals as goal

pub loop-i-init : goal.loop-i-init
unfolding flat_map
loop-i-init c =
    let a = c.args in (
      search rules,
      search rules,
      λ types f. overlay-none a.out.now a.a,
    )

pub loop-i-preserved : goal.loop-i-preserved
loop-i-preserved c =
    let a = c.args in
    let S = set_of a.s.now a.b in
    let d = conj_of c.get-n.new.out c.get-n.result in
    let inside : c.loop-i.i < length S = omega arith in
    let nodes : length d ≡ length (get_or S c.loop-i.i []) = ap length c.get-n.ensures.1 in
    let more : size (take (c.loop-i.i + 1) S) ≡ size (take c.loop-i.i S) + length (get_or S c.loop-i.i []) = rw (add-one c.loop-i.i) (size_more S c.loop-i.i inside) in (
      omega arith,
      omega arith,
      λ types f.
          conjuncts_more types S f a.out.now c.loop-i.out c.put_conjunct-place.new.out a.a c.loop-i.i c.loop-i.place inside d c.get-n.ensures.1 c.loop-i.invariant.1
          (c.loop-i.invariant.2 types f) (c.put_conjunct-place.ensures.bytes types),
    )

pub returns : goal.returns
returns c =
    let a = c.args in
    let S = set_of a.s.now a.b in
    let all = take_all c.loop-i.i S (omega arith) in
    record {
      end = c.loop-i.invariant.1 ∙ ap (λ R. a.a + 8 * size R) all;
      most = omega arith;
      bytes = λ types f. c.loop-i.invariant.2 types f ∙ ap (λ R. overlay a.out.now a.a (flat_map conjunct_bytes R)) all;
    }
