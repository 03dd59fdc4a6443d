-- `writer::put_pairs` meets its contract.
use mathlib.Core.Path.{◌≡◌}
use Prim.Native.Nat.{◌+◌, ◌<◌}
use native.Mathlib.Numerals.{add-one}
use native.Mathlib.Omega.{arith}
use lib.ListN.{length, take}
use borrow.Author.Rules.{rules}
use Rattle.bytes_le.proofs.Overlays.{overlay-none}
use Rattle.model.specs.Condition.{pair_bytes}
use Rattle.model.specs.Formed.{size}
use Rattle.sets.specs.Region.{set_of}
use Rattle.writer.proofs.Written.{size_more, pairs_more}
use Rattle.writer.proofs.put_pairs.Goals as goal

pub loop-i-init : goal.loop-i-init
unfolding pair_bytes
loop-i-init c =
    let a = c.args in (
      search rules,
      search rules,
      overlay-none a.out.now a.a,
    )

pub loop-i-preserved : goal.loop-i-preserved
loop-i-preserved c =
    let a = c.args in
    let S = set_of a.s.now a.b in
    let inside : c.loop-i.i < length S = omega arith in
    let more : size (take (c.loop-i.i + 1) S) ≡ size (take c.loop-i.i S) + c.node_count-n.result = rw (add-one c.loop-i.i, c.node_count-n.ensures.1) (size_more S c.loop-i.i inside) in (
      omega arith,
      omega arith,
      pairs_more S a.out.now c.loop-i.out c.put_pair.new.out a.a a.begin c.loop-i.i c.loop-i.place c.node_count-n.result inside c.loop-i.invariant.1 c.node_count-n.ensures.1
          c.loop-i.invariant.2 c.put_pair.ensures,
    )
