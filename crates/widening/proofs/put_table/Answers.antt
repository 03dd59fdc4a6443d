-- `widening::put_table` meets its contract: the parts of the section table are stored one behind the other.
use mathlib.Core.Path.{◌≡◌, ap, ◌∙◌}
use Prim.Native.Nat.{◌*◌}
use native.Mathlib.Omega.{arith}
use Rattle.model.specs.Bytes.{bytes4}
use Rattle.model.specs.OldForm.{old_count}
use Rattle.bytes_le.specs.Overlay.{overlay}
use Rattle.model.proofs.Files.OldForms.{OldSections, old_sections}
use Rattle.widening.proofs.NewFiles.{table_stored}
use Rattle.widening.proofs.put_table.Goals as goal
use Rattle.widening.proofs.put_table.Goals.{Start}

-- the old section table
sections : (c : Start) → OldSections c.args.old.now
sections c = old_sections c.args.old.now c.requires.table.sections

pub put_later-requires : goal.put_later-requires
put_later-requires c =
    let o = sections (goal.at.put_later-requires c).Start in
    let t = c.requires.table in
    record {
      is = t.is;
      few = t.few;
      inside = omega arith;
      table = o.table;
      small = omega (arith, o.variables-at, o.ends, o.short, t.few);
      room = omega (arith, c.requires.room, c.put_u32.auto, c.put_u32-2.auto);
    }

pub put_later-requires-2 : goal.put_later-requires-2
put_later-requires-2 c =
    let o = sections (goal.at.put_later-requires-2 c).Start in
    let t = c.requires.table in
    record {
      is = t.is;
      few = t.few;
      inside = omega arith;
      table = o.table;
      small = omega (arith, o.arrays-at, o.ends, o.short, t.few);
      room = omega (arith, c.requires.room, c.put_u32.auto, c.put_u32-2.auto, c.put_later.auto);
    }

pub put_later-requires-3 : goal.put_later-requires-3
put_later-requires-3 c =
    let o = sections (goal.at.put_later-requires-3 c).Start in
    let t = c.requires.table in
    record {
      is = t.is;
      few = t.few;
      inside = omega arith;
      table = o.table;
      small = omega (arith, o.statements-at, o.ends, o.short, t.few);
      room = omega (arith, c.requires.room, c.put_u32.auto, c.put_u32-2.auto, c.put_later.auto, c.put_later-2.auto);
    }

pub returns : goal.returns
returns c =
    let old = c.args.old.now in
    let count : 2 * c.args.count ≡ 2 * old_count old = ap (2 *◌) c.requires.table.is in
    table_stored old c.args.file.now _ _ _ _ _ c.put_u32.ensures (c.put_u32-2.ensures ∙ ap (λ n. overlay c.put_u32.new.out 4 (bytes4 n)) count)
    c.put_later.ensures c.put_later-2.ensures c.put_later-3.ensures
