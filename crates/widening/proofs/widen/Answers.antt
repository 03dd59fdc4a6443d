-- `widening::widen` meets its contract: the section table, the fields and the rest are stored one behind the other.
use Prim.Native.Nat.{◌+◌}
use native.Mathlib.Omega.{arith}
use Rattle.model.proofs.Files.OldForms.{OldSections, old_sections, new-length}
use Rattle.widening.proofs.NewFiles.{rest-length, rest_stored, file_stored}
use Rattle.widening.proofs.widen.Goals as goal
use Rattle.widening.proofs.widen.Goals.{Start}

sections : (c : Start) → OldSections c.args.old.now
sections c = old_sections c.args.old.now c.requires.table.sections

pub slice_bounds-rest-count : goal.slice_bounds-rest-count
slice_bounds-rest-count c = let o = sections (goal.at.slice_bounds-rest-count c).Start in omega (arith, o.ends, c.requires.table.is)

pub slice_bounds-rest-start : goal.slice_bounds-rest-start
slice_bounds-rest-start c = let o = sections (goal.at.slice_bounds-rest-start c).Start in omega (arith, o.ends, c.requires.table.is)

pub overflow_sub-n : goal.overflow_sub-n
overflow_sub-n c = let o = sections (goal.at.overflow_sub-n c).Start in omega (arith, o.ends, c.requires.table.is)

pub put_bytes-requires : goal.put_bytes-requires
put_bytes-requires c =
    let o = sections (goal.at.put_bytes-requires c).Start in
    let rest = rest-length c.args.old.now (32 + c.args.count) in
    (omega (arith, rest), omega (arith, c.requires.room, c.requires.table.few, o.short, o.ends, c.requires.table.is, c.put_table.auto, c.put_fields.auto))

pub returns : goal.returns
returns c =
    let o = sections (goal.at.returns c).Start in
    let old = c.args.old.now in
    let is = c.requires.table.is in
    record {
      all = omega (arith, new-length old o, is);
      most = omega (arith, o.short, c.requires.table.few);
      bytes = file_stored old o c.args.file.now _ _ _ c.put_table.ensures c.put_fields.ensures
          (rest_stored old _ _ c.args.count is c.put_bytes.ensures);
    }
