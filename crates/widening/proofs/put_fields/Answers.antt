-- `widening::put_fields` meets its contract. The invariant: the fields before the turn stand in the new form.
use mathlib.Core.Path.{refl}
use Prim.Native.Nat.{◌+◌}
use native.Mathlib.Omega.{arith}
use lib.ListN.{get_or}
use Rattle.model.proofs.Files.OldForms.{OldSections, old_sections}
use Rattle.widening.proofs.NewFiles.{none_first, field_more}
use Rattle.widening.proofs.put_fields.Goals as goal
use Rattle.widening.proofs.put_fields.Goals.{Start}

sections : (c : Start) → OldSections c.args.old.now
sections c = old_sections c.args.old.now c.requires.table.sections

-- ---- the answers
pub loop-f-init : goal.loop-f-init
loop-f-init c = none_first c.args.old.now (sections (goal.at.loop-f-init c).Start) c.args.file.now

pub bounds-old-f : goal.bounds-old-f
bounds-old-f c =
    let o = sections (goal.at.bounds-old-f c).Start in
    omega (arith, o.ends, c.requires.table.is)

pub loop-f-preserved : goal.loop-f-preserved
loop-f-preserved c =
    let a = c.args in
    let i = c.loop-f.f in
    let ty = get_or a.old.now (32 + i) 0 in
    field_more a.old.now (sections (goal.at.loop-f-preserved c).Start) a.file.now c.loop-f.file i ty c.whole_size.result (omega (arith, c.requires.table.is)) refl
    c.whole_size.ensures c.loop-f.invariant
