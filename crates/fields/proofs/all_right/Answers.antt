-- `fields::all_right` meets its contract.
use Rattle.std.proofs.Common.{◌≡◌, ℕ, ◌/◌, ◌<◌, sym, ◌∙◌, true, false, List, length, get_or, arith}
use Rattle.model.specs.Fields.{Field, field_right, fields_in}
use Rattle.model.proofs.Basics.Passes.{pass_fails, pass_goes, pass_ends}
use Rattle.model.proofs.Files.FieldTables.{fields-length, field_in}
use Rattle.fields.proofs.all_right.Goals as goal

abbrev none : Field
none = record { ty = 0; size = 0 }

-- the entry of a turn
inside : (table : List ℕ) (f : ℕ) → f < length table / 2 → f < length (fields_in table)
inside table f h = rw (fields-length table) h

pub returns-then-not-entry_right : goal.returns-then-not-entry_right
returns-then-not-entry_right c =
    let table = c.args.table.now in
    let f = c.loop-f.f in
    let in_table = inside table f (omega arith) in
    let wrong : field_right (get_or (fields_in table) f none) ≡ false = rw (field_in table f none (omega arith)) (sym c.entry_right.ensures ∙ c.if-not-entry_right.true) in
    sym (pass_fails field_right none (fields_in table) f in_table c.loop-f.invariant wrong)

pub loop-f-preserved : goal.loop-f-preserved
loop-f-preserved c =
    let table = c.args.table.now in
    let f = c.loop-f.f in
    let in_table = inside table f (omega arith) in
    let right : field_right (get_or (fields_in table) f none) ≡ true = rw (field_in table f none (omega arith)) (sym c.entry_right.ensures ∙ c.if-not-entry_right.false) in
    pass_goes field_right none (fields_in table) f in_table c.loop-f.invariant right

pub returns : goal.returns
returns c =
    let table = c.args.table.now in
    sym (pass_ends field_right none (fields_in table) c.loop-f.f (rw (fields-length table) (omega arith)) c.loop-f.invariant)
