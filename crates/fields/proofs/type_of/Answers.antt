-- `fields::type_of` meets its contract.
use Rattle.std.proofs.Common.{sym}
use lib.ListN.{get_or-eq_default}
use Rattle.model.specs.Fields.{types_in, fields_in}
use Rattle.model.proofs.Files.FieldTables.{length_types, fields-length, type_in}
use Rattle.fields.proofs.type_of.Goals as goal

pub returns-then-table-f : goal.returns-then-table-f
returns-then-table-f c =
    let table = c.args.table.now in
    sym (get_or-eq_default (types_in (fields_in table)) 0 (rw (length_types (fields_in table), fields-length table) c.if-table-f.true))

pub returns : goal.returns
returns c = sym (type_in c.args.table.now c.args.f c.if-table-f.false)
