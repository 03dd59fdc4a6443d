-- `condition::reading_right` meets its contract.
use borrow.Author.Tests.{lt-ltb, le-ltb}
use Rattle.model.proofs.Files.FieldTables.{types-length, type_in}
use Rattle.condition.proofs.reading_right.Goals as goal

pub returns-then-field-fields : goal.returns-then-field-fields
returns-then-field-fields c =
    let g = c.args in
    rw (types-length g.fields.now, lt-ltb _ _ c.if-field-fields.true, type_in g.fields.now g.field c.if-field-fields.true)

pub returns-else-field-fields : goal.returns-else-field-fields
returns-else-field-fields c = rw (types-length c.args.fields.now, le-ltb _ _ c.if-field-fields.false)
