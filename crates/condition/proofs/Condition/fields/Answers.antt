-- `condition::Condition::fields` meets its contract.
use mathlib.Core.Path.{◌∙◌, ap, sym}
use Prim.Native.Nat.{◌+◌, ◌*◌, ◌≤◌}
use native.Mathlib.Omega.{arith}
use lib.ListN.{length}
use Rattle.model.specs.Sizes.{field_size, counts_size}
use Rattle.condition.specs.Answers.{fields_at}
use Rattle.condition.proofs.Table.{counted-read, form-read, fields-many, fields-taken, table-length}
use Rattle.condition.proofs.Condition.fields.Goals as goal

pub overflow_mul-end : goal.overflow_mul-end
overflow_mul-end c = omega (arith, (counted-read c.self.inside.bytes.now c.self.inside.counts c.self.invariant).table)

pub overflow_add-end : goal.overflow_add-end
overflow_add-end c = omega (arith, (counted-read c.self.inside.bytes.now c.self.inside.counts c.self.invariant).table)

pub slice_bounds-result-end : goal.slice_bounds-result-end
slice_bounds-result-end c = omega (arith, (counted-read c.self.inside.bytes.now c.self.inside.counts c.self.invariant).table)

pub returns-clause-table : goal.returns-clause-table
returns-clause-table c =
    let s = c.self.inside.bytes.now in
    let f = c.self.inside.counts.fields in
    let k = counted-read s c.self.inside.counts c.self.invariant in
    let room : counts_size + field_size * f ≤ length s = omega (arith, k.table) in
    rw (← c.self.view_is) (
      fields-taken s f room ∙ ap (fields_at s) k.fields,
      table-length s f room ∙ ap (λ n. field_size * n) (k.fields ∙ sym (fields-many s _)),
    )

pub returns-clause-read : goal.returns-clause-read
returns-clause-read c = let s = c.self.inside.bytes.now in rw (← c.self.view_is) (form-read s c.self.inside.counts c.self.invariant)
