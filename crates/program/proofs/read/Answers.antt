-- `program::read` meets its contract: the reader is a chain of checks, and each hands its refusal on.
use Rattle.std.proofs.Common.{◌≡◌, sym, ◌∙◌}
use Rattle.std.proofs.lemmas.Result.{err_from_is_err_and}
use Rattle.std.specs.Prelude.{Ok}
use Rattle.model.specs.Program.{layout_of, sections_right, read_outline}
use Rattle.model.specs.Refusals.{mapped, wrong_sections}
use Rattle.refusals.specs.Answers.{number_of}
use Rattle.program.specs.Reading.{bytes_answer, table_checks}
use Rattle.program.proofs.Answers.{handed_on, by_checks, layout_by_bytes}
use Rattle.program.proofs.sections.Chain.{table-read}
use Rattle.program.proofs.read.Goals as goal

pub returns-in_err-layout : goal.returns-in_err-layout
returns-in_err-layout c =
    let s = c.args.program.now in
    let r = c.from_residual.result in
    let p = err_from_is_err_and c.from_residual.result c.from_residual.ensures.1 in
    let h : bytes_answer r ≡ mapped (λ O. s) (read_outline s) =
    rw (p.1, p.2)
    (handed_on (sections_right s) wrong_sections (number_of c.in_err-layout.field-0.0) (layout_of s) (table_checks s) c.in_err-layout.ensures
    ∙ sym (by_checks s)) in
    record { layout = layout_by_bytes s r h; bytes = h }

pub invariant_of-placed : goal.invariant_of-placed
invariant_of-placed c = (table-read c.args.program.now c.in_ok-layout.layout c.in_ok-layout.ensures).1

pub returns-in_err-checked : goal.returns-in_err-checked
returns-in_err-checked c =
    let s = c.args.program.now in
    let r = c.from_residual-in_err-checked.result in
    let p = err_from_is_err_and c.from_residual-in_err-checked.result c.from_residual-in_err-checked.ensures.1 in
    let right = (table-read s c.in_ok-layout.layout c.in_ok-layout.ensures).0 in
    let h : bytes_answer r ≡ mapped (λ O. s) (read_outline s) = rw (p.1, p.2, by_checks s, right) c.in_err-checked.ensures in
    record { layout = layout_by_bytes s r h; bytes = h }

pub returns : goal.returns
returns c =
    let s = c.args.program.now in
    let read = table-read s c.in_ok-layout.layout c.in_ok-layout.ensures in
    let h : bytes_answer (Ok s) ≡ mapped (λ O. s) (read_outline s) = rw (by_checks s, read.0) c.in_ok-checked.ensures in
    record { layout = layout_by_bytes s (Ok s) h; bytes = h }
