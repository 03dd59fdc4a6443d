-- `widening::convert_few` meets its contract.
use mathlib.Core.Path.{◌≡◌, refl, ap, ◌∙◌}
use mathlib.Core.List.{List}
use Prim.Native.Nat.{ℕ, ◌-◌}
use native.Mathlib.Omega.{arith}
use lib.ListN.{length, take}
use Rattle.std.proofs.lemmas.Result.{err_from_is_err_and}
use Rattle.model.specs.OldForm.{new_form}
use Rattle.model.proofs.Files.Lent.{documented_part}
use Rattle.code_table.specs.Table.{table_words}
use Rattle.program.specs.Reading.{ProgramIsRead}
use Rattle.program.proofs.Known.{is_read}
use Rattle.widening.proofs.Answers.{new-refused, new_copied}
use Rattle.widening.proofs.NewFiles.{file-first}
use Rattle.widening.proofs.convert_few.Goals as goal
use Rattle.widening.proofs.convert_few.Goals.{After-widen-n, In_ok-program}

-- the bytes of the new file, which are read
abbrev new : After-widen-n → List ℕ
new c = take (c.widen-n.result - 0) c.widen-n.new.file

is-new : (c : After-widen-n) → new c ≡ new_form c.args.old.now
is-new c =
    let w = c.widen-n.ensures in
    let old = c.args.old.now in
    let whole : c.widen-n.result - 0 ≡ length (new_form old) = omega (arith, w.all) in
    ap (λ n. take n c.widen-n.new.file) whole ∙ file-first _ c.widen-n.new.file (new_form old) w.bytes (omega (arith, w.most, w.all))

-- the program that is read is the new file
known : (c : In_ok-program) → (c.in_ok-program.program ≡ new (goal.at.In_ok-program c).After-widen-n) × ProgramIsRead (new (goal.at.In_ok-program c).After-widen-n)
known c = is_read (new (goal.at.In_ok-program c).After-widen-n) _ c.in_ok-program.program c.in_ok-program.ensures.bytes refl

pub copy_read-requires : goal.copy_read-requires
copy_read-requires c =
    let p = c.requires.1 in
    let here = (goal.at.copy_read-requires c).In_ok-program in
    let same = ap length (known here).0 in
    let l : length (new (goal.at.copy_read-requires c).After-widen-n) ≡ length (new_form c.args.old.now) = ap length (is-new (goal.at.copy_read-requires c).After-widen-n) in (
      rw (known here).0 (known here).1,
      record {
        bytes = omega (arith, same, l, c.widen-n.ensures.all, c.widen-n.ensures.most, p.bytes);
        words = documented_part table_words c.args.scratch.now p.words;
      },
    )

pub returns-in_err-program : goal.returns-in_err-program
returns-in_err-program c =
    let a = c.args in
    let w = (goal.at.returns-in_err-program c).After-widen-n in
    let p = err_from_is_err_and c.from_residual.result c.from_residual.ensures.1 in
    rw (p.1, p.2)
    (new-refused a.old.now a.count c.requires.0 (new w) (is-new w) c.in_err-program.field-0.0 a.output.now a.scratch.now c.in_err-program.ensures.layout)

pub returns : goal.returns
returns c =
    let a = c.args in
    let k = known (goal.at.returns c).In_ok-program in
    new_copied a.old.now a.count c.requires.0 (new (goal.at.returns c).After-widen-n) (is-new (goal.at.returns c).After-widen-n) k.1.outline k.1.read c.copy_read.result a.output.now
    c.copy_read.new.output c.copy_read.new.scratch a.scratch.now (rw k.0 at c.copy_read.ensures) c.copy_read.auto.scratch c.requires.1.words
