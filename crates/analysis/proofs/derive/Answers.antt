-- `analysis::derive` meets its contract; the work is handed the documented words alone.
use mathlib.Core.Path.{refl}
use mathlib.Core.Logic.{⊎_elim}
use lib.ListN.{length, length-set}
use Rattle.program.proofs.Known.{is_read}
use native.Mathlib.Omega.{arith}
use Rattle.std.proofs.lemmas.List.{length-take}
use Rattle.std.proofs.lemmas.Result.{err_from_is_err_and}
use Rattle.analysis.proofs.Files.{output-short, scratch-short, refused-idle, unread_refused, derived-read}
use Rattle.analysis.proofs.derive.Goals as goal

pub returns-then-condition-lt-CONDITION : goal.returns-then-condition-lt-CONDITION
returns-then-condition-lt-CONDITION c =
    let a = c.args in
    let output = length a.condition.now in
    let scratch = length a.scratch.now in
    ⊎_elim (output-short output scratch a.program.now a.condition.now a.scratch.now)
    (λ p. scratch-short output scratch a.program.now a.condition.now a.scratch.now p.0 p.1) c.then-condition-lt-CONDITION.either

pub derive_read-requires : goal.derive_read-requires
derive_read-requires c =
    let known = is_read c.args.program.now c.read.result c.in_ok-program.program c.read.ensures.bytes c.in_ok-program.was in
    record {
      read = rw known.0 known.1;
      room = c.if-condition-lt-CONDITION.false;
      words = simp (length-take, length-set) (omega arith);
    }

pub returns-in_err-program : goal.returns-in_err-program
returns-in_err-program c =
    let a = c.args in
    let gone = err_from_is_err_and c.from_residual.result c.from_residual.ensures.1 in
    rw (gone.1, gone.2)
    (refused-idle (length a.condition.now) (length a.scratch.now) a.program.now _ a.condition.now a.scratch.now
    (unread_refused (length a.condition.now) (length a.scratch.now) a.program.now c.if-condition-lt-CONDITION.false c.if-scratch-lt-SCRATCH.false _ c.in_err-program.ensures.layout))

pub returns : goal.returns
returns c =
    let a = c.args in
    let known = is_read a.program.now c.read.result c.in_ok-program.program c.read.ensures.bytes c.in_ok-program.was in
    derived-read (length a.condition.now) (length a.scratch.now) a.program.now a.condition.now a.scratch.now c.if-condition-lt-CONDITION.false
    c.if-scratch-lt-SCRATCH.false refl known.1.outline known.1.read c.derive_read.result c.derive_read.new.condition c.derive_read.new.scratch (rw known.0 at c.derive_read.ensures) c.derive_read.auto.scratch
