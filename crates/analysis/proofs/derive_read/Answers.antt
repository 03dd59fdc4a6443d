-- `analysis::derive_read` meets its contract.
use Rattle.std.proofs.lemmas.Result.{err_from_is_err_and}
use Rattle.analysis.proofs.Files.{rows_refusal}
use Rattle.analysis.proofs.derive_read.Goals as goal

pub returns-in_err-n : goal.returns-in_err-n
returns-in_err-n c =
    let gone = err_from_is_err_and c.from_residual.result c.from_residual.ensures.1 in
    rw (gone.1, gone.2) (rows_refusal c.args.program.now _ c.args.condition.now c.in_err-n.ensures)
