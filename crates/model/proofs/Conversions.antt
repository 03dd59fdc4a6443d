-- The converter: there is an answer for every byte string, and a new file is read as the program that the old one was.
use mathlib.Core.Path.{◌≡◌, ap, ◌∙◌}
use mathlib.Core.List.{List}
use Prim.Native.Nat.{ℕ, ◌≤◌}
use native.Mathlib.Omega.{arith}
use lib.ListN.{length}
use Rattle.model.specs.Sizes.{most_program}
use Rattle.model.specs.Refusals.{ok}
use Rattle.model.specs.Program.{read_program}
use Rattle.model.specs.OldForm.{read_old, convert}
use Rattle.model.specs.Demands.{OldRefusal, Conversion}
use Rattle.model.proofs.Files.OldForms.{old_sections, new-length, new-program, converted-read}
use Rattle.model.proofs.Demand1.{answer_of_lem}
use Rattle.model.proofs.RefusalNumbers.{refusals_conversion}

reads_same : (old new : List ℕ) → convert old ≡ ok new → read_program new ≡ read_old old
reads_same old new e = let r = converted-read old new e in ap read_program r.is ∙ new-program old r.sections r.few

fits : (old new : List ℕ) → convert old ≡ ok new → length new ≤ most_program
fits old new e =
    let r = converted-read old new e in
    let o = old_sections old r.sections in
    omega (arith, ap length r.is, new-length old o, o.short, r.few)

pub conversion : Conversion
conversion = record { answered = λ old. answer_of_lem OldRefusal (convert old) (refusals_conversion old); same = reads_same; short = fits }
