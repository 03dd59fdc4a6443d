-- `conjunct::numbering::note` meets its contract.
use mathlib.Core.Path.{sym, ◌∙◌}
use Rattle.conjunct.proofs.numbering.Notes.{noted_other, noted-known, noted-new}
use Rattle.conjunct.proofs.numbering.note.Goals as goal

pub returns-then-not-is_atom : goal.returns-then-not-is_atom
returns-then-not-is_atom c =
    let a = c.args in
    noted_other a.seen.now a.m a.w c.requires.1.atoms (sym c.is_atom.ensures ∙ c.if-not-is_atom.true)

pub returns-in-Ok : goal.returns-in-Ok
returns-in-Ok c =
    let a = c.args in
    let r = c.in-Ok.ensures in
    noted-known a.seen.now a.m a.w c.requires.1.atoms (sym c.is_atom.ensures ∙ c.if-not-is_atom.false)
    c.numbered.result c.in-Ok.k c.numbered.ensures r.number r.has

pub returns-in-Err : goal.returns-in-Err
returns-in-Err c =
    let a = c.args in
    let r = c.in-Err.ensures in
    noted-new a.seen.now a.m a.w c.requires.1.atoms (sym c.is_atom.ensures ∙ c.if-not-is_atom.false)
    c.numbered-in-Err.result c.in-Err.k c.numbered-in-Err.ensures r.number c.requires.1.room r.has
