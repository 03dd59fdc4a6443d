-- `conjunct::numbering::note_load` meets its contract.
use mathlib.Core.Path.{sym, ◌∙◌}
use native.Mathlib.Omega.{arith}
use borrow.Author.Rules.{rules}
use Rattle.conjunct.proofs.numbering.LoadsBehind.{load-atom, load-other, load-known, load-new}
use Rattle.conjunct.proofs.numbering.note_load.Goals as goal

pub returns-then-not-is_load : goal.returns-then-not-is_load
returns-then-not-is_load c =
    let a = c.args in (
      omega arith,
      load-other a.array a.len a.seen.now a.m a.w c.requires.atoms
          (sym c.is_load.ensures ∙ c.if-not-is_load.true),
    )

pub look_up-requires : goal.look_up-requires
look_up-requires c =
    let a = c.args in (
      record { there = search rules; atoms = c.requires.atoms },
      load-atom a.array a.len a.w (sym c.is_load.ensures ∙ c.if-not-is_load.false),
    )

pub returns-in-Ok : goal.returns-in-Ok
returns-in-Ok c =
    let a = c.args in (
      omega arith,
      load-known a.array a.len a.seen.now a.m a.w c.requires.atoms
          (sym c.is_load.ensures ∙ c.if-not-is_load.false) c.in-Ok.ensures.has,
    )

pub returns-in-Err : goal.returns-in-Err
returns-in-Err c =
    let a = c.args in (
      omega arith,
      load-new a.array a.len a.seen.now a.m a.w c.requires.atoms c.requires.room
          (sym c.is_load.ensures ∙ c.if-not-is_load.false) c.in-Err.ensures.has,
    )
