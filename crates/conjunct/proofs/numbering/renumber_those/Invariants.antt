-- `conjunct::numbering::renumber_those` meets its contract: the first i words are numbered, and the atoms that passed are held, and no others.
use mathlib.Core.Path.{◌≡◌}
use mathlib.Core.Bool.{Bool}
use Prim.Native.Nat.{ℕ, ◌≤◌}
use lib.ListN.{take}
use Rattle.model.specs.Conjunct.{Source, AtAtom}
use Rattle.conjunct.specs.Behind.{Atoms}
use Rattle.conjunct.specs.Word.{node_of}
use Rattle.conjunct.proofs.numbering.Renumbered.{Numbering}
use Rattle.conjunct.proofs.numbering.renumber_those.Given as goal

abbrev pub invariant-loop-i : goal.invariant-loop-i
invariant-loop-i g l = record {
  few : l.m ≤ l.i;
  atoms : Atoms (take l.m l.seen);
  numbered : (P : Source → Bool) → ((w : ℕ) (b : Bool) → goal.F-post g l.passes w b → AtAtom (λ a. P a.src ≡ b) (node_of w))
      → Numbering P l.words l.initial.words l.seen l.m l.i;
}
