-- The nodes and conjuncts that a condition file may hold.
use Rattle.std.specs.Prelude.{◌≡◌, true, List, [], ◌∷◌, ℕ, ◌+◌, ◌<◌, length, get_or}
use Rattle.arith.specs.Step.{fits}
use Rattle.arith.specs.Words.{immediate}
use Rattle.model.specs.Lists.{All}
use Rattle.model.specs.Conjunct.{Source, field, cell, Node, const, atom, var, op, conv, Conj, Conjuncts}
use Rattle.model.specs.Condition.{whole}

-- a reading of a listed field in its type
abbrev pub FileSource : List ℕ → Source → Type 0
FileSource types (field f ty) = (f < length types) × (ty ≡ get_or types f 0)
FileSource types (cell l r k ty) = ⊥

-- a constant inside its type, such a reading, or an operation of a type
abbrev pub FileNode : List ℕ → Node → Type 0
FileNode types (const ty i) = (ty < 8) × (fits ty (immediate ty i) ≡ true)
FileNode types (atom a) = FileSource types a.src
FileNode types (var x ty) = ⊥
FileNode types (op o ty) = ty < 8
FileNode types (conv ty) = ty < 8

-- one whole expression, every node with the property N
pub record Whole (N : Node → Type 0) (e : Conj) : Type 0 where
  pub nodes : All N e
  pub one : whole e ≡ true

-- of nodes that a condition file may hold
abbrev pub Formed : List ℕ → Conj → Type 0
Formed types e = Whole (FileNode types) e

-- how many nodes a set has
abbrev pub size : Conjuncts → ℕ
size [] = 0
size (e ∷ S) = length e + size S
