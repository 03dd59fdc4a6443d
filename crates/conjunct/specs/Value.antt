-- What lent words and an answer of a comparison stand for.
use Rattle.std.specs.Prelude.{List, length, take}
use Prim.Native.Nat.{ℕ, ◌≤◌, Ordering}
use Rattle.model.specs.Conjunct.{Conj}
use Rattle.model.specs.Sizes.{most_nodes}
use Rattle.conjunct.specs.Word.{nodes_of_lem}
use Rattle.std.specs.declared.cmp.Ordering.{Ordering as Compared}
use Rattle.std.specs.declared.cmp.Ordering.TheVariants.{Less, Equal, Greater}

-- the nodes of the first n words
abbrev pub conj_of : List ℕ → ℕ → Conj
conj_of w n = nodes_of_lem (take n w)

-- a conjunct in the first n words: they are there, and at most 120
pub record ConjunctIn (w : List ℕ) (n : ℕ) : Type 0 where
  pub few : n ≤ most_nodes
  pub there : n ≤ length w

-- the answer of a comparison
abbrev pub ordering_of : Compared → Ordering
ordering_of Less = Ordering.lt
ordering_of Equal = Ordering.eq
ordering_of Greater = Ordering.gt
