-- What the functions for one conjunct are given and promise: the right side of an assignment, and what is added to the set of a region.
use Rattle.std.specs.Prelude.{false, List, [], ◌≢◌, ◌≡◌, ℕ, ◌+◌, ◌≤◌, ◌<◌, ◌^◌, length, Ok, Err}
use Rattle.model.specs.Code.{Right, number, copy, calc, change, read, load}
use Rattle.model.specs.Conjunct.{Conjuncts, union_of, long, limits}
use Rattle.model.specs.Lists.{All}
use Rattle.model.specs.Refusals.{refused}
use Rattle.model.specs.Kinds.{Kind, a_number, a_copy, an_operation, a_conversion, a_read, a_load, a_store, a_site, an_if, an_else, an_end, a_while, a_procedure, a_call, no_kind_lem, kind_of}
use Rattle.model.specs.Sizes.{most_nodes}
use Rattle.model.specs.TidySets.{Canon, Sub, Numbered}
use Rattle.code_table.specs.declared.Decoded.{Decoded}
use Rattle.code_table.specs.Statements.{number_of, OfKind, Known}
use Rattle.conjunct.specs.Value.{conj_of, ConjunctIn}
use Rattle.sets.specs.Region.{set_of, Room, region_words}
use Rattle.refusals.specs.Answers.{number_of as refusal_number}
use Rattle.rules.specs.Answers.{Answer}

-- the right side of an assignment of a kind; a load for every kind that is none
abbrev pub side_for : Kind → Decoded → Right
side_for a_number d = number d.imm
side_for a_copy d = copy d.b
side_for (an_operation o) d = calc o d.b d.c
side_for a_conversion d = change d.b d.from
side_for a_read d = read d.b
side_for a_load d = load d.b d.len d.c
side_for a_store d = load d.b d.len d.c
side_for a_site d = load d.b d.len d.c
side_for an_if d = load d.b d.len d.c
side_for an_else d = load d.b d.len d.c
side_for an_end d = load d.b d.len d.c
side_for a_while d = load d.b d.len d.c
side_for a_procedure d = load d.b d.len d.c
side_for a_call d = load d.b d.len d.c
side_for no_kind_lem d = load d.b d.len d.c

-- the right side of an assignment
unfoldable pub side_of : Decoded → Right
side_of d = side_for (kind_of d.kind) d

-- no conjunct has over 120 nodes
abbrev pub NoneLong : Conjuncts → Type 0
NoneLong G = long G ≡ false

-- the conjuncts R added to the set of the region at b; or, of every canonical set that has all of both and for which P holds, the
-- limits' refusal r
abbrev pub Added : Answer → (Conjuncts → Type 0) → Conjuncts → ℕ → List ℕ → List ℕ → Type 0
Added (Ok u) P R b s t = set_of t b ≡ union_of R (set_of s b)
Added (Err r) P R b s t = (G : Conjuncts) → Canon G → Sub (union_of R (set_of s b)) G → P G → limits G ≡ refused (refusal_number r)

-- two lists of words to work in, each of 120 or more
abbrev pub Buffers : List ℕ → List ℕ → Type 0
Buffers out seen = (most_nodes ≤ length out) × (most_nodes ≤ length seen)

-- three such lists
pub record Working (e out seen : List ℕ) : Type 0 where
  pub conjunct : most_nodes ≤ length e
  pub others : Buffers out seen

-- a conjunct in the first n words that is to be numbered anew, and words to work in
pub record Renumbered (e : List ℕ) (n : ℕ) (seen : List ℕ) : Type 0 where
  pub conjunct : ConjunctIn e n
  pub space : most_nodes ≤ length seen

-- a choice among the subsets of some atoms, for a conjunct in the first n words: the j-th
pub record Choosing (w : List ℕ) (n : ℕ) (ks : List ℕ) (j : ℕ) : Type 0 where
  pub conjunct : n ≤ length w
  pub few : length ks ≤ 6
  pub subset : j < 2 ^ length ks

-- what is given with one conjunct: a region to add to, the conjunct in the first n words of e, and words to work in
pub record Given (s : List ℕ) (b : ℕ) (e : List ℕ) (n : ℕ) (out seen : List ℕ) : Type 0 where
  pub room : Room s b
  pub few : n ≤ most_nodes
  pub there : n ≤ length e
  pub buffers : Buffers out seen

-- a statement with its label, of a kind up to the last
pub record Labelled (l : ℕ) (d : Decoded) (last : Kind) : Type 0 where
  pub label : l < 2 ^ 16
  pub kind : d.kind ≤ number_of last
  pub known : Known d

-- a store to an array of several cells
pub record SeveralCells (d : Decoded) : Type 0 where
  pub store : OfKind a_store d
  pub several : d.len ≢ 1
  pub known : Known d

-- what is given with one conjunct, which is numbered, and such a store
pub record GivenStore (s : List ℕ) (b : ℕ) (e : List ℕ) (n : ℕ) (out seen : List ℕ) (d : Decoded) : Type 0 where
  pub given : Given s b e n out seen
  pub statement : SeveralCells d
  pub numbered : Numbered (conj_of e n)

-- what is given with the set of the region at b: such a store, an empty room after the region, and that each conjunct is numbered
pub record GivenSet (s : List ℕ) (b room : ℕ) (d : Decoded) : Type 0 where
  pub apart : b + region_words ≤ room
  pub there : room + region_words ≤ length s
  pub empty : set_of s room ≡ []
  pub statement : SeveralCells d
  pub numbered : All Numbered (set_of s b)
