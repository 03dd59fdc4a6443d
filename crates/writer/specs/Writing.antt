-- What the functions that write a condition file are given and promise. A conjunct is written with the nodes' bytes of the file where
-- its nodes have a place in one (`FileNode`); where it ends is known in any case.
use mathlib.Core.List.{List, flat_map}
use Rattle.std.specs.Prelude.{◌≡◌, ℕ, ◌+◌, ◌*◌, ◌≤◌, ◌<◌, ◌^◌, length}
use Rattle.model.specs.Condition.{conjunct_bytes, encode, condition_bytes}
use Rattle.model.specs.Fields.{Field, types_in}
use Rattle.model.specs.Conjunct.{Conj, Conjuncts}
use Rattle.model.specs.Lists.{All}
use Rattle.model.specs.Sizes.{pair_size_lem, field_size, most_fields, most_nodes, most_conjuncts, node_size, counts_size}
use Rattle.model.specs.Formed.{size, FileNode, Formed}
use Rattle.bytes_le.specs.Overlay.{overlay}
use Rattle.program.specs.Reading.{ProgramIsRead, tables_of}
use Rattle.sets.specs.Region.{set_of, region_words}

-- the bytes of the longest conjunct, of the pairs of the largest set, and of its conjuncts
abbrev pub conjunct_room : ℕ
conjunct_room = node_size * most_nodes

abbrev pub pairs_room : ℕ
pairs_room = pair_size_lem * most_conjuncts

abbrev pub conjuncts_room : ℕ
conjuncts_room = most_conjuncts * conjunct_room

-- where the first conjunct begins at the latest: behind two counts, the fields and the pairs
abbrev pub last_begin : ℕ
last_begin = counts_size + field_size * most_fields + pairs_room

-- room for a pair from a on, and the pair's numbers: where a conjunct begins, and how many nodes it has
pub record PairFits (out : List ℕ) (a place n : ℕ) : Type 0 where
  pub room : a + pair_size_lem ≤ length out
  pub begin : place < 2 ^ 32
  pub few : n ≤ most_nodes

-- a set in the region at b of s, and room for so many bytes from a on
pub record SetAndRoom (bytes : ℕ) (s : List ℕ) (b : ℕ) (out : List ℕ) (a : ℕ) : Type 0 where
  pub region : b + region_words ≤ length s
  pub room : a + bytes ≤ length out

-- a conjunct is written from a on, to r
pub record ConjunctWritten (e : Conj) (a : ℕ) (before after : List ℕ) (r : ℕ) : Type 0 where
  pub end : r ≡ a + 8 * length e
  pub most : r ≤ a + conjunct_room
  pub bytes : (types : List ℕ) → All (FileNode types) e → after ≡ overlay before a (conjunct_bytes e)

-- the conjuncts of a set are written from a on, to r
pub record ConjunctsWritten (S : Conjuncts) (a : ℕ) (before after : List ℕ) (r : ℕ) : Type 0 where
  pub end : r ≡ a + 8 * size S
  pub most : r ≤ a + conjuncts_room
  pub bytes : (types : List ℕ) → All (All (FileNode types)) S → after ≡ overlay before a (flat_map conjunct_bytes S)

-- what the writing of a file is given: a program that is read, the region at b of s with a set that can be written, and room
pub record Writable (program : List ℕ) (s : List ℕ) (b : ℕ) (out : List ℕ) : Type 0 where
  pub read : ProgramIsRead program
  pub region : b + region_words ≤ length s
  pub room : condition_bytes ≤ length out
  pub formed : All (Formed (types_in (tables_of program).fields)) (set_of s b)

-- the file of a set is written, in r bytes
pub record FileWritten (fields : List Field) (S : Conjuncts) (before after : List ℕ) (r : ℕ) : Type 0 where
  pub end : r ≡ length (encode fields S)
  pub most : r ≤ condition_bytes
  pub bytes : after ≡ overlay before 0 (encode fields S)
