-- What a region of lent scratch holds: a set of at most 64 conjuncts. Its words are the count, then 64 slots, each a conjunct's node
-- count and room for 120 nodes.
use Rattle.std.specs.Prelude.{Bool, true, false, cond, Result, Ok, Err, List, [], ◌∷◌, ◌++◌, map, ◌⊎◌, ◌≡◌, ℕ, zero, suc, ◌+◌, ◌*◌, ◌≤◌, ◌<◌, ltb, length, get_or, take, drop}
use Rattle.model.specs.Conjunct.{Conj, Conjuncts, with_conjunct, union_of}
use Rattle.model.specs.Sizes.{most_conjuncts, most_nodes}
use Rattle.model.specs.TidySets.{Canon}
use Rattle.conjunct.specs.Word.{nodes_of_lem}

-- the words of a slot
abbrev pub slot_words : ℕ
slot_words = 1 + most_nodes

-- the words of a region
abbrev pub region_words : ℕ
region_words = 1 + most_conjuncts * slot_words

-- at most 64
unfoldable pub few : ℕ → ℕ
few c = cond (ltb c most_conjuncts) c most_conjuncts

-- the words of the conjunct whose slot begins at a
unfoldable pub slot_at : List ℕ → ℕ → List ℕ
slot_at s a = take (get_or s a 0) (take most_nodes (drop (a + 1) s))

-- the words of n conjuncts, slot after slot from a on
unfoldable pub rows_from : List ℕ → ℕ → ℕ → List (List ℕ)
rows_from s a zero = []
rows_from s a (suc n) = slot_at s a ∷ rows_from s (a + slot_words) n

-- the first n conjuncts of a region that begins at b
abbrev pub first_of : List ℕ → ℕ → ℕ → Conjuncts
first_of s b n = map nodes_of_lem (rows_from s (b + 1) n)

-- the conjuncts of a region that begins at b
unfoldable pub rows_of : List ℕ → ℕ → List (List ℕ)
rows_of s b = rows_from s (b + 1) (few (get_or s b 0))

-- the set of a region that begins at b
unfoldable pub set_of : List ℕ → ℕ → Conjuncts
set_of s b = map nodes_of_lem (rows_of s b)

-- nothing outside of the n words from b on differs
abbrev pub Outside : ℕ → ℕ → List ℕ → List ℕ → Type 0
Outside b n s t = (i : ℕ) → (i < b) ⊎ (b + n ≤ i) → get_or t i 0 ≡ get_or s i 0

-- nothing outside of the region at b differs
abbrev pub Within : ℕ → List ℕ → List ℕ → Type 0
Within b s t = Outside b region_words s t

-- two parts of n words each have no word in common
abbrev pub Apart : (n a b : ℕ) → Type 0
Apart n a b = (a + n ≤ b) ⊎ (b + n ≤ a)

-- two such parts that lie in the words
pub record TwoApart (n : ℕ) (s : List ℕ) (a b : ℕ) : Type 0 where
  pub first : a + n ≤ length s
  pub second : b + n ≤ length s
  pub apart : Apart n a b

-- two slots that lie in the words and have no word in common
abbrev pub TwoSlots : List ℕ → ℕ → ℕ → Type 0
TwoSlots s a b = TwoApart slot_words s a b

-- two such regions
abbrev pub TwoRegions : List ℕ → ℕ → ℕ → Type 0
TwoRegions s a b = TwoApart region_words s a b

-- a region that is added to, or searched: it lies in the words, and its set is canonical
pub record Room (s : List ℕ) (b : ℕ) : Type 0 where
  pub there : b + region_words ≤ length s
  pub canon : Canon (set_of s b)

-- such a region, and another one, apart from it
pub record RoomBeside (s : List ℕ) (b other : ℕ) : Type 0 where
  pub regions : TwoRegions s b other
  pub canon : Canon (set_of s b)

-- a region with space for one conjunct more
pub record Space (s : List ℕ) (b : ℕ) : Type 0 where
  pub there : b + region_words ≤ length s
  pub space : length (set_of s b) < most_conjuncts

-- such a region, and another one, apart from it, whose set is canonical
pub record SpaceBeside (s : List ℕ) (b other : ℕ) : Type 0 where
  pub regions : TwoRegions s b other
  pub space : length (set_of s b) < most_conjuncts
  pub canon : Canon (set_of s other)

-- a place before the i-th of the first n conjuncts of a region, which has space for one more
pub record PlaceIn (s : List ℕ) (b n i : ℕ) : Type 0 where
  pub there : b + region_words ≤ length s
  pub space : n < most_conjuncts
  pub place : i ≤ n

-- a region to write to, and two others, each apart from it: one whose set is taken, and one whose set is left out of it, and canonical
pub record ThreeRegions (s : List ℕ) (to from known : ℕ) : Type 0 where
  pub taken : TwoRegions s to from
  pub left_out : TwoRegions s to known
  pub canon : Canon (set_of s known)

-- what a search is given: the first n conjuncts of a region, which rise, and a conjunct in the first m of other words
pub record Search (s : List ℕ) (b n : ℕ) (w : List ℕ) (m : ℕ) : Type 0 where
  pub few : n ≤ most_conjuncts
  pub there : b + region_words ≤ length s
  pub words : m ≤ length w
  pub canon : Canon (first_of s b n)

-- where a conjunct goes in a set: it is there, or it is put before the i-th
abbrev pub Spotted : Result Unit ℕ → Conj → Conjuncts → Type 0
Spotted (Ok u) e S = with_conjunct e S ≡ S
Spotted (Err i) e S = (i ≤ length S) × (with_conjunct e S ≡ take i S ++ (e ∷ drop i S))

-- an insertion: done, or the set would have over 64
abbrev pub Inserted : Bool → ℕ → Conj → List ℕ → List ℕ → Type 0
Inserted true b e s t = set_of t b ≡ with_conjunct e (set_of s b)
Inserted false b e s t = (t ≡ s) × (most_conjuncts < length (with_conjunct e (set_of s b)))

-- a union of the region at a into that at b: done, or the set would have over 64
abbrev pub Joined : Bool → ℕ → ℕ → List ℕ → List ℕ → Type 0
Joined true a b s t = set_of t b ≡ union_of (set_of s a) (set_of s b)
Joined false a b s t = most_conjuncts < length (union_of (set_of s a) (set_of s b))
