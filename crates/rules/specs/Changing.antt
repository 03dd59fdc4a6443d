-- Statements before which a conjunct comes to one: what a conjunct's slot becomes, and what the slots of a region become.
use Rattle.std.specs.Prelude.{List, [], map, ◌⊎◌, ◌≡◌, ℕ, ◌+◌, ◌*◌, ◌≤◌, ◌<◌, ◌^◌, length, get_or, Ok, Err}
use Rattle.model.specs.Conjunct.{AtAtom, Conj, renumber}
use Rattle.model.specs.Kinds.{a_store, a_site}
use Rattle.model.specs.Lists.{All}
use Rattle.model.specs.Refusals.{refused}
use Rattle.model.specs.Sizes.{most_nodes}
use Rattle.model.specs.TidySets.{Numbered}
use Rattle.model.specs.Walk.{before, back}
use Rattle.code_table.specs.declared.Decoded.{Decoded}
use Rattle.code_table.specs.Statements.{instr_of, OfKind, OtherThan, Known}
use Rattle.conjunct.specs.Behind.{right_of_lem}
use Rattle.conjunct.specs.Word.{nodes_of_lem}
use Rattle.conjunct.specs.declared.numbering.Right.{Right}
use Rattle.sets.specs.Region.{slot_at, set_of, Outside, Within, slot_words, region_words}
use Rattle.rules.specs.Adding.{Buffers, Labelled}
use Rattle.refusals.specs.Answers.{number_of}
use Rattle.rules.specs.Answers.{Answer}
use Rattle.refusals.specs.declared.Refusal.TheVariants.{TooManyNodes}

-- what a conjunct comes to before the statement, where that is one
unfoldable pub image_of : ℕ → Decoded → Conj → Conj
image_of l d e = get_or (map renumber (before l (instr_of d) e)) 0 []

-- a conjunct comes to one: the statement is no store, or one to an array of one cell
abbrev pub ToOne : Decoded → Type 0
ToOne d = OtherThan a_store d ⊎ (d.len ≡ 1)

-- a store to an array of one cell
pub record OneCell (d : Decoded) : Type 0 where
  pub store : OfKind a_store d
  pub one : d.len ≡ 1
  pub known : Known d

-- ---- one slot

-- a slot that lies in the words, with a conjunct that is numbered
pub record NumberedSlot (s : List ℕ) (a : ℕ) : Type 0 where
  pub there : a + slot_words ≤ length s
  pub numbered : Numbered (nodes_of_lem (slot_at s a))

-- a right side that is put into a conjunct: at most three nodes, and fresh atoms
pub record Fresh (r : Right) : Type 0 where
  pub few : r.len ≤ 3
  pub atoms : All (AtAtom (λ a. a.n ≡ 0)) (right_of_lem r)

-- what is given where the right side is one node for the variable x
pub record OneForOne (s : List ℕ) (a x : ℕ) (r : Right) (seen : List ℕ) : Type 0 where
  pub slot : NumberedSlot s a
  pub variable : x < 2 ^ 32
  pub one : r.len ≡ 1
  pub fresh : Fresh r
  pub space : most_nodes ≤ length seen

-- what is given where it is several
pub record SeveralForOne (s : List ℕ) (a : ℕ) (r : Right) (out seen : List ℕ) : Type 0 where
  pub slot : NumberedSlot s a
  pub fresh : Fresh r
  pub buffers : Buffers out seen

-- what is given with the slot at a: a statement with its label, and words to work in
pub record GivenSlot (s : List ℕ) (a label : ℕ) (d : Decoded) (out seen : List ℕ) : Type 0 where
  pub slot : NumberedSlot s a
  pub statement : Labelled label d a_site
  pub buffers : Buffers out seen

-- the slot at a has the conjunct e, and nothing else differs
abbrev pub Renewed : Conj → ℕ → (s t : List ℕ) → Type 0
Renewed e a s t = (nodes_of_lem (slot_at t a) ≡ e) × Outside a slot_words s t

-- the same; or a refusal, for e has over 120 nodes
abbrev pub ChangedTo : Answer → Conj → ℕ → (s t : List ℕ) → Type 0
ChangedTo (Ok u) e a s t = Renewed e a s t
ChangedTo (Err r) e a s t = (r ≡ TooManyNodes) × (most_nodes < length e) × Outside a slot_words s t

-- ---- all slots of a region

-- what is given with the region at b: conjuncts that are numbered, and a statement before which each comes to one
pub record GivenSlots (s : List ℕ) (b label : ℕ) (d : Decoded) : Type 0 where
  pub there : b + region_words ≤ length s
  pub numbered : All Numbered (set_of s b)
  pub statement : Labelled label d a_site
  pub one : ToOne d

-- each conjunct of the region at b is what it comes to; or the rule's refusal
abbrev pub AllChanged : Answer → ℕ → Decoded → ℕ → (s t : List ℕ) → Type 0
AllChanged (Ok u) l d b s t = (set_of t b ≡ map (image_of l d) (set_of s b)) × Within b s t
AllChanged (Err r) l d b s t = (back l (instr_of d) (set_of s b) ≡ refused (number_of r)) × Within b s t

-- ---- the rule

-- what a rule is given: the region at b and one after it, with conjuncts that are numbered
pub record Ruled (s : List ℕ) (b : ℕ) : Type 0 where
  pub there : b + 2 * region_words ≤ length s
  pub numbered : All Numbered (set_of s b)

-- a statement with its label, before which a conjunct comes to one
pub record OneEach (label : ℕ) (d : Decoded) : Type 0 where
  pub statement : Labelled label d a_site
  pub one : ToOne d
