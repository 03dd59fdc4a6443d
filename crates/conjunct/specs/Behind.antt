-- The distinct atoms of a conjunct that grows at its end; the words of a right side; and what a substitution answers.
use Rattle.std.specs.Prelude.{Bool, true, false, cond, Option, None, Some, Result, Ok, Err, ◌≡◌, ℕ, ◌+◌, ◌≤◌, ◌<◌, ◌^◌, length, take}
use mathlib.Core.List.{List, [], ◌∷◌, ◌++◌, map, flat_map}
use Rattle.model.specs.Conjunct.{Source, Atom, Node, const, atom, var, op, conv, Conj, atoms, rank, renamed, on_atom_lem, renumber, has, AtAtom}
use Rattle.model.specs.Lists.{All, every}
use Rattle.model.specs.Walk.{replace}
use Rattle.model.specs.Sizes.{most_nodes}
use Rattle.model.specs.Touch.{is_var, is_load_lem}
use Rattle.model.specs.TidySets.{Numbered}
use Rattle.conjunct.specs.Word.{is_atom_lem, atom_of, node_of, nodes_of_lem}
use Rattle.conjunct.specs.Value.{conj_of, ConjunctIn}
use Rattle.conjunct.specs.declared.numbering.Noted.{Noted}
use Rattle.conjunct.specs.declared.numbering.Right.{Right}

-- the distinct atoms with a node put behind them
unfoldable pub behind : Node → List Atom → List Atom
behind (const ty i) ks = ks
behind (atom a) ks = cond (has a ks) ks (ks ++ (a ∷ []))
behind (var x ty) ks = ks
behind (op o ty) ks = ks
behind (conv ty) ks = ks

-- numbered anew are the atoms whose source passes, and no others
unfoldable pub renumber_passing : (Source → Bool) → Conj → Conj
renumber_passing P e = let ks = atoms e in map (on_atom_lem (λ a. cond (P a.src) (atom (renamed ks a)) (atom a))) e

-- the atoms of words that are all atoms'
abbrev pub atoms_of_lem : List ℕ → List Atom
atoms_of_lem ws = map atom_of ws

-- all are atoms' words
abbrev pub Atoms : List ℕ → Type 0
Atoms ws = every is_atom_lem ws ≡ true

-- the first m words are there, and they are atoms'
pub record SeenAtoms (seen : List ℕ) (m : ℕ) : Type 0 where
  pub there : m ≤ length seen
  pub atoms : Atoms (take m seen)

-- the first m words are atoms', and there is room for one more
pub record RoomBehind (seen : List ℕ) (m : ℕ) : Type 0 where
  pub room : m < length seen
  pub atoms : Atoms (take m seen)

-- an atom is among the words of atoms or not, and n of its source stand before it
pub record RankOf (ks : List ℕ) (w : ℕ) (known : Bool) (n : ℕ) : Type 0 where
  pub has : known ≡ has (atom_of w) (atoms_of_lem ks)
  pub number : n ≡ rank (atom_of w) (atoms_of_lem ks)
  pub small : n ≤ length ks

-- what is found of an atom among the words of atoms
abbrev pub Ranked : List ℕ → ℕ → Result ℕ ℕ → Type 0
Ranked ks w (Ok n) = RankOf ks w true n
Ranked ks w (Err n) = RankOf ks w false n

-- a word noted behind the atoms ks: what they are then, and the word with its new number
pub record Behind (ks : List ℕ) (w m : ℕ) (after : List ℕ) (r : Noted) : Type 0 where
  pub count : r.count ≤ m + 1
  pub atoms : atoms_of_lem (take r.count after) ≡ behind (node_of w) (atoms_of_lem ks)
  pub all : Atoms (take r.count after)
  pub word : node_of r.word ≡ on_atom_lem (λ a. atom (renamed (behind (node_of w) (atoms_of_lem ks)) a)) (node_of w)

-- a word noted behind the loads ks from an array, if it is one of them
pub record LoadBehind (t k : ℕ) (ks : List ℕ) (w : ℕ) (after : List ℕ) : Type 0 where
  pub atoms : atoms_of_lem after ≡ cond (is_load_lem t k (node_of w)) (behind (node_of w) (atoms_of_lem ks)) (atoms_of_lem ks)
  pub all : Atoms after

-- what a numbering of the atoms of u's source in the first n words is given: a conjunct, an atom, and words to work in
pub record SourceIn (ws : List ℕ) (n u : ℕ) (seen : List ℕ) : Type 0 where
  pub conjunct : ConjunctIn ws n
  pub source : is_atom_lem u ≡ true
  pub space : most_nodes ≤ length seen

-- the words of a right side
abbrev pub right_words : Right → List ℕ
right_words r = take r.len r.nodes

-- its nodes
abbrev pub right_of_lem : Right → List Node
right_of_lem r = nodes_of_lem (right_words r)

-- a word, or the right side in the place of the variable x
unfoldable pub piece_of : ℕ → List ℕ → ℕ → List ℕ
piece_of x r w = cond (is_var x (node_of w)) r (w ∷ [])

-- a node, or u in the place of the variable x
abbrev pub variable_by : ℕ → Node → Node → Node
variable_by x u v = cond (is_var x v) u v

-- what an exchange of the variable x for the one node of r is given: a conjunct that is numbered, fresh atoms, and words to work in
pub record Exchangeable (ws : List ℕ) (x : ℕ) (r : Right) (seen : List ℕ) : Type 0 where
  pub few : length ws ≤ most_nodes
  pub space : most_nodes ≤ length seen
  pub variable : x < 2 ^ 32
  pub one : r.len ≡ 1
  pub numbered : Numbered (nodes_of_lem ws)
  pub fresh : All (AtAtom (λ a. a.n ≡ 0)) (right_of_lem r)

-- what a substitution of r in the first n words of e is given: a conjunct that is numbered, fresh atoms, and words to work in
pub record Substitutable (e : List ℕ) (n : ℕ) (r : Right) (out seen : List ℕ) : Type 0 where
  pub few : n ≤ most_nodes
  pub there : n ≤ length e
  pub room : most_nodes ≤ length out
  pub space : most_nodes ≤ length seen
  pub right : r.len ≤ 3
  pub numbered : Numbered (conj_of e n)
  pub fresh : All (AtAtom (λ a. a.n ≡ 0)) (right_of_lem r)

-- the answer of a substitution of r for x in e: it has over 120 nodes, or these first words, numbered anew
abbrev pub Replaced : Option ℕ → Conj → ℕ → Right → List ℕ → Type 0
Replaced None e x r out = most_nodes < length (flat_map (replace x (right_of_lem r)) e)
Replaced (Some m) e x r out = (m ≤ most_nodes) × (conj_of out m ≡ renumber (flat_map (replace x (right_of_lem r)) e))
