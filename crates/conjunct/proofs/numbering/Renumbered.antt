-- A conjunct renumbered from its first word on: the atoms whose source passes a test P, each when it is met. Only these are noted, so a word
-- is looked for among few (`Numbering.held`).
use mathlib.Core.Bool.{Bool, true, false, cond}
use mathlib.Core.List.{List, [], ◌∷◌, ◌++◌, map-append}
use mathlib.Core.Path.{◌≡◌, refl, sym, ap, ap₂, ◌∙◌}
use Prim.Native.Nat.{ℕ, suc, ◌+◌, ◌<◌, ◌≤◌}
use native.Mathlib.Numerals.{add-one}
use native.Mathlib.Omega.{arith}
use lib.ListN.{length, take, drop, get_or, set}
use lib.Seq.{take-suc, take-suc-set}
use Rattle.model.proofs.Conjuncts.Atoms.{at_any, at_imp}
use Rattle.model.specs.Conjunct.{Source, Atom, Node, const, atom, var, op, conv, Conj, atoms, renamed, on_atom_lem, renumber, AtAtom}
use Rattle.conjunct.specs.Word.{node_of, nodes_of_lem}
use Rattle.conjunct.proofs.Words.{at_same, behind-same, after_same}
use Rattle.conjunct.proofs.numbering.Snoc.{atoms_snoc, rank-behind, renumber_snoc}
use Rattle.conjunct.proofs.numbering.Sources.{passing, passing-rank, passing-behind, passing-other}
use Rattle.conjunct.specs.Behind.{behind, renumber_passing, atoms_of_lem, Atoms, Behind}
use Rattle.conjunct.specs.declared.numbering.Noted.{Noted}

module _ (P : Source → Bool) where
  -- the atom as it is numbered among all
  abbrev numbered_among : List Atom → Atom → Node
  numbered_among ks a = cond (P a.src) (atom (renamed ks a)) (atom a)

  -- an atom that passes gets the same number from those that pass
  passing-number : (v : Node) (ks : List Atom) → AtAtom (λ a. P a.src ≡ true) v
      → on_atom_lem (λ a. atom (renamed (behind v (passing P ks)) a)) v ≡ on_atom_lem (numbered_among (behind v ks)) v
  unfolding renamed
  passing-number (const ty i) ks h = refl
  passing-number (atom a) ks h =
      rw h (ap (λ n. atom (record { src = a.src; n = suc n })) (rank-behind a (passing P ks) ∙ passing-rank P a ks h ∙ sym (rank-behind a ks)))
  passing-number (var x ty) ks h = refl
  passing-number (op o ty) ks h = refl
  passing-number (conv ty) ks h = refl

  -- any other stays
  other-number : (v : Node) (ks : List Atom) → AtAtom (λ a. P a.src ≡ false) v → v ≡ on_atom_lem (numbered_among ks) v
  other-number (const ty i) ks h = refl
  other-number (atom a) ks h = rw h
  other-number (var x ty) ks h = refl
  other-number (op o ty) ks h = refl
  other-number (conv ty) ks h = refl

  -- the first i words of l₀ renumbered in l, and the m words of their atoms that pass
  pub record Numbering (l l₀ seen : List ℕ) (m i : ℕ) : Type 0 where
    pub done : nodes_of_lem (take i l) ≡ renumber_passing P (nodes_of_lem (take i l₀))
    pub rest : drop i l ≡ drop i l₀
    pub held : atoms_of_lem (take m seen) ≡ passing P (atoms (nodes_of_lem (take i l₀)))
    pub all : Atoms (take m seen)
    pub few : m ≤ i

  pub numbering_none : (l seen : List ℕ) → Numbering l l seen 0 0
  unfolding renumber_passing atoms passing Rattle.model.specs.Lists.every
  numbering_none l seen = record { done = refl; rest = refl; held = refl; all = refl; few = omega arith }

  module _ (l l₀ seen : List ℕ) (m i : ℕ) (h : i < length l) (k : i < length l₀) (n : Numbering l l₀ seen m i) where
    -- one node more
    one_more : nodes_of_lem (take (i + 1) l₀) ≡ nodes_of_lem (take i l₀) ++ (node_of (get_or l i 0) ∷ [])
    one_more = rw (add-one i, take-suc l₀ i 0 k, map-append node_of (take i l₀) (get_or l₀ i 0 ∷ []), at_same l l₀ i 0 h k n.rest)

    -- it is numbered as among all
    more_done : (w : ℕ) → node_of w ≡ on_atom_lem (numbered_among (behind (node_of (get_or l i 0)) (atoms (nodes_of_lem (take i l₀))))) (node_of (get_or l i 0))
        → nodes_of_lem (take i l ++ (w ∷ [])) ≡ renumber_passing P (nodes_of_lem (take (i + 1) l₀))
    more_done w e =
        let d = nodes_of_lem (take i l₀) in
        map-append node_of (take i l) (w ∷ []) ∙ ap₂ (λ x u. x ++ (u ∷ [])) n.done e
        ∙ sym (renumber_snoc P d (node_of (get_or l i 0))) ∙ ap (renumber_passing P) (sym one_more)

    pub numbering_next : AtAtom (λ a. P a.src ≡ true) (node_of (get_or l i 0)) → (after : List ℕ) (r : Noted)
        → Behind (take m seen) (get_or l i 0) m after r → Numbering (set l i r.word) l₀ after r.count (i + 1)
    numbering_next p after r b =
        let ks = atoms (nodes_of_lem (take i l₀)) in
        let v = node_of (get_or l i 0) in
        let number = b.word ∙ ap (λ x. on_atom_lem (λ a. atom (renamed (behind v x) a)) v) n.held ∙ passing-number v ks p in
        record {
          done = ap nodes_of_lem (ap (λ j. take j (set l i r.word)) (add-one i) ∙ take-suc-set l i r.word h) ∙ more_done r.word number;
          rest = after_same l l₀ i r.word h k n.rest;
          held = b.atoms ∙ ap (behind v) n.held ∙ sym (passing-behind P v ks p) ∙ ap (passing P) (sym (atoms_snoc (nodes_of_lem (take i l₀)) v) ∙ ap atoms (sym one_more));
          all = b.all;
          few = omega (arith, b.count, n.few);
        }

    pub numbering_past : AtAtom (λ a. P a.src ≡ false) (node_of (get_or l i 0)) → Numbering l l₀ seen m (i + 1)
    numbering_past p =
        let ks = atoms (nodes_of_lem (take i l₀)) in
        let v = node_of (get_or l i 0) in
        record {
          done = ap nodes_of_lem (ap (λ j. take j l) (add-one i) ∙ take-suc l i 0 h) ∙ more_done (get_or l i 0) (other-number v (behind v ks) p);
          rest = behind-same l l₀ i 0 h k n.rest;
          held = n.held ∙ sym (passing-other P v ks p) ∙ ap (passing P) (sym (atoms_snoc (nodes_of_lem (take i l₀)) v) ∙ ap atoms (sym one_more));
          all = n.all;
          few = omega (arith, n.few);
        }

-- ---- all atoms

-- any source passes
abbrev pub any_source : Source → Bool
any_source s = true

pub any_passes : (b : Bool) → true ≡ b → (v : Node) → AtAtom (λ a. any_source a.src ≡ b) v
any_passes b e v = at_imp (λ a. Unit {0}) (λ a. true ≡ b) (λ a u. e) v (at_any v)

pub renumber_any : (e : Conj) → renumber_passing any_source e ≡ renumber e
unfolding renumber renumber_passing
renumber_any e = refl
