-- The two answers of a substitution, from the words that it has put together.
use mathlib.Core.Bool.{true, false, cond}
use mathlib.Core.List.{List, [], ◌∷◌, ◌++◌, map, flat_map}
use mathlib.Core.Path.{◌≡◌, refl, sym, ap, ◌∙◌, subst}
use Prim.Native.Nat.{ℕ, ◌+◌, ◌<◌, ◌≤◌}
use native.Mathlib.Numerals.{add-one}
use native.Mathlib.Omega.{arith}
use lib.ListN.{length, take, get_or, set, length-append}
use lib.Seq.{length-take-le, take-suc-set}
use Rattle.model.specs.Conjunct.{Conj, same_source_lem, renumber, AtAtom}
use Rattle.model.proofs.Basics.Tests.{case}
use Rattle.model.specs.Lists.{All}
use Rattle.model.specs.Walk.{replace}
use Rattle.model.specs.Sizes.{most_nodes}
use Rattle.model.specs.Touch.{is_var}
use Rattle.model.specs.TidySets.{Numbered}
use Rattle.conjunct.specs.Word.{is_atom_lem, source_of, atom_of, node_of, nodes_of_lem}
use Rattle.conjunct.specs.Value.{conj_of}
use Rattle.conjunct.proofs.numbering.Fresh.{flat_snoc, flat_part, fresh-length, fresh-renumber}
use Rattle.conjunct.proofs.node.Atoms.{is-atom}
use Rattle.conjunct.proofs.numbering.OneSource.{one-source}
use Rattle.conjunct.proofs.numbering.Plain.{NoAtoms, still_numbered}
use Rattle.conjunct.specs.Behind.{right_words, right_of_lem, piece_of, variable_by, renumber_passing}
use Rattle.conjunct.specs.declared.numbering.Right.{Right}

-- ---- one word more

pub piece-there : (x : ℕ) (r : List ℕ) (w : ℕ) → is_var x (node_of w) ≡ true → piece_of x r w ≡ r
unfolding piece_of
piece-there x r w h = rw h

pub piece-other : (x : ℕ) (r : List ℕ) (w : ℕ) → is_var x (node_of w) ≡ false → piece_of x r w ≡ (w ∷ [])
unfolding piece_of
piece-other x r w h = rw h

module _ (x : ℕ) (r l : List ℕ) (i : ℕ) (inside : i < length l) where
  pub more_there : is_var x (node_of (get_or l i 0)) ≡ true → flat_map (piece_of x r) (take (i + 1) l) ≡ flat_map (piece_of x r) (take i l) ++ r
  more_there v = flat_snoc (piece_of x r) l i 0 inside ∙ ap (flat_map (piece_of x r) (take i l) ++◌) (piece-there x r (get_or l i 0) v)

  pub more_other : (out : List ℕ) (m : ℕ) → m < length out → take m out ≡ flat_map (piece_of x r) (take i l) → is_var x (node_of (get_or l i 0)) ≡ false
      → take (m + 1) (set out m (get_or l i 0)) ≡ flat_map (piece_of x r) (take (i + 1) l)
  more_other out m h t v =
      rw (add-one m, take-suc-set out m (get_or l i 0) h, t)
      (sym (flat_snoc (piece_of x r) l i 0 inside ∙ ap (flat_map (piece_of x r) (take i l) ++◌) (piece-other x r (get_or l i 0) v)))

-- ---- the answers

module _ (l : List ℕ) (n x : ℕ) (r : Right) (inside : n ≤ length l) (numbered : Numbered (conj_of l n))
    (fresh : All (AtAtom (λ a. a.n ≡ 0)) (right_of_lem r)) where
  -- over 120 nodes already after some words
  pub replaced_over : (i m k : ℕ) (out : List ℕ) → i < n → m ≤ length out → take m out ≡ flat_map (piece_of x (right_words r)) (take i l)
      → length (piece_of x (right_words r) (get_or l i 0)) ≡ k → most_nodes < m + k → most_nodes < length (flat_map (replace x (right_of_lem r)) (conj_of l n))
  replaced_over i m k out h f t p o =
      let F = piece_of x (right_words r) in
      let a : length (flat_map F (take i l)) ≡ m = ap length (sym t) ∙ length-take-le m out f in
      let b = ap length (flat_snoc F l i 0 (omega arith)) ∙ length-append (flat_map F (take i l)) (F (get_or l i 0)) in
      let d = flat_part F l (i + 1) n (omega arith) in
      omega (arith, fresh-length x (right_words r) fresh (take n l) numbered)

  -- all words put together, and renumbered
  pub replaced_done : (put after : Conj) → put ≡ nodes_of_lem (flat_map (piece_of x (right_words r)) (take n l)) → after ≡ renumber put
      → after ≡ renumber (flat_map (replace x (right_of_lem r)) (conj_of l n))
  replaced_done put after t c = c ∙ ap renumber t ∙ fresh-renumber x (right_words r) fresh (take n l) numbered

  -- all words put together, where the right side has no atom
  pub replaced_plain : (put : Conj) → put ≡ nodes_of_lem (flat_map (piece_of x (right_words r)) (take n l)) → NoAtoms (right_words r)
      → put ≡ renumber (flat_map (replace x (right_of_lem r)) (conj_of l n))
  replaced_plain put t none =
      let kept = still_numbered x (right_words r) none (take n l) numbered in
      t ∙ sym kept ∙ fresh-renumber x (right_words r) fresh (take n l) numbered

-- ---- a right side of one node

first_word : (l : List ℕ) → length l ≡ 3 → take 1 l ≡ (get_or l 0 0 ∷ [])
first_word [] h = absurd (omega arith)
first_word (w ∷ l) h = refl

one_by_one : (x u : ℕ) (ws : List ℕ) → map (variable_by x (node_of u)) (nodes_of_lem ws) ≡ nodes_of_lem (flat_map (piece_of x (u ∷ [])) ws)
unfolding flat_map piece_of
one_by_one x u [] = refl
one_by_one x u (w ∷ ws) =
    case (is_var x (node_of w)) (λ z. (cond z (node_of u) (node_of w) ∷ map (variable_by x (node_of u)) (nodes_of_lem ws))
    ≡ nodes_of_lem (cond z (u ∷ []) (w ∷ []) ++ flat_map (piece_of x (u ∷ [])) ws))
    (λ p. ap (node_of u ∷◌) (one_by_one x u ws)) (λ p. ap (node_of w ∷◌) (one_by_one x u ws))

module _ (x : ℕ) (r : Right) (one : r.len ≡ 1) (three : length r.nodes ≡ 3) where
  one_word : right_words r ≡ (get_or r.nodes 0 0 ∷ [])
  one_word = ap (λ k. take k r.nodes) one ∙ first_word r.nodes three

  -- put in the places of the variable node by node
  pub exchanged : (ws : List ℕ) → map (variable_by x (node_of (get_or r.nodes 0 0))) (nodes_of_lem ws) ≡ nodes_of_lem (flat_map (piece_of x (right_words r)) ws)
  exchanged ws = one_by_one x (get_or r.nodes 0 0) ws ∙ ap (λ l. nodes_of_lem (flat_map (piece_of x l) ws)) (sym one_word)

  pub one_plain : is_atom_lem (get_or r.nodes 0 0) ≡ false → NoAtoms (right_words r)
  one_plain h = subst NoAtoms (sym one_word) (h, tt)

  -- if it is an atom, those of its source numbered anew are all that are to be numbered
  pub exchanged_source : is_atom_lem (get_or r.nodes 0 0) ≡ true → (ws : List ℕ) → Numbered (nodes_of_lem ws) → (put : Conj)
      → put ≡ map (variable_by x (node_of (get_or r.nodes 0 0))) (nodes_of_lem ws)
      → renumber_passing (same_source_lem (source_of (get_or r.nodes 0 0))) put ≡ renumber put
  exchanged_source h ws numbered put e =
      let u = get_or r.nodes 0 0 in
      rw (e, is-atom u h) (one-source x (atom_of u) (nodes_of_lem ws) numbered)
