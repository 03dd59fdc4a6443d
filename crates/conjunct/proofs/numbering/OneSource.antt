-- Fresh atoms of one source in the places of a variable, in a numbered conjunct: the atoms of every other source are the same in the same
-- order, so they have their numbers, and only those of this source are to be numbered anew (`one-source`).
use mathlib.Core.Bool.{Bool, true, false, not, cond}
use mathlib.Core.List.{List, [], ◌∷◌, map}
use mathlib.Core.Path.{◌≡◌, refl, sym, ap, ap₂, ◌∙◌}
use Prim.Native.Nat.{ℕ, suc}
use lib.Dec.{eqb}
use lib.ListN.{get_or, drop}
use Rattle.model.proofs.Basics.Tests.{case}
use Rattle.model.proofs.Conjuncts.Atoms.{source_self, at_imp}
use Rattle.model.specs.Conjunct.{Source, Atom, const, atom, var, op, conv, Conj, same_source_lem, note, atoms, rank, renamed, on_atom_lem, renumber, AtAtom}
use Rattle.model.specs.TidySets.{Numbered}
use Rattle.model.specs.Touch.{is_var}
use Rattle.conjunct.proofs.node.Atoms.{is-atom, other-plain, same_source}
use Rattle.conjunct.specs.Word.{is_atom_lem, source_of, key_of, node_of}
use Rattle.conjunct.proofs.numbering.Sources.{passing, passing-without, passing_lost, passing-rank}
use Rattle.conjunct.specs.Behind.{renumber_passing, variable_by}

-- the sources of words by their keys
pub key_source : (u w : ℕ) → is_atom_lem u ≡ true → (b : Bool) → eqb (key_of u) (key_of w) ≡ b → AtAtom (λ a. same_source_lem (source_of u) a.src ≡ b) (node_of w)
key_source u w h b e =
    case (is_atom_lem w) (λ z. is_atom_lem w ≡ z → AtAtom (λ a. same_source_lem (source_of u) a.src ≡ b) (node_of w))
    (λ p q. rw (is-atom w q) (same_source u w h q ∙ e))
    (λ p q. at_imp (λ a. ⊥) (λ a. same_source_lem (source_of u) a.src ≡ b) (λ a n. absurd n) (node_of w) (other-plain w q)) refl

module _ (x : ℕ) (b : Atom) where
  -- the conjunct with b in the places of the variable
  abbrev with_fresh : Conj → Conj
  with_fresh e = map (variable_by x (atom b)) e

  -- is it another source?
  abbrev another : Source → Bool
  another s = not (same_source_lem b.src s)

  not_another : another b.src ≡ false
  not_another = ap not (source_self b.src)

  -- the atoms of the other sources are the same
  others_same : (e : Conj) → passing another (atoms (with_fresh e)) ≡ passing another (atoms e)
  unfolding atoms passing
  others_same [] = refl
  others_same (const ty i ∷ e) = others_same e
  others_same (atom a ∷ e) =
      ap (λ ks. cond (another a.src) (a ∷ ks) ks)
      (passing-without another a (atoms (with_fresh e)) ∙ ap (Rattle.model.specs.Conjunct.without a) (others_same e) ∙ sym (passing-without another a (atoms e)))
  others_same (var y ty ∷ e) =
      case (is_var x (var y ty)) (λ z. passing another (note (cond z (atom b) (var y ty)) (atoms (with_fresh e))) ≡ passing another (atoms e))
      (λ p. rw not_another (passing_lost another b (atoms (with_fresh e)) not_another ∙ others_same e)) (λ p. others_same e)
  others_same (op o ty ∷ e) = others_same e
  others_same (conv ty ∷ e) = others_same e

  -- so are their ranks
  others-rank : (e : Conj) (a : Atom) → same_source_lem b.src a.src ≡ false → rank a (atoms (with_fresh e)) ≡ rank a (atoms e)
  others-rank e a h =
      let passes = ap not h in
      sym (passing-rank another a (atoms (with_fresh e)) passes) ∙ ap (rank a) (others_same e) ∙ passing-rank another a (atoms e) passes

  -- an atom of another source that has its number keeps it
  module _ (ks ls : List Atom) (same : (a : Atom) → same_source_lem b.src a.src ≡ false → rank a ls ≡ rank a ks) where
    others-numbered : (e : Conj) → map (on_atom_lem (λ a. atom (renamed ks a))) e ≡ e
        → map (on_atom_lem (λ a. cond (same_source_lem b.src a.src) (atom (renamed ls a)) (atom a))) (with_fresh e)
        ≡ map (on_atom_lem (λ a. atom (renamed ls a))) (with_fresh e)
    unfolding renamed
    others-numbered [] h = refl
    others-numbered (const ty i ∷ e) h = ap (const ty i ∷◌) (others-numbered e (ap (drop 1) h))
    others-numbered (atom a ∷ e) h =
        ap₂ ◌∷◌
        (case (same_source_lem b.src a.src) (λ z. cond z (atom (renamed ls a)) (atom a) ≡ atom (renamed ls a)) (λ p. refl)
        (λ p. sym (ap (λ l. get_or l 0 (atom a)) h) ∙ ap (λ r. atom (record { src = a.src; n = suc r })) (sym (same a p))))
        (others-numbered e (ap (drop 1) h))
    others-numbered (var y ty ∷ e) h =
        ap₂ ◌∷◌
        (case (is_var x (var y ty)) (λ z. on_atom_lem (λ a. cond (same_source_lem b.src a.src) (atom (renamed ls a)) (atom a)) (cond z (atom b) (var y ty))
        ≡ on_atom_lem (λ a. atom (renamed ls a)) (cond z (atom b) (var y ty)))
        (λ p. rw (source_self b.src)) (λ p. refl))
        (others-numbered e (ap (drop 1) h))
    others-numbered (op o ty ∷ e) h = ap (op o ty ∷◌) (others-numbered e (ap (drop 1) h))
    others-numbered (conv ty ∷ e) h = ap (conv ty ∷◌) (others-numbered e (ap (drop 1) h))

  pub one-source : (e : Conj) → Numbered e → renumber_passing (same_source_lem b.src) (with_fresh e) ≡ renumber (with_fresh e)
  unfolding renumber renumber_passing
  one-source e h = others-numbered (atoms e) (atoms (with_fresh e)) (others-rank e) e h
