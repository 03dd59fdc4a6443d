-- A store to an array of one cell takes every load from it, all atoms of their sources. The other atoms keep their numbers, so a
-- numbered conjunct stays numbered.
use mathlib.Core.Bool.{Bool, not, cond}
use mathlib.Core.List.{List, [], ◌∷◌, map}
use mathlib.Core.Path.{◌≡◌, refl, sym, ap, ap₂, ◌∙◌}
use Prim.Native.Nat.{ℕ, suc}
use lib.ListN.{get_or, drop}
use Rattle.conjunct.proofs.numbering.Sources.{passing, passing-without, passing_lost, passing-rank}
use Rattle.model.proofs.Basics.Tests.{case}
use Rattle.model.specs.Conjunct.{Source, Atom, Node, const, atom, var, op, conv, Conj, without, note, atoms, renamed, on_atom_lem, renumber}
use Rattle.model.specs.TidySets.{Numbered}
use Rattle.model.specs.Walk.{on_array, swap_all}

module _ (t k x ty : ℕ) where
  -- is it no load from the array?
  abbrev another : Source → Bool
  another s = not (on_array t k s)

  -- a load by the variable, any other node as it is
  taken : Node → Node
  taken v = on_atom_lem (λ b. cond (on_array t k b.src) (var x ty) (atom b)) v

  -- the atoms that are left
  atoms-left : (e : Conj) → atoms (map taken e) ≡ passing another (atoms e)
  unfolding atoms taken passing
  atoms-left [] = refl
  atoms-left (const u i ∷ e) = atoms-left e
  atoms-left (atom a ∷ e) =
      case (on_array t k a.src)
      (λ z. note (cond z (var x ty) (atom a)) (atoms (map taken e))
      ≡ cond (not z) (a ∷ passing another (without a (atoms e))) (passing another (without a (atoms e))))
      (λ h. atoms-left e ∙ sym (passing_lost another a (atoms e) (ap not h)))
      (λ h. ap (λ ks. a ∷ without a ks) (atoms-left e) ∙ ap (a ∷◌) (sym (passing-without another a (atoms e))))
  atoms-left (var y u ∷ e) = atoms-left e
  atoms-left (op o u ∷ e) = atoms-left e
  atoms-left (conv u ∷ e) = atoms-left e

  -- their numbers
  kept : (ks : List Atom) (e : Conj) → map (on_atom_lem (λ a. atom (renamed ks a))) e ≡ e
      → map (on_atom_lem (λ a. atom (renamed (passing another ks) a))) (map taken e) ≡ map taken e
  unfolding taken renamed
  kept ks [] h = refl
  kept ks (const u i ∷ e) h = ap (const u i ∷◌) (kept ks e (ap (drop 1) h))
  kept ks (atom a ∷ e) h =
      case (on_array t k a.src) (λ z. map (on_atom_lem (λ b. atom (renamed (passing another ks) b))) (cond z (var x ty) (atom a) ∷ map taken e) ≡ cond z (var x ty) (atom a) ∷ map taken e)
      (λ q. ap (var x ty ∷◌) (kept ks e (ap (drop 1) h)))
      (λ q. ap₂ ◌∷◌ (ap (λ r. atom (record { src = a.src; n = suc r })) (passing-rank another a ks (ap not q)) ∙ ap (λ l. get_or l 0 (atom a)) h) (kept ks e (ap (drop 1) h)))
  kept ks (var y u ∷ e) h = ap (var y u ∷◌) (kept ks e (ap (drop 1) h))
  kept ks (op o u ∷ e) h = ap (op o u ∷◌) (kept ks e (ap (drop 1) h))
  kept ks (conv u ∷ e) h = ap (conv u ∷◌) (kept ks e (ap (drop 1) h))

  pub cell-numbered : (e : Conj) → Numbered e → Numbered (swap_all t k x ty e)
  unfolding renumber swap_all taken
  cell-numbered e h = ap (λ ks. map (on_atom_lem (λ a. atom (renamed ks a))) (map taken e)) (atoms-left e) ∙ kept (atoms e) e h
