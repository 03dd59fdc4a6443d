-- Statements before which a conjunct comes to one: which one it is by the statement's kind, and what a set comes to whose conjuncts
-- are changed one by one and then put in order.
use mathlib.Core.Bool.{false}
use mathlib.Core.List.{List, [], ◌∷◌, map, flat_map}
use mathlib.Core.Logic.{inl, inr, ⊎_elim}
use mathlib.Core.Path.{◌≡◌, refl, sym, ap, ap₂, ◌∙◌}
use Prim.Native.Nat.{ℕ, zero, suc, ◌≤◌, ◌<◌}
use native.Mathlib.Omega.{arith}
use lib.Dec.{eqb}
use lib.ListN.{length, get_or, length-map}
use borrow.Author.Tests.{eqb-true, eqb-false}
use Rattle.model.proofs.Basics.Tests.{decide}
use Rattle.model.proofs.Conjuncts.Canonical.{union_left}
use Rattle.model.proofs.Walks.Skip.{before-none}
use Rattle.model.specs.Conjunct.{Conj, Conjuncts, union_of, limits, renumber}
use Rattle.model.specs.Kinds.{a_load, a_site}
use Rattle.model.specs.Refusals.{ok, refused, too_many_nodes}
use Rattle.model.specs.Sizes.{most_nodes}
use Rattle.model.specs.TidySets.{Mem, Numbered}
use Rattle.model.specs.Touch.{writes}
use Rattle.model.specs.Walk.{nodes, replace, swap_all, before, gather, back}
use Rattle.code_table.specs.Statements.{instr_of, number_of}
use Rattle.code_table.specs.declared.Decoded.{Decoded}
use Rattle.sets.specs.Region.{set_of}
use Rattle.rules.proofs.ByKind.{before-assign, before-cell, before-one}
use Rattle.rules.proofs.Limiting.{limits_nine, set-limits}
use Rattle.rules.proofs.Stored.{cell-numbered}
use Rattle.rules.specs.Adding.{side_of}
use Rattle.rules.specs.Changing.{image_of, ToOne, OneCell}

-- ---- one conjunct

one_only : (R : Conjuncts) → length R ≡ 1 → R ≡ get_or R 0 [] ∷ []
one_only [] h = absurd (omega (arith, h))
one_only (e ∷ []) h = refl
one_only (e ∷ d ∷ R) h = absurd (omega (arith, h))

module _ (l : ℕ) (d : Decoded) (e : Conj) where
  pub image_assign : d.kind ≤ number_of a_load → renumber (flat_map (replace d.a (nodes l d.ty (side_of d))) e) ≡ image_of l d e
  unfolding image_of
  image_assign h = ap (λ R. get_or R 0 []) (before-assign d l e h)

  pub image_cell : OneCell d → Numbered e → swap_all d.a d.len d.c d.ty e ≡ image_of l d e
  unfolding image_of
  image_cell h n = sym (cell-numbered d.a d.len d.c d.ty e n) ∙ ap (λ R. get_or R 0 []) (before-cell d l e h.store h.one)

  pub image_none : writes (instr_of d) e ≡ false → Numbered e → e ≡ image_of l d e
  unfolding image_of
  image_none h n = sym (ap (λ R. get_or R 0 []) (before-none l (instr_of d) e h n))

  -- it is the only one
  image_only : d.kind ≤ number_of a_site → ToOne d → map renumber (before l (instr_of d) e) ≡ image_of l d e ∷ []
  unfolding image_of
  image_only h (inl other) = one_only (map renumber (before l (instr_of d) e)) (length-map (before l (instr_of d) e) renumber ∙ before-one d l e h other)
  image_only h (inr one) =
      ⊎_elim
      (λ p. sym (before-cell d l e (eqb-true d.kind 9 p) one) ∙ ap (λ R. get_or R 0 [] ∷ []) (before-cell d l e (eqb-true d.kind 9 p) one))
      (λ p. one_only (map renumber (before l (instr_of d) e))
      (length-map (before l (instr_of d) e) renumber ∙ before-one d l e h (eqb-false d.kind 9 p)))
      (decide (eqb d.kind 9))

-- ---- a set

gather_images : (f : Conj → List Conj) (g : Conj → Conj) → ((e : Conj) → map renumber (f e) ≡ g e ∷ []) → (S : Conjuncts)
    → gather f S ≡ union_of (map g S) []
unfolding gather union_of
gather_images f g h [] = refl
gather_images f g h (e ∷ S) = ap₂ union_of (h e) (gather_images f g h S)

mem_map : (g : Conj → Conj) (S : Conjuncts) (k : ℕ) → k < length S → Mem (g (get_or S k [])) (map g S)
mem_map g [] k h = absurd (omega arith)
mem_map g (e ∷ S) zero h = inl refl
mem_map g (e ∷ S) (suc k) h = inr (mem_map g S k (omega arith))

module _ (l : ℕ) (d : Decoded) (S : Conjuncts) (kind : d.kind ≤ number_of a_site) (one : ToOne d) where
  images : back l (instr_of d) S ≡ limits (union_of (map (image_of l d) S) [])
  unfolding back
  images = ap limits (gather_images (before l (instr_of d)) (image_of l d) (λ e. image_only l d e kind one) S)

  -- one of them is too long
  pub images_refused : (k : ℕ) → k < length S → most_nodes < length (image_of l d (get_or S k [])) → back l (instr_of d) S ≡ refused too_many_nodes
  images_refused k h o =
      images ∙ limits_nine (union_of (map (image_of l d) S) []) (image_of l d (get_or S k []))
      (union_left (image_of l d (get_or S k [])) (map (image_of l d) S) [] (mem_map (image_of l d) S k h)) o

  -- all stand in a region, as a set
  pub images_done : (t : List ℕ) (b : ℕ) → set_of t b ≡ union_of (map (image_of l d) S) [] → back l (instr_of d) S ≡ ok (set_of t b)
  images_done t b h = images ∙ ap limits (sym h) ∙ set-limits t b
