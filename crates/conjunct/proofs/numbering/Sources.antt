-- The atoms whose source passes a test, among the distinct atoms of a conjunct. A rank counts the atoms of one source alone, so an atom that
-- passes has the same rank among those that pass as among all (`passing-rank`). The laws hold for any test: the loads from an array, all but
-- these, one source, all but one.
use mathlib.Core.Bool.{Bool, true, false, ◌||◌, cond}
use mathlib.Core.List.{List, [], ◌∷◌, ◌++◌, append-nil}
use mathlib.Core.Path.{◌≡◌, refl, sym, ap, ap₂, ◌∙◌}
use Prim.Native.Nat.{suc}
use lib.Dec.{eqb}
use Rattle.model.proofs.Basics.Tests.{case, true→T}
use Rattle.model.proofs.Conjuncts.Atoms.{source_eq, atom_eq}
use Rattle.model.specs.Conjunct.{Source, Atom, Node, const, atom, var, op, conv, same_source_lem, same_atom, without, rank, has, AtAtom}
use Rattle.conjunct.specs.Behind.{behind}

module _ (P : Source → Bool) where
  -- the atoms whose source passes
  unfoldable pub passing : List Atom → List Atom
  passing [] = []
  passing (a ∷ ks) = cond (P a.src) (a ∷ passing ks) (passing ks)

  -- ---- one atom less

  pub passing-without : (a : Atom) (ks : List Atom) → passing (without a ks) ≡ without a (passing ks)
  unfolding passing without
  passing-without a [] = refl
  passing-without a (b ∷ ks) = go (same_atom a b) (P b.src) refl refl (passing-without a ks)
    where
      go : (p q : Bool) → same_atom a b ≡ p → P b.src ≡ q → passing (without a ks) ≡ without a (passing ks)
          → passing (cond p (without a ks) (b ∷ without a ks)) ≡ without a (cond q (b ∷ passing ks) (passing ks))
      go true true e f h = h ∙ sym (ap (λ z. cond z (without a (passing ks)) (b ∷ without a (passing ks))) e)
      go true false e f h = h
      go false true e f h =
          ap (λ z. cond z (b ∷ passing (without a ks)) (passing (without a ks))) f ∙ ap (b ∷◌) h
          ∙ sym (ap (λ z. cond z (without a (passing ks)) (b ∷ without a (passing ks))) e)
      go false false e f h = ap (λ z. cond z (b ∷ passing (without a ks)) (passing (without a ks))) f ∙ h

  -- an atom that does not pass is not missed
  pub passing_lost : (a : Atom) (ks : List Atom) → P a.src ≡ false → passing (without a ks) ≡ passing ks
  unfolding passing without
  passing_lost a [] h = refl
  passing_lost a (b ∷ ks) h = go (same_atom a b) refl (passing_lost a ks h)
    where
      go : (p : Bool) → same_atom a b ≡ p → passing (without a ks) ≡ passing ks
          → passing (cond p (without a ks) (b ∷ without a ks)) ≡ cond (P b.src) (b ∷ passing ks) (passing ks)
      go true e i = i ∙ sym (ap (λ z. cond z (b ∷ passing ks) (passing ks)) (ap (λ c. P c.src) (sym (atom_eq a b e)) ∙ h))
      go false e i = ap (λ ls. cond (P b.src) (b ∷ ls) ls) i

  -- ---- an atom that passes

  pub passing-rank : (a : Atom) (ks : List Atom) → P a.src ≡ true → rank a (passing ks) ≡ rank a ks
  unfolding rank passing
  passing-rank a [] h = refl
  passing-rank a (b ∷ ks) h = go (P b.src) (same_source_lem a.src b.src) refl refl (passing-rank a ks h)
    where
      go : (q p : Bool) → P b.src ≡ q → same_source_lem a.src b.src ≡ p → rank a (passing ks) ≡ rank a ks
          → rank a (cond q (b ∷ passing ks) (passing ks)) ≡ cond p (cond (eqb a.n b.n) 0 (suc (rank a ks))) (rank a ks)
      go true p f e i = ap₂ (λ z r. cond z (cond (eqb a.n b.n) 0 (suc r)) r) e i
      go false true f e i = absurd (true→T (sym f ∙ sym (ap P (source_eq a.src b.src e)) ∙ h))
      go false false f e i = i

  -- it is among those that pass if and only if it is among all
  passing-has : (a : Atom) (ks : List Atom) → P a.src ≡ true → has a (passing ks) ≡ has a ks
  unfolding passing
  passing-has a [] h = refl
  passing-has a (b ∷ ks) h =
      let ih = passing-has a ks h in
      case (P b.src) (λ z. has a (cond z (b ∷ passing ks) (passing ks)) ≡ (same_atom a b || has a ks)) (λ p. ap (same_atom a b ||◌) ih)
      (λ p. ih ∙ case (same_atom a b) (λ z. has a ks ≡ (z || has a ks))
      (λ q. absurd (true→T (sym p ∙ sym (ap (λ x. P x.src) (atom_eq a b q)) ∙ h))) (λ q. refl))

  -- ---- one node more

  passing-join : (xs ys : List Atom) → passing (xs ++ ys) ≡ passing xs ++ passing ys
  unfolding passing
  passing-join [] ys = refl
  passing-join (x ∷ xs) ys =
      let ih = passing-join xs ys in
      case (P x.src) (λ z. cond z (x ∷ passing (xs ++ ys)) (passing (xs ++ ys)) ≡ cond z (x ∷ passing xs) (passing xs) ++ passing ys)
      (λ p. ap (x ∷◌) ih) (λ p. ih)

  pub passing-behind : (v : Node) (ks : List Atom) → AtAtom (λ a. P a.src ≡ true) v → passing (behind v ks) ≡ behind v (passing ks)
  unfolding behind passing
  passing-behind (const ty i) ks h = refl
  passing-behind (atom a) ks h =
      rw (passing-has a ks h)
      (case (has a ks) (λ z. passing (cond z ks (ks ++ (a ∷ []))) ≡ cond z (passing ks) (passing ks ++ (a ∷ []))) (λ r. refl)
      (λ r. passing-join ks (a ∷ []) ∙ ap (λ z. passing ks ++ cond z (a ∷ []) []) h))
  passing-behind (var x ty) ks h = refl
  passing-behind (op o ty) ks h = refl
  passing-behind (conv ty) ks h = refl

  pub passing-other : (v : Node) (ks : List Atom) → AtAtom (λ a. P a.src ≡ false) v → passing (behind v ks) ≡ passing ks
  unfolding behind passing
  passing-other (const ty i) ks h = refl
  passing-other (atom a) ks h =
      case (has a ks) (λ z. passing (cond z ks (ks ++ (a ∷ []))) ≡ passing ks) (λ r. refl)
      (λ r. passing-join ks (a ∷ []) ∙ ap (λ z. passing ks ++ cond z (a ∷ []) []) h ∙ append-nil (passing ks))
  passing-other (var x ty) ks h = refl
  passing-other (op o ty) ks h = refl
  passing-other (conv ty) ks h = refl
