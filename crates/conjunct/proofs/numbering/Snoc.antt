-- A conjunct that grows at its end: its distinct atoms, their ranks, and its numbering.
use mathlib.Core.Bool.{Bool, true, false, ◌&&◌, ◌||◌, cond}
use mathlib.Core.List.{List, [], ◌∷◌, ◌++◌, map, append-nil, map-append}
use mathlib.Core.Path.{◌≡◌, refl, sym, ap, ap₂, ◌∙◌, subst}
use Prim.Native.Nat.{suc}
use lib.Dec.{eqb}
use Rattle.model.proofs.Conjuncts.Atoms.{has-atoms, atom_eq, atom_self, source_self}
use Rattle.model.proofs.Basics.Tests.{case, true→T, eqb_self}
use Rattle.model.specs.Conjunct.{Source, Atom, Node, const, atom, var, op, conv, Conj, same_source_lem, same_atom, without, note, atoms, rank, renamed, has, AtAtom}
use Rattle.model.specs.Conjunct.{on_atom_lem}
use Rattle.model.specs.Lists.{All}
use Rattle.conjunct.proofs.node.Atoms.{alike}
use Rattle.conjunct.specs.Behind.{behind, renumber_passing}

-- ---- the atoms

same_flip : (a b : Atom) → same_atom a b ≡ same_atom b a
same_flip a b =
    alike (same_atom a b) (same_atom b a) (λ p. subst (λ x. same_atom x a ≡ true) (atom_eq a b p) (atom_self a))
    (λ p. subst (λ x. same_atom x b ≡ true) (atom_eq b a p) (atom_self b))

without-join : (b : Atom) (xs ys : List Atom) → without b (xs ++ ys) ≡ without b xs ++ without b ys
unfolding without
without-join b [] ys = refl
without-join b (x ∷ xs) ys =
    let ih = without-join b xs ys in
    case (same_atom b x) (λ z. cond z (without b (xs ++ ys)) (x ∷ without b (xs ++ ys)) ≡ cond z (without b xs) (x ∷ without b xs) ++ without b ys)
    (λ p. ih) (λ p. ap (x ∷◌) ih)

-- another atom is there if and only if it was
has_left : (a b : Atom) (ks : List Atom) → same_atom a b ≡ false → has a (without b ks) ≡ has a ks
unfolding without
has_left a b [] n = refl
has_left a b (c ∷ ks) n =
    let ih = has_left a b ks n in
    case (same_atom b c) (λ z. has a (cond z (without b ks) (c ∷ without b ks)) ≡ (same_atom a c || has a ks))
    (λ p. ih ∙ ap (λ z. z || has a ks) (sym (ap (same_atom a) (sym (atom_eq b c p)) ∙ n))) (λ p. ap (λ z. same_atom a c || z) ih)

-- one atom put in front, another behind
atoms-both : (b a : Atom) (ks : List Atom) → (b ∷ without b (behind (atom a) ks)) ≡ behind (atom a) (b ∷ without b ks)
unfolding behind without
atoms-both b a ks =
    case (same_atom a b)
    (λ z. (b ∷ without b (cond (has a ks) ks (ks ++ (a ∷ []))))
    ≡ cond (z || has a (without b ks)) (b ∷ without b ks) (b ∷ (without b ks ++ (a ∷ []))))
    (λ p. case (has a ks) (λ z. (b ∷ without b (cond z ks (ks ++ (a ∷ [])))) ≡ (b ∷ without b ks)) (λ q. refl)
    (λ q. ap (b ∷◌) (without-join b ks (a ∷ []) ∙ ap (λ z. without b ks ++ cond z [] (a ∷ [])) (same_flip b a ∙ p) ∙ append-nil (without b ks))))
    (λ p. rw (has_left a b ks p)
    (case (has a ks) (λ z. (b ∷ without b (cond z ks (ks ++ (a ∷ [])))) ≡ cond z (b ∷ without b ks) (b ∷ (without b ks ++ (a ∷ [])))) (λ q. refl)
    (λ q. ap (b ∷◌) (without-join b ks (a ∷ []) ∙ ap (λ z. without b ks ++ cond z [] (a ∷ [])) (same_flip b a ∙ p)))))

note-behind : (u v : Node) (ks : List Atom) → note u (behind v ks) ≡ behind v (note u ks)
unfolding behind
note-behind (const ty i) v ks = refl
note-behind (atom b) (const ty i) ks = refl
note-behind (atom b) (atom a) ks = atoms-both b a ks
note-behind (atom b) (var x ty) ks = refl
note-behind (atom b) (op o ty) ks = refl
note-behind (atom b) (conv ty) ks = refl
note-behind (var x ty) v ks = refl
note-behind (op o ty) v ks = refl
note-behind (conv ty) v ks = refl

pub atoms_snoc : (e : Conj) (v : Node) → atoms (e ++ (v ∷ [])) ≡ behind v (atoms e)
unfolding atoms behind without
atoms_snoc [] (const ty i) = refl
atoms_snoc [] (atom a) = refl
atoms_snoc [] (var x ty) = refl
atoms_snoc [] (op o ty) = refl
atoms_snoc [] (conv ty) = refl
atoms_snoc (u ∷ e) v = ap (note u) (atoms_snoc e v) ∙ note-behind u v (atoms e)

-- ---- the ranks

-- an atom that is there keeps its rank
rank-join : (a : Atom) (ks ls : List Atom) → has a ks ≡ true → rank a (ks ++ ls) ≡ rank a ks
unfolding rank same_atom
rank-join a [] ls h = absurd (true→T h)
rank-join a (b ∷ ks) ls h =
    case (same_source_lem a.src b.src)
    (λ z. ((z && eqb a.n b.n) || has a ks) ≡ true
    → cond z (cond (eqb a.n b.n) 0 (suc (rank a (ks ++ ls)))) (rank a (ks ++ ls))
    ≡ cond z (cond (eqb a.n b.n) 0 (suc (rank a ks))) (rank a ks))
    (λ p. case (eqb a.n b.n) (λ z. (z || has a ks) ≡ true → cond z 0 (suc (rank a (ks ++ ls))) ≡ cond z 0 (suc (rank a ks))) (λ q k. refl)
    (λ q k. ap suc (rank-join a ks ls k)))
    (λ p k. rank-join a ks ls k) h

-- an atom's rank is the same before it is put behind
rank_self : (a : Atom) (ks : List Atom) → rank a (ks ++ (a ∷ [])) ≡ rank a ks
unfolding rank
rank_self a [] = rw (source_self a.src, eqb_self a.n)
rank_self a (b ∷ ks) = rw (rank_self a ks)

pub rank-behind : (a : Atom) (ks : List Atom) → rank a (behind (atom a) ks) ≡ rank a ks
unfolding behind
rank-behind a ks = case (has a ks) (λ z. rank a (cond z ks (ks ++ (a ∷ []))) ≡ rank a ks) (λ p. refl) (λ p. rank_self a ks)

-- and whatever else is put behind
rank-kept : (v : Node) (a : Atom) (ks : List Atom) → has a ks ≡ true → rank a (behind v ks) ≡ rank a ks
unfolding behind
rank-kept (const ty i) a ks h = refl
rank-kept (atom b) a ks h = case (has b ks) (λ z. rank a (cond z ks (ks ++ (b ∷ []))) ≡ rank a ks) (λ p. refl) (λ p. rank-join a ks (b ∷ []) h)
rank-kept (var x ty) a ks h = refl
rank-kept (op o ty) a ks h = refl
rank-kept (conv ty) a ks h = refl

-- ---- the numbering

module _ (f g : Atom → Node) (P : Atom → Type 0) (same : (a : Atom) → P a → f a ≡ g a) where
  map_same : (e : Conj) → All (AtAtom P) e → map (on_atom_lem f) e ≡ map (on_atom_lem g) e
  map_same [] h = refl
  map_same (const ty i ∷ e) h = ap (const ty i ∷◌) (map_same e h.1)
  map_same (atom a ∷ e) h = ap₂ ◌∷◌ (same a h.0) (map_same e h.1)
  map_same (var x ty ∷ e) h = ap (var x ty ∷◌) (map_same e h.1)
  map_same (op o ty ∷ e) h = ap (op o ty ∷◌) (map_same e h.1)
  map_same (conv ty ∷ e) h = ap (conv ty ∷◌) (map_same e h.1)

-- one node more: the others keep their numbers
pub renumber_snoc : (P : Source → Bool) (e : Conj) (v : Node)
    → renumber_passing P (e ++ (v ∷ []))
    ≡ renumber_passing P e ++ (on_atom_lem (λ a. cond (P a.src) (atom (renamed (behind v (atoms e)) a)) (atom a)) v ∷ [])
unfolding renumber_passing renamed
renumber_snoc P e v =
    let f : List Atom → Atom → Node = λ ks a. cond (P a.src) (atom (record { src = a.src; n = suc (rank a ks) })) (atom a) in
    ap (λ ks. map (on_atom_lem (f ks)) (e ++ (v ∷ []))) (atoms_snoc e v)
    ∙ map-append (on_atom_lem (f (behind v (atoms e)))) e (v ∷ [])
    ∙ ap (◌++ (on_atom_lem (f (behind v (atoms e))) v ∷ []))
    (map_same (f (behind v (atoms e))) (f (atoms e)) (λ a. has a (atoms e) ≡ true)
    (λ a h. ap (λ n. cond (P a.src) (atom (record { src = a.src; n = suc n })) (atom a)) (rank-kept v a (atoms e) h)) e (has-atoms e))
