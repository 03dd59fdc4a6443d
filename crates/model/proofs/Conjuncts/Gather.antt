-- One rule over a set, conjunct by conjunct: its members, canonical and monotone, and what holds of every conjunct.
use mathlib.Core.Path.{◌≡◌, refl, ap, subst, ◌∙◌}
use mathlib.Core.Logic.{◌⊎◌, inl, inr, ⊎_elim}
use mathlib.Core.List.{List, [], ◌∷◌, ◌++◌, map}
use Rattle.model.specs.Conjunct.{Conj, Conjuncts, union_of, renumber}
use Rattle.model.specs.Lists.{All}
use Rattle.model.specs.Walk.{gather}
use Rattle.model.specs.TidySets.{Canon, Mem, Sub}
use Rattle.model.proofs.Conjuncts.Canonical.{all_mem, mem_all, union_from, union_left, union_right, union_least, union_canon, union_every, union_left_comm, canon_ext}

pub gather-canon : (f : Conj → List Conj) (S : Conjuncts) → Canon (gather f S)
unfolding gather
gather-canon f [] = tt
gather-canon f (e ∷ S) = union_canon (map renumber (f e)) (gather f S) (gather-canon f S)

-- a conjunct of a gathered set comes from one conjunct of the set, and each conjunct's are in
pub gather-from : (f : Conj → List Conj) (S : Conjuncts) (x : Conj) → Mem x (gather f S) → (e : Conj) × Mem e S × Mem x (map renumber (f e))
unfolding gather
gather-from f [] x m = absurd m
gather-from f (e ∷ S) x m = go (union_from x (map renumber (f e)) (gather f S) m) (gather-from f S x)
  where
    go : Mem x (map renumber (f e)) ⊎ Mem x (gather f S) → (Mem x (gather f S) → (d : Conj) × Mem d S × Mem x (map renumber (f d)))
        → (d : Conj) × Mem d (e ∷ S) × Mem x (map renumber (f d))
    go (inl n) k = (e, inl refl, n)
    go (inr n) k = let r = k n in (r.0, inr r.1, r.2)

pub gather_into : (f : Conj → List Conj) (S : Conjuncts) (x e : Conj) → Mem e S → Mem x (map renumber (f e)) → Mem x (gather f S)
unfolding gather
gather_into f [] x e m n = absurd m
gather_into f (d ∷ S) x e (inl p) n = union_left x (map renumber (f d)) (gather f S) (subst (λ y. Mem x (map renumber (f y))) p n)
gather_into f (d ∷ S) x e (inr m) n = union_right x (map renumber (f d)) (gather f S) (gather_into f S x e m n)

pub gather_mono : (f : Conj → List Conj) (S T : Conjuncts) → Sub S T → Sub (gather f S) (gather f T)
gather_mono f S T h x m = let r = gather-from f S x m in gather_into f T x r.0 (h r.0 r.1) r.2

-- a rule works on each conjunct by itself
pub gather_union : (f : Conj → List Conj) (A B : Conjuncts) → gather f (union_of A B) ≡ union_of (gather f A) (gather f B)
gather_union f A B =
    canon_ext (gather f (union_of A B)) (union_of (gather f A) (gather f B)) (gather-canon f (union_of A B)) (union_canon (gather f A) (gather f B) (gather-canon f B))
    (λ x m. let r = gather-from f (union_of A B) x m in
    ⊎_elim (λ n. union_left x (gather f A) (gather f B) (gather_into f A x r.0 n r.2))
    (λ n. union_right x (gather f A) (gather f B) (gather_into f B x r.0 n r.2)) (union_from r.0 A B r.1))
    (union_least (gather f A) (gather f B) (gather f (union_of A B))
    (gather_mono f A (union_of A B) (λ x. union_left x A B)) (gather_mono f B (union_of A B) (λ x. union_right x A B)))

-- a set with one conjunct more at its end
pub gather-last : (f : Conj → List Conj) (S : Conjuncts) (e : Conj) → gather f (S ++ (e ∷ [])) ≡ union_of (map renumber (f e)) (gather f S)
unfolding gather
gather-last f [] e = refl
gather-last f (d ∷ S) e =
    ap (union_of (map renumber (f d))) (gather-last f S e) ∙ union_left_comm (map renumber (f d)) (map renumber (f e)) (gather f S) (gather-canon f S)

-- ---- every conjunct

module _ (P : Conj → Type 0) (f : Conj → List Conj) where
  -- what holds of a gathered set holds of what each conjunct comes to
  pub gather-all : (S : Conjuncts) → All P (gather f S) → All (λ e. All P (map renumber (f e))) S
  gather-all S h =
      mem_all (λ e. All P (map renumber (f e))) S (λ e m. mem_all P (map renumber (f e)) (λ x n. all_mem P (gather f S) h x (gather_into f S x e m n)))

  -- what holds of each, where the conjuncts have Q, holds of the gathered set
  pub gather-every : (Q : Conj → Type 0) → ((e : Conj) → Q e → All P (map renumber (f e))) → (S : Conjuncts) → All Q S → All P (gather f S)
  unfolding gather
  gather-every Q k [] h = tt
  gather-every Q k (e ∷ S) h = union_every P (map renumber (f e)) (gather f S) (k e h.0) (gather-every Q k S h.1)
