-- What is left of a set beside another, as a loop over its conjuncts collects it.
-- The idea: each conjunct is left out only where the other set has it, so the union of both is the same with or without the rest.
-- Assumes nothing.
use mathlib.Core.Path.{◌≡◌, refl, sym, subst}
use mathlib.Core.Logic.{◌⊎◌, inl, inr, ⊎_elim}
use mathlib.Core.List.{[], ◌∷◌, ◌++◌}
use Rattle.model.specs.Conjunct.{Conj, Conjuncts, with_conjunct, union_of}
use Rattle.model.proofs.Conjuncts.Canonical.{all_mem, mem_all, insert_from, insert_new, insert_old, insert_canon, union_left, union_right, union_least, union_canon, canon_ext}
use Rattle.model.proofs.Conjuncts.Limits.{sub-fine}
use Rattle.model.specs.TidySets.{Canon, Numbered, Mem, Sub, Tidy}

-- N is canonical, of the conjuncts of I, and has all of these that T has not
pub record Remains (N I T : Conjuncts) : Type 0 where
  pub canon : Canon N
  pub of_it : Sub N I
  pub no_less : (x : Conj) → Mem x I → Mem x N ⊎ Mem x T

-- ---- a loop over the conjuncts

pub remains_none : (T : Conjuncts) → Remains [] [] T
remains_none T = record { canon = tt; of_it = λ x m. m; no_less = λ x m. absurd m }

mem_front : (x : Conj) (R S : Conjuncts) → Mem x R → Mem x (R ++ S)
mem_front x [] S m = absurd m
mem_front x (e ∷ R) S (inl p) = inl p
mem_front x (e ∷ R) S (inr m) = inr (mem_front x R S m)

mem_back : (x : Conj) (R S : Conjuncts) → Mem x S → Mem x (R ++ S)
mem_back x [] S m = m
mem_back x (e ∷ R) S m = inr (mem_back x R S m)

mem_either : (x : Conj) (R S : Conjuncts) → Mem x (R ++ S) → Mem x R ⊎ Mem x S
mem_either x [] S m = inr m
mem_either x (e ∷ R) S (inl p) = inl (inl p)
mem_either x (e ∷ R) S (inr m) = ⊎_elim (λ n. inl (inr n)) (λ n. inr n) (mem_either x R S m)

mem_last : (x e : Conj) (I : Conjuncts) → Mem x (I ++ (e ∷ [])) → Mem x I ⊎ (x ≡ e)
mem_last x e I m = ⊎_elim (λ n. inl n) (λ n. ⊎_elim (λ p. inr p) (λ z. absurd z) n) (mem_either x I (e ∷ []) m)

-- a conjunct is in a set that it leaves as it is
pub insert_here : (e : Conj) (S : Conjuncts) → with_conjunct e S ≡ S → Mem e S
insert_here e S h = subst (Mem e) h (insert_new e e S refl)

-- one conjunct more, which the other set has
pub remains_here : (N I T : Conjuncts) (e : Conj) → Remains N I T → Mem e T → Remains N (I ++ (e ∷ [])) T
remains_here N I T e r h = record {
  canon = r.canon;
  of_it = λ x m. mem_front x I (e ∷ []) (r.of_it x m);
  no_less = λ x m. ⊎_elim (r.no_less x) (λ p. inr (subst (λ y. Mem y T) (sym p) h)) (mem_last x e I m);
}

-- one conjunct more, which is put in
pub remains_put : (N I T : Conjuncts) (e : Conj) → Remains N I T → Remains (with_conjunct e N) (I ++ (e ∷ [])) T
remains_put N I T e r = record {
  canon = insert_canon e N r.canon;
  of_it = λ x m. ⊎_elim (λ p. mem_back x I (e ∷ []) (inl p)) (λ n. mem_front x I (e ∷ []) (r.of_it x n)) (insert_from x e N m);
  no_less = λ x m.
      ⊎_elim (λ n. ⊎_elim (λ k. inl (insert_old x e N k)) (λ k. inr k) (r.no_less x n)) (λ p. inl (insert_new x e N p)) (mem_last x e I m);
}

-- ---- the whole set

-- nothing is left only of a part
pub remains_part : (I T : Conjuncts) → Remains [] I T → Sub I T
remains_part I T r x m = ⊎_elim (λ n. absurd n) (λ n. n) (r.no_less x m)

-- the rest adds what the whole does
pub remains_union : (N I T : Conjuncts) → Remains N I T → Canon I → Canon T → union_of N T ≡ union_of T I
remains_union N I T r i t =
    canon_ext (union_of N T) (union_of T I) (union_canon N T t) (union_canon T I i)
    (union_least N T (union_of T I) (λ x m. union_right x T I (r.of_it x m)) (λ x. union_left x T I))
    (union_least T I (union_of N T) (λ x. union_right x N T) (λ x m. ⊎_elim (union_left x N T) (union_right x N T) (r.no_less x m)))

-- the rest of a tidy set is tidy
pub remains_tidy : (N I T : Conjuncts) → Remains N I T → Tidy I → Tidy N
remains_tidy N I T r h = record {
  canon = r.canon;
  numbered = mem_all Numbered N (λ x m. all_mem Numbered I h.numbered x (r.of_it x m));
  fine = sub-fine N I r.canon h.canon r.of_it h.fine;
}
