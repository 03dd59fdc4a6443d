-- A conjunct is numbered as a rule leaves it just if each atom's n is one met before or the next one of its source.
use mathlib.Core.Path.{◌≡◌, refl, sym, ◌∙◌, ap, ap₂, subst}
use mathlib.Core.Bool.{Bool, true, false, ◌&&◌, ◌||◌, cond}
use mathlib.Core.List.{List, [], ◌∷◌, map}
use Prim.Native.Nat.{ℕ, zero, suc, ◌+◌, ◌<◌}
use native.Mathlib.Nat.{zero-add, add-zero}
use native.Mathlib.Omega.{arith}
use lib.Dec.{eqb, leb, ltb, compare_is_eq}
use lib.ListN.{length, get_or, set, replicate}
use lib.Seq.{get_or-set_same, get_or-set_other}
use borrow.Author.Tests.{eq-eqb, ne_eqb, le-leb, lt-leb, lt-ltb, leb-true, leb-false, ltb-true, eqb-true, eqb-false}
use Rattle.model.specs.Lists.{every}
use Rattle.model.specs.Conjunct.{Source, field, cell, Atom, Node, const, atom, var, op, conv, Conj, same_source_lem, same_atom, without, atoms}
use Rattle.model.specs.Conjunct.{rank, renamed, on_atom_lem, renumber, order_nodes}
use Rattle.model.specs.Condition.{numbered}
use Rattle.model.proofs.Basics.Tests.{case, true→T, and_left, and_right, eqb_self}
use Rattle.model.proofs.Conjuncts.Atoms.{source_eq, source_self, atom_eq}
use Rattle.model.proofs.Conjuncts.Order.{is_eq_true, nodes_eq, nodes_self}
use Rattle.model.proofs.Basics.Every.{every-same}

-- ---- counting

-- an n that was met
unfoldable pub old : (Source → ℕ) → Atom → Bool
old seen a = ltb 0 a.n && leb a.n (seen a.src)

-- the next one was met
abbrev pub bump : (Source → ℕ) → Atom → Source → ℕ
bump seen b s = cond (same_source_lem s b.src) b.n (seen s)

-- each n was met or is the next one; `seen` has the highest n of each source so far
unfoldable pub counted : (Source → ℕ) → Conj → Bool
counted seen [] = true
counted seen (const ty i ∷ e) = counted seen e
counted seen (atom a ∷ e) = cond (old seen a) (counted seen e) (eqb a.n (suc (seen a.src)) && counted (bump seen a) e)
counted seen (var x ty ∷ e) = counted seen e
counted seen (op o ty ∷ e) = counted seen e
counted seen (conv ty ∷ e) = counted seen e

-- ---- the same by ranks

-- the test at an atom
abbrev at_atom : (Atom → Bool) → Node → Bool
at_atom p (const ty i) = true
at_atom p (atom a) = p a
at_atom p (var x ty) = true
at_atom p (op o ty) = true
at_atom p (conv ty) = true

at_same : (p q : Atom → Bool) → ((a : Atom) → p a ≡ q a) → (v : Node) → at_atom p v ≡ at_atom q v
at_same p q h (const ty i) = refl
at_same p q h (atom a) = h a
at_same p q h (var x ty) = refl
at_same p q h (op o ty) = refl
at_same p q h (conv ty) = refl

-- the atoms that were not met
new : (Source → ℕ) → List Atom → List Atom
new seen [] = []
new seen (a ∷ ks) = cond (old seen a) (new seen ks) (a ∷ new seen ks)

-- met, or behind those that are not
right : (Source → ℕ) → List Atom → Atom → Bool
right seen ks a = old seen a || eqb a.n (suc (seen a.src + rank a ks))

new-without_old : (seen : Source → ℕ) (b : Atom) → old seen b ≡ true → (ks : List Atom) → new seen (without b ks) ≡ new seen ks
unfolding new without
new-without_old seen b h [] = refl
new-without_old seen b h (k ∷ ks) =
    case (same_atom b k) (λ z. new seen (cond z (without b ks) (k ∷ without b ks)) ≡ cond (old seen k) (new seen ks) (k ∷ new seen ks))
    (λ q. rw (← atom_eq b k q, h) (new-without_old seen b h ks))
    (λ q. ap (λ (l : List Atom). cond (old seen k) l (k ∷ l)) (new-without_old seen b h ks))

leb_skip : (m n : ℕ) → (n ≡ suc m → ⊥) → leb n (suc m) ≡ leb n m
leb_skip m n h =
    case (leb n m) (λ z. leb n (suc m) ≡ z)
    (λ q. le-leb n (suc m) (omega (arith, leb-true n m q)))
    (λ q. case (leb n (suc m)) (λ z. z ≡ false) (λ r. absurd (h (omega (arith, leb-false n m q, leb-true n (suc m) r)))) (λ r. refl))

-- the next one of its source is met
module _ (seen : Source → ℕ) (b : Atom) (next : b.n ≡ suc (seen b.src)) where
  old_bump : old (bump seen b) b ≡ true
  unfolding old
  old_bump = rw (source_self b.src, lt-ltb 0 b.n (omega arith), le-leb b.n b.n (omega arith))

  -- another atom of the same source has another n
  other : (a : Atom) → same_atom b a ≡ false → a.src ≡ b.src → a.n ≡ b.n → ⊥
  unfolding same_atom
  other a h e f = true→T
      (sym (subst (λ (z : Bool). z ≡ false) (ap₂ ◌&&◌ (ap (same_source_lem b.src) e ∙ source_self b.src) (eq-eqb b.n a.n (sym f))) h))

  old_other : (a : Atom) → same_atom b a ≡ false → old (bump seen b) a ≡ old seen a
  unfolding old
  old_other a h =
      case (same_source_lem a.src b.src)
      (λ z. (ltb 0 a.n && leb a.n (cond z b.n (seen a.src))) ≡ (ltb 0 a.n && leb a.n (seen a.src)))
      (λ q. let e = source_eq a.src b.src q in
      ap (ltb 0 a.n &&◌)
      (ap (leb a.n) next ∙ leb_skip (seen b.src) a.n (λ f. other a h e (f ∙ sym next))
      ∙ ap (λ (s : Source). leb a.n (seen s)) (sym e)))
      (λ q. refl)

  new-without-next : (ks : List Atom) → new seen (without b ks) ≡ new (bump seen b) ks
  unfolding new without
  new-without-next [] = refl
  new-without-next (k ∷ ks) =
      case (same_atom b k) (λ z. same_atom b k ≡ z
      → new seen (cond z (without b ks) (k ∷ without b ks)) ≡ cond (old (bump seen b) k) (new (bump seen b) ks) (k ∷ new (bump seen b) ks))
      (λ q r. rw (← atom_eq b k q, old_bump) (new-without-next ks))
      (λ q r. rw (old_other k q) (ap (λ (l : List Atom). cond (old seen k) l (k ∷ l)) (new-without-next ks)))
      refl

  or_true : (z : Bool) → (z || true) ≡ true
  or_true true = refl
  or_true false = refl

  right_bump : (ks : List Atom) (a : Atom) → right seen (b ∷ ks) a ≡ right (bump seen b) ks a
  unfolding right rank
  right_bump ks a =
      case (same_atom b a) (λ z. same_atom b a ≡ z → right seen (b ∷ ks) a ≡ right (bump seen b) ks a)
      (λ q r. subst (λ (c : Atom). right seen (b ∷ ks) c ≡ right (bump seen b) ks c) (atom_eq b a q) same)
      (λ q r. different q)
      refl
    where
      same : right seen (b ∷ ks) b ≡ right (bump seen b) ks b
      same =
          rw (old_bump, source_self b.src, eqb_self b.n, add-zero (seen b.src), eq-eqb b.n (suc (seen b.src)) next)
          (or_true (old seen b))

      different : same_atom b a ≡ false → right seen (b ∷ ks) a ≡ right (bump seen b) ks a
      different q =
          rw (old_other a q)
          (ap (λ (m : ℕ). old seen a || eqb a.n (suc m))
          (case (same_source_lem a.src b.src)
          (λ z. seen a.src + cond z (cond (eqb a.n b.n) 0 (suc (rank a ks))) (rank a ks) ≡ cond z b.n (seen a.src) + rank a ks)
          (λ s. let e = source_eq a.src b.src s in
          rw (ne_eqb a.n b.n (other a q e), e) (omega arith))
          (λ s. refl)))

-- the first node is an atom: it was met, it is the next one, or it is wrong
module _ (seen : Source → ℕ) (b : Atom) (e : Conj) where
  abbrev ranked : Bool
  ranked = let ks = new seen (b ∷ without b (atoms e)) in right seen ks b && every (at_atom (right seen ks)) e

  ranked_met : old seen b ≡ true → counted seen e ≡ every (at_atom (right seen (new seen (atoms e)))) e → counted seen e ≡ ranked
  unfolding new right
  ranked_met o ih =
      let l : new seen (b ∷ without b (atoms e)) ≡ new seen (atoms e) = rw o (new-without_old seen b o (atoms e)) in
      rw (l, o) ih

  right_met : (ks : List Atom) → b.n ≡ suc (seen b.src) → right (bump seen b) ks b ≡ true
  unfolding right
  right_met ks next = rw (old_bump seen b next)

  ranked_next : old seen b ≡ false → b.n ≡ suc (seen b.src)
      → counted (bump seen b) e ≡ every (at_atom (right (bump seen b) (new (bump seen b) (atoms e)))) e → counted (bump seen b) e ≡ ranked
  unfolding new
  ranked_next o next ih =
      let ks = new (bump seen b) (atoms e) in
      let l : new seen (b ∷ without b (atoms e)) ≡ b ∷ ks = rw o (ap (b ∷◌) (new-without-next seen b next (atoms e))) in
      rw (l, right_bump seen b next ks b, right_met ks next)
      (ih ∙ sym (every-same (at_atom (right seen (b ∷ ks))) (at_atom (right (bump seen b) ks))
      (at_same (right seen (b ∷ ks)) (right (bump seen b) ks) (right_bump seen b next ks)) e))

  ranked_wrong : old seen b ≡ false → eqb b.n (suc (seen b.src)) ≡ false → false ≡ ranked
  unfolding new right rank
  ranked_wrong o w = rw (o, source_self b.src, eqb_self b.n, add-zero (seen b.src), w)

counted_ranks : (e : Conj) (seen : Source → ℕ) → counted seen e ≡ every (at_atom (right seen (new seen (atoms e)))) e
unfolding counted every atoms
counted_ranks [] seen = refl
counted_ranks (const ty i ∷ e) seen = counted_ranks e seen
counted_ranks (atom b ∷ e) seen =
    case (old seen b) (λ z. old seen b ≡ z → cond z (counted seen e) (eqb b.n (suc (seen b.src)) && counted (bump seen b) e) ≡ ranked seen b e)
    (λ q r. ranked_met seen b e q (counted_ranks e seen))
    (λ q r.
    case (eqb b.n (suc (seen b.src))) (λ z. eqb b.n (suc (seen b.src)) ≡ z → (z && counted (bump seen b) e) ≡ ranked seen b e)
    (λ n m. ranked_next seen b e q (eqb-true b.n (suc (seen b.src)) n) (counted_ranks e (bump seen b)))
    (λ n m. ranked_wrong seen b e q n) refl)
    refl
counted_ranks (var x ty ∷ e) seen = counted_ranks e seen
counted_ranks (op o ty ∷ e) seen = counted_ranks e seen
counted_ranks (conv ty ∷ e) seen = counted_ranks e seen

-- ---- nothing is met yet

abbrev pub none : Source → ℕ
none s = 0

none_old : (a : Atom) → old none a ≡ false
unfolding old
none_old a = case (ltb 0 a.n) (λ z. (z && leb a.n 0) ≡ false) (λ q. lt-leb a.n 0 (ltb-true 0 a.n q)) (λ q. refl)

none-new : (ks : List Atom) → new none ks ≡ ks
unfolding new
none-new [] = refl
none-new (a ∷ ks) = rw (none_old a) (ap (a ∷◌) (none-new ks))

-- n is one more than the atoms of its source before
good : List Atom → Atom → Bool
good ks a = eqb a.n (suc (rank a ks))

none_right : (ks : List Atom) (a : Atom) → right none (new none ks) a ≡ good ks a
unfolding right good
none_right ks a = rw (none_old a, none-new ks, zero-add (rank a ks))

-- ---- the renumbering changes nothing

module _ (ks : List Atom) where
  fixed_node : (v : Node) → at_atom (good ks) v ≡ true → on_atom_lem (λ a. atom (renamed ks a)) v ≡ v
  unfolding good renamed
  fixed_node (const ty i) h = refl
  fixed_node (atom a) h = ap (λ (m : ℕ). atom (record { src = a.src; n = m })) (sym (eqb-true a.n (suc (rank a ks)) h))
  fixed_node (var x ty) h = refl
  fixed_node (op o ty) h = refl
  fixed_node (conv ty) h = refl

  good_node : (v : Node) → on_atom_lem (λ a. atom (renamed ks a)) v ≡ v → at_atom (good ks) v ≡ true
  unfolding good renamed
  good_node (const ty i) h = refl
  good_node (atom a) h = let e : suc (rank a ks) ≡ a.n = cc in eq-eqb a.n (suc (rank a ks)) (sym e)
  good_node (var x ty) h = refl
  good_node (op o ty) h = refl
  good_node (conv ty) h = refl

  all_fixed : (e : Conj) → every (at_atom (good ks)) e ≡ true → map (on_atom_lem (λ a. atom (renamed ks a))) e ≡ e
  unfolding every
  all_fixed [] h = refl
  all_fixed (v ∷ e) h =
      ap₂ ◌∷◌ (fixed_node v (and_left (at_atom (good ks) v) (every (at_atom (good ks)) e) h))
      (all_fixed e (and_right (at_atom (good ks) v) (every (at_atom (good ks)) e) h))

  all_good : (e : Conj) → map (on_atom_lem (λ a. atom (renamed ks a))) e ≡ e → every (at_atom (good ks)) e ≡ true
  unfolding every
  all_good [] h = refl
  all_good (v ∷ e) h =
      let p : on_atom_lem (λ a. atom (renamed ks a)) v ≡ v = cc in
      let q : map (on_atom_lem (λ a. atom (renamed ks a))) e ≡ e = cc in
      ap₂ ◌&&◌ (good_node v p) (all_good e q)

numbered_good : (e : Conj) → numbered e ≡ every (at_atom (good (atoms e))) e
unfolding numbered renumber
numbered_good e =
    case (every (at_atom (good (atoms e))) e) (λ z. compare_is_eq (order_nodes (renumber e) e) ≡ z)
    (λ q. ap compare_is_eq (ap (λ (d : Conj). order_nodes d e) (all_fixed (atoms e) e q) ∙ nodes_self e))
    (λ q. case (compare_is_eq (order_nodes (renumber e) e)) (λ z. z ≡ false)
    (λ r. absurd (true→T (sym (sym (all_good (atoms e) e (nodes_eq (renumber e) e (is_eq_true (order_nodes (renumber e) e) r))) ∙ q)))) (λ r. refl))

pub numbered-counted : (e : Conj) → numbered e ≡ counted none e
numbered-counted e =
    numbered_good e
    ∙ sym (counted_ranks e none
    ∙ every-same (at_atom (right none (new none (atoms e)))) (at_atom (good (atoms e)))
    (at_same (right none (new none (atoms e))) (good (atoms e)) (none_right (atoms e))) e)

-- ---- the highest n of each field, in a list by field numbers

-- a source in the field's type has the field's number
unfoldable pub seen_of : List ℕ → List ℕ → Source → ℕ
seen_of types l (field f ty) = cond (eqb ty (get_or types f 0)) (get_or l f 0) 0
seen_of types l (cell t r k ty) = 0

get_or-zeros : (n i : ℕ) → ◌≡◌ {A = ℕ} (get_or (replicate n 0) i 0) 0
get_or-zeros zero i = refl
get_or-zeros (suc n) zero = refl
get_or-zeros (suc n) (suc i) = get_or-zeros n i

zeros-none : (types : List ℕ) (n : ℕ) (s : Source) → seen_of types (replicate n 0) s ≡ none s
unfolding seen_of
zeros-none types n (field f ty) =
    case (eqb ty (get_or types f 0)) (λ z. ◌≡◌ {A = ℕ} (cond z (get_or (replicate n 0) f 0) 0) 0) (λ q. get_or-zeros n f) (λ q. refl)
zeros-none types n (cell t r k ty) = refl

pub seen_none : (types : List ℕ) (n : ℕ) → seen_of types (replicate n 0) ≡ none
seen_none types n = λ i s. zeros-none types n s i

set_bump : (types l : List ℕ) (f n : ℕ) → f < length l → (s : Source)
    → seen_of types (set l f n) s ≡ bump (seen_of types l) (record { src = field f (get_or types f 0); n = n }) s
unfolding seen_of same_source_lem
set_bump types l f n h (field g ty) =
    case (eqb g f) (λ z. eqb g f ≡ z
    → cond (eqb ty (get_or types g 0)) (get_or (set l f n) g 0) 0
    ≡ cond (z && eqb ty (get_or types f 0)) n (cond (eqb ty (get_or types g 0)) (get_or l g 0) 0))
    (λ q r. let e = eqb-true g f q in
    rw (e, get_or-set_same l f n 0 h) (case (eqb ty (get_or types f 0)) (λ z. cond z n 0 ≡ cond z n (cond z (get_or l f 0) 0)) (λ p. refl) (λ p. refl)))
    (λ q r. rw (get_or-set_other l f g n 0 (eqb-false g f q)))
    refl
set_bump types l f n h (cell t r k ty) = refl

pub seen_bump : (types l : List ℕ) (f n : ℕ) → f < length l
    → seen_of types (set l f n) ≡ bump (seen_of types l) (record { src = field f (get_or types f 0); n = n })
seen_bump types l f n h = λ i s. set_bump types l f n h s i
