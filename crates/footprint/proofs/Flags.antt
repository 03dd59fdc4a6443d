-- What flags say of a conjunct as nodes are added to it, and as more flags are set.
use mathlib.Core.Path.{◌≡◌, refl, sym, ap, subst, ◌∙◌}
use mathlib.Core.Bool.{Bool, false, ◌&&◌}
use mathlib.Core.List.{List, [], ◌∷◌, ◌++◌, map-append}
use Prim.Native.Nat.{ℕ, ◌+◌, ◌*◌, ◌/◌, ◌%◌, ◌≤◌, ◌<◌}
use native.Mathlib.Omega.{arith}
use native.Mathlib.Numerals.{add-one}
use lib.Dec.{eqb}
use lib.ListN.{length, get_or, take, drop, length-drop}
use lib.Seq.{take-suc, get_or-drop}
use borrow.Author.Tests.{ne_eqb}
use Rattle.model.specs.Conjunct.{Conj, Conjuncts}
use Rattle.model.specs.Touch.{is_var, is_load_lem, some}
use Rattle.model.proofs.Basics.Lists.{all_imp, all_append}
use Rattle.model.proofs.Basics.Tests.{or_left, or_right}
use Rattle.conjunct.proofs.node.Looked.{low-variable, high-variable, at-variable, low_load, at_load}
use Rattle.conjunct.specs.Word.{place2, place3, first_variable, first_load, low4, node_of, nodes_of_lem}
use Rattle.footprint.specs.Footprints.{variable_flags, FreeArray, FlagsVariable, FlagsArray, Covers, CoversSet, Extends}
use Rattle.footprint.specs.declared.Footprint.{Footprint}

-- ---- more flags, more nodes

pub extends_self : (m : Footprint) → Extends m m
extends_self m = record { variables = λ x f. f; arrays = λ t f. f }

pub extends_trans : (l m n : Footprint) → Extends l m → Extends m n → Extends l n
extends_trans l m n h k = record { variables = λ x f. h.variables x (k.variables x f); arrays = λ t f. h.arrays t (k.arrays t f) }

pub covers_more : (m n : Footprint) (e : Conj) → Extends m n → Covers m e → Covers n e
covers_more m n e h k = record { variables = λ x f. k.variables x (h.variables x f); arrays = λ t j f. k.arrays t j (h.arrays t f) }

pub speaks_more : (m n : Footprint) (S : Conjuncts) → Extends m n → CoversSet m S → CoversSet n S
speaks_more m n S h k = all_imp (λ e g. covers_more m n e h g) S k

some-append : {A : Type 0} (f : A → Bool) (xs ys : List A) → some f xs ≡ false → some f ys ≡ false → some f (xs ++ ys) ≡ false
unfolding some
some-append f [] ys h k = k
some-append f (x ∷ xs) ys h k = rw (or_left (f x) (some f xs) h) (some-append f xs ys (or_right (f x) (some f xs) h) k)

covers-append : (m : Footprint) (d e : Conj) → Covers m d → Covers m e → Covers m (d ++ e)
covers-append m d e h k = record {
  variables = λ x f. some-append (is_var x) d e (h.variables x f) (k.variables x f);
  arrays = λ t j f. some-append (is_load_lem t j) d e (h.arrays t j f) (k.arrays t j f);
}

covers-none : (m : Footprint) → Covers m []
unfolding some
covers-none m = record { variables = λ x f. refl; arrays = λ t k f. refl }

-- the node at j after those before it
covers-next : (m n : Footprint) (ws : List ℕ) (j : ℕ) → j < length ws → Extends m n → Covers m (nodes_of_lem (take j ws)) → Covers n (node_of (get_or ws j 0) ∷ [])
    → Covers n (nodes_of_lem (take (j + 1) ws))
covers-next m n ws j h k a b =
    let e : nodes_of_lem (take (j + 1) ws) ≡ nodes_of_lem (take j ws) ++ (node_of (get_or ws j 0) ∷ []) =
    ap (λ i. nodes_of_lem (take i ws)) (add-one j) ∙ ap nodes_of_lem (take-suc ws j 0 h) ∙ map-append node_of (take j ws) (get_or ws j 0 ∷ []) in
    subst (Covers n) (sym e) (covers-append n (nodes_of_lem (take j ws)) (node_of (get_or ws j 0) ∷ []) (covers_more m n (nodes_of_lem (take j ws)) k a) b)

-- the flags of m, and those of the first j nodes of the words from a on, are in r
pub record Noted (m r : Footprint) (s : List ℕ) (a j : ℕ) : Type 0 where
  pub extends : Extends m r
  pub covers : Covers r (nodes_of_lem (take j (drop a s)))

pub noted-none : (m : Footprint) (s : List ℕ) (a : ℕ) → Noted m m s a 0
noted-none m s a = record { extends = extends_self m; covers = covers-none m }

pub noted-next : (m r n : Footprint) (s : List ℕ) (a j : ℕ) → a + j < length s → Noted m r s a j → Extends r n × Covers n (node_of (get_or s (a + j) 0) ∷ []) → Noted m n s a (j + 1)
noted-next m r n s a j h k b = record {
  extends = extends_trans m r n k.extends b.0;
  covers = covers-next r n (drop a s) j (rw length-drop (omega arith)) b.0 k.covers (subst (λ w. Covers n (node_of w ∷ [])) (sym (get_or-drop a s j 0)) b.1);
}

-- the conjunct at i after those before it
pub speaks_next : (m n : Footprint) (S : Conjuncts) (i : ℕ) (e : Conj) → i < length S → e ≡ get_or S i [] → Extends m n → CoversSet m (take i S) → Covers n e
    → CoversSet n (take (i + 1) S)
speaks_next m n S i e h q k a b =
    let g : take (i + 1) S ≡ take i S ++ (get_or S i [] ∷ []) = ap (λ j. take j S) (add-one i) ∙ take-suc S i [] h in
    subst (CoversSet n) (sym g) (all_append (Covers n) (take i S) (get_or S i [] ∷ []) (speaks_more m n (take i S) k a) (subst (Covers n) q b, tt))

-- ---- one node

-- a number modulo the count of flags, by its lowest byte alone
low-flag : (b r : ℕ) → (b % 256 + 256 * r) % variable_flags ≡ b % variable_flags
low-flag b r = omega arith

module _ (w : ℕ) where
  -- neither a variable nor a load
  pub covers-plain : (m : Footprint) → w < first_variable → Covers m (node_of w ∷ [])
  unfolding some
  covers-plain m h = record {
    variables = λ x f. rw (← low-variable w x h);
    arrays = λ t k f. rw (← low_load w t k (omega arith));
  }

  module _ (l : first_variable ≤ w) (h : w < first_load) where
    not-variable : (x : ℕ) → (x % variable_flags ≡ w / place3 % variable_flags → ⊥) → is_var x (node_of w) ≡ false
    not-variable x n = sym (at-variable w x l h) ∙ ne_eqb (low4 w) x (λ e. n (ap (◌% variable_flags) (sym e) ∙ low-flag (w / place3) _))

    -- a variable whose flag is set
    pub covers-variable : (n : Footprint) → FlagsVariable n (w / place3) → Covers n (node_of w ∷ [])
    unfolding some
    covers-variable n on = record {
      variables = λ x f. rw (not-variable x (λ e. on (ap (λ i. get_or n.variables i false) (sym e) ∙ f)));
      arrays = λ t j f. rw (← low_load w t j h);
    }

  module _ (l : first_load ≤ w) where
    not-load : (t k : ℕ) → (t ≡ w / place2 % 256 → ⊥) → is_load_lem t k (node_of w) ≡ false
    not-load t k n = sym (at_load w t k l) ∙ ap (◌&& eqb (w % place2) k) (ne_eqb (w / place2 % 256) t (λ e. n (sym e)))

    -- a load from an array whose flag, if it has one, is set
    pub covers-load : (n : Footprint) → FlagsArray n (w / place2 % 256) → Covers n (node_of w ∷ [])
    unfolding some
    covers-load n on = record {
      variables = λ x f. rw (← high-variable w x l);
      arrays = λ t j f. rw (not-load t j (λ e. on (subst (FreeArray n) e f)));
    }
