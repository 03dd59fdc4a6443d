-- One node in which a load or an atom is replaced by a variable; and equal conjuncts.
use mathlib.Core.Bool.{true, false, cond}
use mathlib.Core.Path.{◌≡◌, refl, sym, ap, ◌∙◌}
use Prim.Native.Nat.{ℕ, compare, Ordering}
use lib.Dec.{eqb, compare_is_eq}
use lib.ListN.{length}
use borrow.Author.Tests.{eqb-true, eqb-false}
use Rattle.model.proofs.Basics.Tests.{case, true→T}
use Rattle.model.proofs.Conjuncts.Atoms.{atom_eq, atom_self}
use Rattle.model.proofs.Conjuncts.Order.{nodes_eq}
use Rattle.model.specs.Conjunct.{Atom, Node, const, atom, var, op, conv, Conj, ◌then◌, order_nodes, order, same_atom, on_atom_lem}
use Rattle.model.specs.Walk.{on_array}
use Rattle.model.specs.Touch.{is_var, is_load_lem}
use Rattle.conjunct.specs.Behind.{variable_by}
use Rattle.conjunct.specs.Word.{node_of}
use Rattle.conjunct.proofs.node.Atoms.{alike}
use Rattle.conjunct.proofs.node.Lists.{node-word}
use Rattle.model.proofs.Conjuncts.Order.{compare_same}

module _ (t k x ty : ℕ) where
  -- a load by the variable
  abbrev pub load_by_lem : Atom → Node
  load_by_lem b = cond (on_array t k b.src) (var x ty) (atom b)

  pub load_by : (u : Node) → is_load_lem t k u ≡ true → on_atom_lem load_by_lem u ≡ var x ty
  load_by (const u i) h = absurd (true→T h)
  load_by (atom b) h = rw h
  load_by (var y u) h = absurd (true→T h)
  load_by (op o u) h = absurd (true→T h)
  load_by (conv u) h = absurd (true→T h)

  pub load-left : (u : Node) → is_load_lem t k u ≡ false → on_atom_lem load_by_lem u ≡ u
  load-left (const u i) h = refl
  load-left (atom b) h = rw h
  load-left (var y u) h = refl
  load-left (op o u) h = refl
  load-left (conv u) h = refl

  -- and as words
  pub load_word : (v w : ℕ) → node_of v ≡ var x ty → node_of (cond (is_load_lem t k (node_of w)) v w) ≡ on_atom_lem load_by_lem (node_of w)
  load_word v w h =
      case (is_load_lem t k (node_of w)) (λ z. node_of (cond z v w) ≡ on_atom_lem load_by_lem (node_of w))
      (λ p. h ∙ sym (load_by (node_of w) p)) (λ p. sym (load-left (node_of w) p))

module _ (a : Atom) (x ty : ℕ) where
  -- an atom by the variable
  abbrev pub atom_by_lem : Atom → Node
  atom_by_lem b = cond (same_atom b a) (var x ty) (atom b)

  pub atom_by : atom_by_lem a ≡ var x ty
  atom_by = rw (atom_self a)

  pub atom-left : (u : Node) → (u ≡ atom a → ⊥) → on_atom_lem atom_by_lem u ≡ u
  atom-left (const u i) h = refl
  atom-left (atom b) h = case (same_atom b a) (λ z. cond z (var x ty) (atom b) ≡ atom b) (λ p. absurd (h (ap atom (atom_eq b a p)))) (λ p. refl)
  atom-left (var y u) h = refl
  atom-left (op o u) h = refl
  atom-left (conv u) h = refl

  -- and as words
  pub atom_word : (k v w : ℕ) → node_of k ≡ atom a → node_of v ≡ var x ty → node_of (cond (eqb w k) v w) ≡ on_atom_lem atom_by_lem (node_of w)
  atom_word k v w h e =
      case (eqb w k) (λ z. node_of (cond z v w) ≡ on_atom_lem atom_by_lem (node_of w))
      (λ p. e ∙ sym (ap (λ i. on_atom_lem atom_by_lem (node_of i)) (eqb-true w k p) ∙ ap (on_atom_lem atom_by_lem) h ∙ atom_by))
      (λ p. sym (atom-left (node_of w) (λ q. eqb-false w k p (node-word w k (q ∙ sym h)))))

-- a variable by a node, as words
pub variable_word : (x u w y : ℕ) → y ≡ cond (is_var x (node_of w)) u w → node_of y ≡ variable_by x (node_of u) (node_of w)
variable_word x u w y h =
    ap node_of h ∙ case (is_var x (node_of w)) (λ z. node_of (cond z u w) ≡ cond z (node_of u) (node_of w)) (λ p. refl) (λ p. refl)

-- conjuncts are the same by the order if and only if they are node by node
pub order_same : (d e : Conj) → compare_is_eq (order d e) ≡ compare_is_eq (order_nodes d e)
unfolding order
order_same d e =
    alike (compare_is_eq (order d e)) (compare_is_eq (order_nodes d e)) (λ p. low (compare (length d) (length e)) p)
    (λ p. rw (compare_same (length d) (length e) (ap length (nodes_eq d e (is_eq (order_nodes d e) p)))) p)
  where
    is_eq : (o : Ordering) → compare_is_eq o ≡ true → o ≡ Ordering.eq
    is_eq Ordering.lt p = absurd (true→T p)
    is_eq Ordering.eq p = refl
    is_eq Ordering.gt p = absurd (true→T p)

    low : (o : Ordering) → compare_is_eq (o then order_nodes d e) ≡ true → compare_is_eq (order_nodes d e) ≡ true
    low Ordering.lt p = absurd (true→T p)
    low Ordering.eq p = p
    low Ordering.gt p = absurd (true→T p)
