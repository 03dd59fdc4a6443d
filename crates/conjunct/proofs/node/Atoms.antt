-- Atoms' words: the same source, the same atom, and every other word.
use mathlib.Core.Bool.{Bool, true, false, cond}
use mathlib.Core.Path.{◌≡◌, refl, sym, ap, ◌∙◌, subst}
use Prim.Native.Nat.{ℕ, ◌+◌, ◌*◌, ◌/◌, ◌%◌}
use native.Mathlib.Omega.{arith}
use lib.Dec.{ltb, eqb}
use Rattle.model.proofs.Conjuncts.Atoms.{source_eq, source_self, atom_eq, atom_self}
use borrow.Author.Tests.{eq-eqb, eqb-true}
use Rattle.model.specs.Conjunct.{Source, Atom, Node, const, atom, var, op, conv, same_source_lem, same_atom, on_atom_lem, AtAtom}
use Rattle.conjunct.proofs.node.Lists.{node-word}
use Rattle.conjunct.proofs.node.Made.{made-numbered}
use Rattle.conjunct.specs.Word.{low4, is_atom_lem, source_of, key_of, atom_of, plain_of, node_of, first_conversion, first_difference}
use Rattle.conjunct.specs.Word.{first_product, first_quotient, first_reading, first_variable, place3, place4, place7}

-- tests that answer alike
pub alike : (a b : Bool) → (a ≡ true → b ≡ true) → (b ≡ true → a ≡ true) → a ≡ b
alike true b f g = sym (f refl)
alike false true f g = g refl
alike false false f g = refl

-- ---- an atom's word, and any other

pub is-atom : (w : ℕ) → is_atom_lem w ≡ true → node_of w ≡ atom (atom_of w)
unfolding node_of
is-atom w h = rw h

pub no_atom : (w : ℕ) → is_atom_lem w ≡ false → node_of w ≡ plain_of w
unfolding node_of
no_atom w h = rw h

plain-kept : (f : Atom → Node) (w : ℕ) → on_atom_lem f (plain_of w) ≡ plain_of w
unfolding plain_of
plain-kept f w =
    go (ltb w first_reading) (ltb w first_difference) (ltb w first_product) (ltb w first_quotient) (ltb w first_conversion) (ltb w first_variable)
  where
    P : Bool → Bool → Bool → Bool → Bool → Bool → Node
    P a b c d e g =
        cond a (const (w / place4) (low4 w))
        (cond b (op Rattle.model.specs.Values.add (w % place7))
        (cond c (op Rattle.model.specs.Values.sub (w % place7))
        (cond d (op Rattle.model.specs.Values.mul (w % place7))
        (cond e (op Rattle.model.specs.Values.div (w % place7))
        (cond g (conv (w % place7))
        (var (low4 w) (w / place4 % place3)))))))

    go : (a b c d e g : Bool) → on_atom_lem f (P a b c d e g) ≡ P a b c d e g
    go true b c d e g = refl
    go false true c d e g = refl
    go false false true d e g = refl
    go false false false true e g = refl
    go false false false false true g = refl
    go false false false false false true = refl
    go false false false false false false = refl

-- a change of atoms leaves any other word's node
pub other-kept : (f : Atom → Node) (w : ℕ) → is_atom_lem w ≡ false → on_atom_lem f (node_of w) ≡ node_of w
other-kept f w h = rw (no_atom w h) (plain-kept f w)

-- and is no atom
pub other-plain : (w : ℕ) → is_atom_lem w ≡ false → AtAtom (λ a. ⊥) (node_of w)
other-plain w h = go (node_of w) (λ f. other-kept f w h)
  where
    no : (a : Atom) → const 0 0 ≡ atom a → ⊥
    no a e = let z : ◌≡◌ {A = ℕ} 0 1 = cc in omega arith

    go : (v : Node) → ((f : Atom → Node) → on_atom_lem f v ≡ v) → AtAtom (λ a. ⊥) v
    go (const ty i) k = tt
    go (atom a) k = no a (k (λ b. const 0 0))
    go (var x ty) k = tt
    go (op o ty) k = tt
    go (conv ty) k = tt

pub atom_changed : (f : Atom → Node) (w : ℕ) → is_atom_lem w ≡ true → on_atom_lem f (node_of w) ≡ f (atom_of w)
atom_changed f w h = rw (is-atom w h)

-- ---- the same atom

pub same-atom : (v w : ℕ) → is_atom_lem v ≡ true → is_atom_lem w ≡ true → same_atom (atom_of v) (atom_of w) ≡ eqb v w
same-atom v w h k =
    alike (same_atom (atom_of v) (atom_of w)) (eqb v w)
    (λ p. eq-eqb v w (node-word v w (is-atom v h ∙ ap atom (atom_eq (atom_of v) (atom_of w) p) ∙ sym (is-atom w k))))
    (λ p. subst (λ x. same_atom (atom_of v) (atom_of x) ≡ true) (eqb-true v w p) (atom_self (atom_of v)))

-- ---- the same source

-- with n 0 it is the key's
key_atom : (w : ℕ) → is_atom_lem w ≡ true → node_of (key_of w + 0 * place3) ≡ atom (record { src = source_of w; n = 0 })
key_atom w h = made-numbered w 0 h (omega arith)

atom-source : (s t : Source) (n : ℕ) → atom (record { src = s; n = n }) ≡ atom (record { src = t; n = n }) → s ≡ t
atom-source s t n e = ap (λ v. elim v [ const ty i ↦ s | atom a ↦ a.src | var x ty ↦ s | op o ty ↦ s | conv ty ↦ s ]) e

pub same_source : (v w : ℕ) → is_atom_lem v ≡ true → is_atom_lem w ≡ true → same_source_lem (source_of v) (source_of w) ≡ eqb (key_of v) (key_of w)
same_source v w h k =
    alike (same_source_lem (source_of v) (source_of w)) (eqb (key_of v) (key_of w))
    (λ p. let s = source_eq (source_of v) (source_of w) p in
    let e = node-word (key_of v + 0 * place3) (key_of w + 0 * place3)
    (key_atom v h ∙ ap (λ x. atom (record { src = x; n = 0 })) s ∙ sym (key_atom w k)) in
    eq-eqb (key_of v) (key_of w) (omega arith))
    (λ p. let e = atom-source (source_of v) (source_of w) 0
    (sym (key_atom v h) ∙ ap (λ x. node_of (x + 0 * place3)) (eqb-true (key_of v) (key_of w) p) ∙ key_atom w k) in
    subst (λ x. same_source_lem (source_of v) x ≡ true) e (source_self (source_of v)))
