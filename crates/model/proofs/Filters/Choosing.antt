-- The filter tries every choice of readings: a conjunct of readings holds exactly where it is safe, and is held exactly where some
-- choice overflows. A combination is the list of the values that a choice gives to the atoms.
use mathlib.Core.Path.{◌≡◌, refl, sym, ap, subst, ◌∙◌}
use mathlib.Core.Bool.{Bool, true, false, ◌&&◌, ◌||◌, cond, and-true, true≢false}
use mathlib.Core.List.{List, [], ◌∷◌, map, Memᴰ}
use Prim.Native.Nat.{ℕ, ◌+◌, ◌*◌, ◌/◌}
use lib.Dec.{leb}
use lib.IntN.{ℤ}
use lib.ListN.{length}
use Rattle.arith.specs.Step.{passes}
use Rattle.model.specs.Lists.{All, every}
use Rattle.model.specs.Refusals.{ok, wrong_condition}
use Rattle.model.specs.Bytes.{byte_at, u16_at, u32_at, Pair, entries, pairs_at, chained}
use Rattle.model.specs.Conjunct.{Source, field, cell, Atom, const, atom, op, conv, Conj, Conjuncts, same_atom, atoms, has, AtAtom}
use Rattle.model.specs.Fields.{field_at, field_right, types_in}
use Rattle.model.specs.Values.{add, sub, mul, div}
use Rattle.model.specs.Condition.{Condition, conjuncts_at, node_at, conjunct_at, whole, numbered, rising, length_right, nodes_right, read_condition}
use Rattle.model.specs.Input.{Input}
use Rattle.model.specs.Filter.{evaluate, values_of, combinations, value_in, combinations_of, holds}
use Rattle.model.specs.Demands.{IsReading, Safe, Overflows}
use Rattle.model.specs.Sizes.{counts_size, most_conjuncts, most_fields}
use Rattle.model.proofs.Conjuncts.Atoms.{every_imp, has-atoms, atoms-all, atom_eq}
use Rattle.model.proofs.Filters.Combining.{values, every-combinations}
use Rattle.model.proofs.Basics.Every.{every_mem, every-not}
use Rattle.model.proofs.Basics.Lists.{all_of, all_imp₂, all_map, all-get_or_or, entries-all}
use Rattle.model.proofs.Basics.Results.{ok_eq, check-ok}
use Rattle.model.proofs.Basics.Tests.{case, true→T}
use Rattle.model.proofs.Filters.Worked.{evaluate-same}

-- ---- a condition that is read has no loads

abbrev pub IsField : Source → Type 0
IsField (field f ty) = Unit {0}
IsField (cell l r k ty) = ⊥

-- every atom of a conjunct is a reading of a field
abbrev pub OfFields : Conj → Type 0
OfFields e = All (AtAtom (λ a. IsField a.src)) e

node_of_field : (s : List ℕ) (a : ℕ) → AtAtom (λ b. IsField b.src) (node_at s a)
unfolding node_at
node_of_field s a =
    let ty = byte_at s (a + 1) in
    let i = u32_at s (a + 4) in
    let reading = atom (record { src = field (u16_at s (a + 2)) ty; n = i }) in
    all-get_or_or (AtAtom (λ b. IsField b.src)) (const ty i ∷ reading ∷ op add ty ∷ op sub ty ∷ op mul ty ∷ op div ty ∷ []) (byte_at s a) (conv ty)
    (tt, (tt, (tt, (tt, (tt, (tt, tt)))))) tt

pub read_of_fields : (s : List ℕ) (C : Condition) → read_condition s ≡ ok C → All OfFields C.conjuncts
unfolding read_condition
read_of_fields s C e =
    let c = u32_at s 0 in
    let f = u32_at s 4 in
    let fields = entries field_at 2 s 8 f in
    let pairs = pairs_at s (8 + 2 * f) c in
    let conjuncts = map (conjunct_at s) pairs in
    let D : Condition = record { fields = fields; conjuncts = conjuncts } in
    let form = leb counts_size (length s) && leb c most_conjuncts && leb f most_fields && chained (conjuncts_at f c) pairs (length s) && every field_right fields && every length_right pairs
    && every (nodes_right (types_in fields) s) pairs && every whole conjuncts && every numbered conjuncts && rising conjuncts in
    subst (λ (K : Condition). All OfFields K.conjuncts) (ok_eq D C (check-ok form wrong_condition (ok D) C e).1)
    (all_map OfFields (conjunct_at s) pairs
    (all_of (λ p. entries-all (AtAtom (λ b. IsField b.src)) node_at node_of_field 8 s p.offset (p.len / 8)) pairs))

-- ---- values by a list of atoms

-- the values that f gives to the atoms are found again
value_in-map : (f : Atom → ℤ) (ks : List Atom) (a : Atom) → has a ks ≡ true → value_in ks (map f ks) a ≡ f a
unfolding value_in
value_in-map f [] a h = absurd (true→T h)
value_in-map f (b ∷ ks) a h =
    case (same_atom a b) (λ z. (z || has a ks) ≡ true → cond z (f b) (value_in ks (map f ks) a) ≡ f a)
    (λ q k. ap f (sym (atom_eq a b q))) (λ q k. value_in-map f ks a k) h

-- two valuations that agree on the atoms of a conjunct evaluate it alike
evaluate-atoms : (f g : Atom → ℤ) (e : Conj) → ((a : Atom) → has a (atoms e) ≡ true → f a ≡ g a) → passes (evaluate f e []) ≡ passes (evaluate g e [])
evaluate-atoms f g e h = ap passes (evaluate-same f g e (every_imp (λ a. has a (atoms e) ≡ true) (λ a. f a ≡ g a) h e (has-atoms e)) [])

module _ (I : Input) where
  -- ---- an atom takes the readings of its field, and nothing else

  reading-taken : (s : Source) (z : ℤ) → IsReading I s z → Memᴰ z (values_of I s)
  reading-taken (field f ty) z h = h
  reading-taken (cell l r k ty) z h = absurd h

  taken-reading : (s : Source) (z : ℤ) → IsField s → Memᴰ z (values_of I s) → IsReading I s z
  taken-reading (field f ty) z h m = m
  taken-reading (cell l r k ty) z h m = h

  -- ---- every choice is tried

  every_choice : (at : Atom → ℤ) (ks : List Atom) (p : List ℤ → Bool) → every p (combinations (values I ks)) ≡ true
      → All (λ a. IsReading I a.src (at a)) ks → p (map at ks) ≡ true
  unfolding combinations every
  every_choice at [] p h t = sym (and-true (p [])) ∙ h
  every_choice at (a ∷ ks) p h t =
      let q : ℤ → Bool = λ z. every (λ w. p (z ∷ w)) (combinations (values I ks)) in
      let taken = reading-taken a.src (at a) t.0 in
      every_choice at ks (λ w. p (at a ∷ w)) (every_mem q (values_of I a.src) (at a) (rw every-combinations at h) taken) t.1

  pub holds_safe : (e : Conj) → holds I e ≡ true → Safe I e
  unfolding holds combinations_of
  holds_safe e h at t =
      sym (evaluate-atoms (value_in (atoms e) (map at (atoms e))) at e (value_in-map at (atoms e)))
      ∙ every_choice at (atoms e) (λ zs. passes (evaluate (value_in (atoms e) zs) e [])) h t

  -- ---- and nothing else is

  -- a test fails at a combination
  record Failing (ks : List Atom) (p : List ℤ → Bool) : Type 0 where
    zs : List ℤ
    fails : p zs ≡ false
    gives : (a : Atom) → has a ks ≡ true → Memᴰ (value_in ks zs a) (values_of I a.src)

  -- one atom more, with a value of its own
  failing_cons : (b : Atom) (ks : List Atom) (p : List ℤ → Bool) (z : ℤ) → Memᴰ z (values_of I b.src)
      → Failing ks (λ w. p (z ∷ w)) → Failing (b ∷ ks) p
  unfolding value_in
  failing_cons b ks p z m F = record {
    zs = z ∷ F.zs;
    fails = F.fails;
    gives = λ a h.
        case (same_atom a b) (λ t. (t || has a ks) ≡ true → Memᴰ (cond t z (value_in ks F.zs a)) (values_of I a.src))
        (λ q k. subst (λ (c : Atom). Memᴰ z (values_of I c.src)) (sym (atom_eq a b q)) m) (λ q k. F.gives a k) h;
  }

  some_choice : (ks : List Atom) (p : List ℤ → Bool) → every p (combinations (values I ks)) ≡ false → Failing ks p
  unfolding combinations every
  some_choice [] p h = record { zs = []; fails = sym (and-true (p [])) ∙ h; gives = λ a k. absurd (true→T k) }
  some_choice (b ∷ ks) p h =
      let r = every-not (λ z. every (λ w. p (z ∷ w)) (combinations (values I ks))) (values_of I b.src) (rw every-combinations at h) in
      failing_cons b ks p r.0 r.1 (some_choice ks (λ w. p (r.0 ∷ w)) r.2)

  pub held-overflows : (e : Conj) → OfFields e → holds I e ≡ false → Overflows I e
  unfolding holds combinations_of
  held-overflows e fields h =
      let ks = atoms e in
      let F = some_choice ks (λ zs. passes (evaluate (value_in ks zs) e [])) h in
      let at = value_in ks F.zs in (
        at,
        all_imp₂ (λ a f k. taken-reading a.src (at a) f (F.gives a k)) ks (atoms-all (λ a. IsField a.src) e fields)
            (atoms-all (λ a. has a ks ≡ true) e (has-atoms e)),
        F.fails,
      )

  -- ---- so both ways

  safe_not-overflows : (e : Conj) → Safe I e → Overflows I e → ⊥
  safe_not-overflows e s o = true≢false (sym (s o.0 o.1) ∙ o.2)

  pub safe_holds : (e : Conj) → OfFields e → Safe I e → holds I e ≡ true
  safe_holds e f s = case (holds I e) (λ z. z ≡ true) (λ q. refl) (λ q. absurd (safe_not-overflows e s (held-overflows e f q)))

  pub overflows-held : (e : Conj) → Overflows I e → holds I e ≡ false
  overflows-held e o = case (holds I e) (λ z. z ≡ false) (λ q. absurd (safe_not-overflows e (holds_safe e q) o)) (λ q. refl)
