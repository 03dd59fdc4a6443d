-- A site that repeats an earlier one adds nothing: both have the same set at the program's start, and the union has that of the earlier.
use mathlib.Core.Bool.{false, ◌||◌}
use mathlib.Core.List.{List, [], ◌∷◌}
use mathlib.Core.Path.{◌≡◌, refl, sym, ap, subst, ◌∙◌}
use Prim.Native.Nat.{ℕ, ◌+◌, ◌<◌}
use native.Mathlib.Omega.{arith}
use lib.Dec.{eqb}
use borrow.Author.Tests.{eqb-true, eqb-false}
use Rattle.model.specs.Code.{Instr, assign, store, site, done, step, Stmt, plain, if, else, end, while}
use Rattle.model.specs.Conjunct.{Conjuncts, union_of, limits, var}
use Rattle.model.specs.Kinds.{Kind, a_number, a_copy, an_operation, a_conversion, a_read, a_load, a_store, a_site, an_if, an_else, an_end, a_while, a_procedure, a_call, no_kind_lem, kind_of}
use Rattle.model.specs.Refusals.{ok, ◌>>=◌}
use Rattle.model.specs.TidySets.{Mem, Sub, Tidy}
use Rattle.model.specs.Touch.{is_var, some, writes, touches}
use Rattle.model.specs.Walk.{back, start}
use Rattle.model.proofs.Walks.Backward.{LeftAlone, same_way_out}
use Rattle.model.proofs.Conjuncts.Canonical.{union_comm, union_absorb, union_left, union_right}
use Rattle.model.proofs.Files.KindNumbers.{IsNumber, kind-number, operation-most}
use Rattle.model.proofs.Conjuncts.Limits.{limits_inv, fine-limits}
use Rattle.model.proofs.Basics.Results.{bind_ok, bind_assoc, gives_ok}
use Rattle.model.proofs.Walks.Skip.{walk_skip}
use Rattle.model.proofs.Basics.Tests.{case}
use Rattle.model.proofs.Walks.Tidied.{site-tidy, start-tidy}
use Rattle.model.proofs.Walks.Walks.{back-piece}
use Rattle.code_table.specs.declared.Decoded.{Decoded}
use Rattle.code_table.specs.Statements.{stmt_for, stmt_from}
use Rattle.code_table.specs.Table.{stmt_in, mate_in}
use Rattle.std.specs.Prelude.{Ok}
use Rattle.enclosing.specs.Enclosing.{EnclosedIn, walked_out}
use Rattle.analysis.specs.Joining.{joined_to, Sited, Keeps, Repeats, AllJoined}

-- the set of a site on x
abbrev set_at : (x ty : ℕ) → Conjuncts
set_at x ty = (var x ty ∷ []) ∷ []

-- ---- what leaves the set of a site as it is

-- the rule of a statement that writes nothing of it
not_written : (l x ty : ℕ) (y : Instr) → writes y (var x ty ∷ []) ≡ false → back l y (set_at x ty) ≡ ok (set_at x ty)
unfolding touches some
not_written l x ty y w = sym (back-piece l y (set_at x ty)) ∙ walk_skip (step l y done) (set_at x ty) (rw w) (site-tidy x ty)

other-variable : (a x ty : ℕ) → (a ≡ x → ⊥) → some (is_var a) (var x ty ∷ []) ≡ false
unfolding some
other-variable a x ty h = case (eqb x a) (λ z. (z || false) ≡ false) (λ e. absurd (h (sym (eqb-true x a e)))) (λ e. refl)

left_alone : (l x ty : ℕ) (s : Stmt) → Keeps x s → (y : Instr) × (s ≡ plain y) × (back l y (set_at x ty) ≡ ok (set_at x ty))
unfolding writes some
left_alone l x ty (plain (assign a t r)) h = (assign a t r, refl, not_written l x ty (assign a t r) (other-variable a x ty h))
left_alone l x ty (plain (store t k i y u)) h = (store t k i y u, refl, not_written l x ty (store t k i y u) refl)
left_alone l x ty (plain (site a u)) h = (site a u, refl, not_written l x ty (site a u) refl)
left_alone l x ty (if v) h = absurd h
left_alone l x ty else h = absurd h
left_alone l x ty end h = absurd h
left_alone l x ty (while v) h = absurd h

module _ (k : List ℕ) (n i : ℕ) where
  -- ---- a site repeated

  module _ (j x ty : ℕ) (r : Repeats k j i x ty) where
    all_left : LeftAlone (stmt_in k) (mate_in k) n (set_at x ty) j i
    all_left l p q =
        case (eqb l j) (λ z. (y : Instr) × (stmt_in k l ≡ plain y) × (back l y (set_at x ty) ≡ ok (set_at x ty)))
        (λ e. left_alone l x ty (stmt_in k l) (subst (λ s. Keeps x s) (sym (subst (λ a. stmt_in k a ≡ plain (site x ty)) (sym (eqb-true l j e)) r.is-site)) tt))
        (λ e. let differs = eqb-false l j e in left_alone l x ty (stmt_in k l) (r.kept l (omega (arith, differs)) q))

    pub repeated : (R : Conjuncts) → AllJoined k n i R → Tidy R → Sited k n i x ty R (Ok tt) R
    repeated R a tidy q w h =
        let o = same_way_out (stmt_in k) (mate_in k) n (set_at x ty) j i (omega (arith, r.earlier)) all_left w in
        let at = o.is in
        let z = a o.label q x ty o.blocks (omega (arith, at, r.earlier)) (omega (arith, at, r.earlier)) (subst (λ l. stmt_in k l ≡ plain (site x ty)) (sym at) r.is-site) in
        let s = bind_ok (walked_out k n o.label q o.blocks (set_at x ty)) start z.0 z.1 in
        let canon = (gives_ok Tidy (start s.0) z.0 s.2 (start-tidy s.0)).canon in
        let absorbed : union_of R z.0 ≡ R = union_comm R z.0 tidy.canon canon ∙ union_absorb z.0 R tidy.canon z.2 in
        ap (◌>>= joined_to R) o.same ∙ sym (bind_assoc (walked_out k n o.label q o.blocks (set_at x ty)) start (λ Z. limits (union_of R Z)))
        ∙ ap (◌>>= λ Z. limits (union_of R Z)) z.1 ∙ ap limits absorbed ∙ fine-limits R tidy.fine

-- ---- the union behind a label

-- a site with the label i: its own set and what it was joined to are in the new union
joins : (k : List ℕ) (n i x ty : ℕ) (R Q : Conjuncts) → Sited k n i x ty R (Ok tt) Q → (q : ℕ) (w : EnclosedIn k n i q) → i < q
    → (Z : Conjuncts) × ((walked_out k n i q w (set_at x ty) >>= start) ≡ ok Z) × Sub Z Q × Sub R Q
joins k n i x ty R Q f q w h =
    let s = bind_ok (walked_out k n i q w (set_at x ty)) (joined_to R) Q (f q w h) in
    let z = bind_ok (start s.0) (λ Z. limits (union_of R Z)) Q s.2 in
    let e = (limits_inv (union_of R z.0) Q z.2).0 in
    (z.0, ap (◌>>= start) s.1 ∙ z.1, λ y m. subst (Mem y) e (union_right y R z.0 m), λ y m. subst (Mem y) e (union_left y R z.0 m))

same-variable : (s : Stmt) (x ty x' ty' : ℕ) → s ≡ plain (site x ty) → s ≡ plain (site x' ty') → (x ≡ x') × (ty ≡ ty')
same-variable s x ty x' ty' p q = (cc, cc)

module _ (k : List ℕ) (n i : ℕ) (R : Conjuncts) (a : AllJoined k n i R) where
  -- the set of the site with the label j is in Q
  abbrev InUnion : (j q x ty : ℕ) → EnclosedIn k n j q → Conjuncts → Type 0
  InUnion j q x ty w Q = (Z : Conjuncts) × ((walked_out k n j q w (set_at x ty) >>= start) ≡ ok Z) × Sub Z Q

  pub joined-other : ((x ty : ℕ) → stmt_in k i ≡ plain (site x ty) → ⊥) → AllJoined k n (i + 1) R
  joined-other none j q x ty w h b s =
      case (eqb j i) (λ z. InUnion j q x ty w R) (λ e. absurd (none x ty (subst (λ l. stmt_in k l ≡ plain (site x ty)) (eqb-true j i e) s)))
      (λ e. let differs = eqb-false j i e in a j q x ty w (omega (arith, differs)) b s)

  module _ (Q : Conjuncts) (x ty : ℕ) (at : stmt_in k i ≡ plain (site x ty)) (f : Sited k n i x ty R (Ok tt) Q) where
    here : (j q x' ty' : ℕ) (w : EnclosedIn k n j q) → j < q → stmt_in k j ≡ plain (site x' ty') → j ≡ i → InUnion j q x' ty' w Q
    here j q x' ty' w b s e =
        let v = same-variable (stmt_in k j) x ty x' ty' (subst (λ l. stmt_in k l ≡ plain (site x ty)) (sym e) at) s in
        let there = subst (λ l. Sited k n l x ty R (Ok tt) Q) (sym e) f in
        let named = subst (λ y. Sited k n j y ty' R (Ok tt) Q) v.0 (subst (λ u. Sited k n j x u R (Ok tt) Q) v.1 there) in
        let r = joins k n j x' ty' R Q named q w b in
        (r.0, r.1, r.2)

    pub joined-site : (q : ℕ) → EnclosedIn k n i q → i < q → AllJoined k n (i + 1) Q
    joined-site q₀ w₀ h₀ j q x' ty' w h b s =
        case (eqb j i) (λ z. InUnion j q x' ty' w Q) (λ e. here j q x' ty' w b s (eqb-true j i e)) (λ e.
        let differs = eqb-false j i e in
        let z = a j q x' ty' w (omega (arith, differs)) b s in
        let r = joins k n i x ty R Q f q₀ w₀ h₀ in
        (z.0, z.1, λ y m. r.3 y (z.2 y m)))

-- ---- by the row of a statement

-- a plain statement that, if it writes a variable, writes another
pub keeps_row : (d : Decoded) (x : ℕ) → d.kind < 11 → (d.kind < 9 → d.a ≡ x → ⊥) → Keeps x (stmt_from d)
unfolding stmt_from
keeps_row d x below other = go (kind_of d.kind) (kind-number d.kind)
  where
    go : (k : Kind) → IsNumber k d.kind → Keeps x (stmt_for k d)
    go a_number n = other (omega arith)
    go a_copy n = other (omega arith)
    go (an_operation o) n = other (omega (arith, operation-most o))
    go a_conversion n = other (omega arith)
    go a_read n = other (omega arith)
    go a_load n = other (omega arith)
    go a_store n = tt
    go a_site n = tt
    go an_if n = absurd (omega arith)
    go an_else n = absurd (omega arith)
    go an_end n = absurd (omega arith)
    go a_while n = absurd (omega arith)
    go a_procedure n = absurd (omega arith)
    go a_call n = absurd (omega arith)
    go no_kind_lem n = absurd (omega arith)

pub site-row : (d : Decoded) → d.kind ≡ 10 → stmt_from d ≡ plain (site d.a d.ty)
unfolding stmt_from kind_of
site-row d e = rw e
