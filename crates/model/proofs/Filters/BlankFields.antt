-- A field left blank: the filter gives 15 exactly where some conjunct reads a field without readings, and answers as before where
-- it does not. A test that fails is a list of readings that is empty.
use mathlib.Core.Path.{◌≡◌, refl, sym}
use mathlib.Core.Logic.{◌⊎◌, inl, inr}
use mathlib.Core.Bool.{Bool, true, false, cond}
use mathlib.Core.List.{List, [], ◌∷◌}
use Prim.Native.Nat.{ℕ}
use native.Mathlib.Omega.{arith}
use lib.Dec.{ltb}
use lib.IntN.{ℤ}
use lib.ListN.{length}
use borrow.Author.Tests.{ltb-false}
use Rattle.model.specs.Lists.{every}
use Rattle.model.specs.Refusals.{Out, ok, refused, ◌>>=◌, check, too_many_combinations, blank_field}
use Rattle.model.specs.Conjunct.{Source, field, cell, Atom, Conj, Conjuncts, atoms}
use Rattle.model.specs.Condition.{Condition, read_condition}
use Rattle.model.specs.Input.{Input, read_input}
use Rattle.model.specs.Filter.{values_of, holds, has_readings, few_combinations, pass_number, held_number, filter_input}
use Rattle.model.specs.Demands.{Some, IsBlank, filter_allowing_blanks, BlankFields}
use Rattle.model.proofs.Basics.Every.{every_some, some-every}
use Rattle.model.proofs.Basics.Lists.{some_imp}
use Rattle.model.proofs.Basics.Results.{refused-ok}
use Rattle.model.proofs.Basics.Tests.{true→T}

-- ---- the test of one atom, and of one conjunct

none-empty : (zs : List ℤ) → ltb 0 (length zs) ≡ false → zs ≡ []
none-empty [] h = refl
none-empty (z ∷ zs) h = absurd (omega (arith, ltb-false 0 (length (z ∷ zs)) h))

module _ (I : Input) where
  atom-blank : (s : Source) → ltb 0 (length (values_of I s)) ≡ false → IsBlank I s
  atom-blank (field f ty) h = none-empty (I f) h
  atom-blank (cell l r k ty) h = absurd (true→T (sym h))

  blank-atom : (s : Source) → IsBlank I s → ltb 0 (length (values_of I s)) ≡ false
  blank-atom (field f ty) h = rw h
  blank-atom (cell l r k ty) h = absurd h

  abbrev ReadsBlank : Conj → Type 0
  ReadsBlank e = Some (λ a. IsBlank I a.src) (atoms e)

  reads-blank : (e : Conj) → has_readings I e ≡ false → ReadsBlank e
  unfolding has_readings
  reads-blank e h = some_imp (λ a. atom-blank a.src) (atoms e) (every_some (λ a. ltb 0 (length (values_of I a.src))) (atoms e) h)

  blank-reads : (e : Conj) → ReadsBlank e → has_readings I e ≡ false
  unfolding has_readings
  blank-reads e h = some-every (λ a. ltb 0 (length (values_of I a.src))) (atoms e) (some_imp (λ a. blank-atom a.src) (atoms e) h)

-- ---- the filter

-- neither of the tests that follow gives 15
no_later-blank : (b : Bool) (n : ℕ) → check b too_many_combinations (ok n) ≡ refused blank_field → ⊥
no_later-blank true n e = refused-ok blank_field n (sym e)
no_later-blank false n e = let q : too_many_combinations ≡ blank_field = cc in absurd (omega arith)

blank_by_test : (b : Bool) (o : Out ℕ) → (o ≡ refused blank_field → ⊥) → check b blank_field o ≡ refused blank_field → b ≡ false
blank_by_test true o h e = absurd (h e)
blank_by_test false o h e = refl

-- 15, or the same: of one test, and of what comes before it
abbrev BlankOr : Out ℕ → Out ℕ → Type 0
BlankOr o p = (o ≡ refused blank_field) ⊎ (o ≡ p)

blank_or_others : (b : Bool) (o : Out ℕ) → BlankOr (check b blank_field o) o
blank_or_others true o = inr refl
blank_or_others false o = inl refl

blank_or_bind : {A : Type 0} (o : Out A) (f g : A → Out ℕ) → ((a : A) → BlankOr (f a) (g a)) → BlankOr (o >>= f) (o >>= g)
blank_or_bind (ok a) f g h = h a
blank_or_bind (refused n) f g h = inr refl

pub blank-fields : BlankFields
unfolding filter_input filter_allowing_blanks
blank-fields = record {
  blank = λ condition input C I c i.
      let S = C.conjuncts in
      let full = every (has_readings I) S in
      let few = every (few_combinations I) S in
      let answer = cond (every (holds I) S) pass_number held_number in (
        λ e.
            let not_full = blank_by_test full (check few too_many_combinations (ok answer)) (no_later-blank few answer) (rw (c, i) at e) in
            some_imp (reads-blank I) S (every_some (has_readings I) S not_full),
        λ s. let not_full = some-every (has_readings I) S (some_imp (blank-reads I) S s) in rw (c, i, not_full),
      );
  others = λ condition input.
      let full : Condition → Input → Bool = λ C I. every (has_readings I) C.conjuncts in
      let few : Condition → Input → Bool = λ C I. every (few_combinations I) C.conjuncts in
      let answer : Condition → Input → ℕ = λ C I. cond (every (holds I) C.conjuncts) pass_number held_number in
      let old : Condition → Input → Out ℕ = λ C I. check (few C I) too_many_combinations (ok (answer C I)) in
      let new : Condition → Input → Out ℕ = λ C I. check (full C I) blank_field (old C I) in
      blank_or_bind (read_condition condition) (λ C. read_input C.fields input >>= new C) (λ C. read_input C.fields input >>= old C)
      (λ C. blank_or_bind (read_input C.fields input) (new C) (old C) (λ I. blank_or_others (full C I) (old C I)));
}
