-- Demand 3 of the run behind the filter.
use mathlib.Core.Path.{◌≡◌, sym, ap, subst, ◌∙◌}
use mathlib.Core.Bool.{cond}
use mathlib.Core.List.{List}
use Prim.Native.Nat.{ℕ}
use lib.Dec.{eqb}
use lib.ListN.{length}
use borrow.Author.Tests.{eqb-true}
use Rattle.model.specs.Refusals.{Out, ok, refused, ◌>>=◌}
use Rattle.model.specs.Condition.{analysis}
use Rattle.model.specs.Filter.{pass_number, filter_input}
use Rattle.model.specs.Run.{Ran, run}
use Rattle.model.specs.Demands.{Exact}
use Rattle.model.specs.Guarded.{Guarded, held, passed, admitted, guarded}
use Rattle.model.proofs.Demand3.{demand3}
use Rattle.model.proofs.Basics.Results.{ok_eq, bind_ok}
use Rattle.model.proofs.Basics.Tests.{case}

-- the answer is that the input passed
abbrev IsPassed : Guarded → Type 0
IsPassed held = ⊥
IsPassed (passed C R) = Unit {0}

abbrev condition_in : Guarded → List ℕ → List ℕ
condition_in held d = d
condition_in (passed C R) d = C

abbrev ran_in : Guarded → Ran → Ran
ran_in held d = d
ran_in (passed C R) d = R

admitted-passed : (C : List ℕ) (o : Out Ran) (v : ℕ) (D : List ℕ) (R : Ran) → admitted C o v ≡ ok (passed D R) → (v ≡ pass_number) × (o ≡ ok R) × (C ≡ D)
admitted-passed C o v D R =
    case (eqb v pass_number) (λ b. cond b (o >>= λ Q. ok (passed C Q)) (ok held) ≡ ok (passed D R) → (v ≡ pass_number) × (o ≡ ok R) × (C ≡ D))
    (
    λ q e.
    let k = bind_ok o (λ Q. ok (passed C Q)) (passed D R) e in
    let p = ok_eq (passed C k.0) (passed D R) k.2 in
    (eqb-true v pass_number q, k.1 ∙ ap (λ g. ok (ran_in g R)) p, ap (λ g. condition_in g D) p)
    )
    (λ q e. absurd (subst IsPassed (sym (ok_eq held (passed D R) e)) tt))

module _ (program input : List ℕ) (limit : ℕ) (choices log : List ℕ) where
  -- what ran behind the filter was analysed, passed and run
  pub passed_inv : (C : List ℕ) (R : Ran) → guarded program input limit choices log ≡ ok (passed C R)
      → (analysis program ≡ ok C) × (filter_input C input ≡ ok pass_number) × (run program input limit choices log ≡ ok R)
  unfolding guarded
  passed_inv C R e =
      let a = bind_ok (analysis program) (λ D. filter_input D input >>= admitted D (run program input limit choices log)) (passed C R) e in
      let f = bind_ok (filter_input a.0 input) (admitted a.0 (run program input limit choices log)) (passed C R) a.2 in
      let k = admitted-passed a.0 (run program input limit choices log) f.0 C R f.2 in
      (a.1 ∙ ap ok k.2, ap (λ D. filter_input D input) (sym k.2) ∙ f.1 ∙ ap ok k.0, k.1)

  -- demand 3 of it
  pub guarded-exact : (C : List ℕ) (R : Ran) → guarded program input limit choices log ≡ ok (passed C R)
      → Exact program input limit choices (length log) R.records R.log
  guarded-exact C R e =
      let k = passed_inv C R e in
      demand3 program C input limit choices log R k.0 k.1 k.2
