-- What a caller knows of the procedures in a table: the one with a number; and of a program without procedures.
use mathlib.Core.Path.{◌≡◌, refl, ap, ◌∙◌}
use mathlib.Core.Bool.{Bool, true, false, not}
use mathlib.Core.List.{List, [], ◌∷◌, ◌++◌}
use Prim.Native.Nat.{ℕ, zero, suc, ◌<◌}
use native.Mathlib.Omega.{arith}
use borrow.Author.Tests.{leb-true, leb-false}
use lib.Dec.{leb}
use lib.ListN.{length, get_or, length-append, get_or-append}
use lib.Seq.{get_or_at}
use Rattle.model.specs.Lists.{every}
use Rattle.model.specs.Refusals.{ok, check, wrong_procedures}
use Rattle.model.specs.Code.{end}
use Rattle.model.specs.Procedures.{Item, own, Procedure, Parts, between, begins_none, parts_from, owns, named, procedures_right_lem, all_apart_lem, spares, parts_right_lem}
use Rattle.model.specs.Program.{Tables, items_of}
use Rattle.model.proofs.Basics.Tests.{and_left}
use Rattle.program.specs.Parts.{procedure_in_lem, procedures_in}
use Rattle.program.proofs.procedures.PartsFrom.{main-begins}

-- ---- the procedures of a table

abbrev pub no_procedure_lem : Procedure
no_procedure_lem = record { params = 0; first = 0; count = 0; label = 0; body = [] }

module _ (T : Tables) (t : List ℕ) where
  pub procedures-length : (n : ℕ) → length (procedures_in T t n) ≡ n
  unfolding procedures_in
  procedures-length zero = refl
  procedures-length (suc n) = length-append (procedures_in T t n) (procedure_in_lem T t n ∷ []) ∙ let e = procedures-length n in omega arith

  pub procedure-at : (n p : ℕ) → p < n → get_or (procedures_in T t n) p no_procedure_lem ≡ procedure_in_lem T t p
  unfolding procedures_in
  procedure-at zero p h = absurd (omega arith)
  procedure-at (suc n) p h = go (leb n p) refl (procedure-at n p)
    where
      ps : List Procedure
      ps = procedures_in T t n

      go : (z : Bool) → leb n p ≡ z → (p < n → get_or ps p no_procedure_lem ≡ procedure_in_lem T t p) → get_or (ps ++ (procedure_in_lem T t n ∷ [])) p no_procedure_lem ≡ procedure_in_lem T t p
      go true z before =
          let k = leb-true n p z in
          let same : p ≡ n = omega arith in
          rw same (get_or_at ps (procedure_in_lem T t n) [] no_procedure_lem n (procedures-length n))
      go false z before =
          let k = leb-false n p z in
          get_or-append ps (procedure_in_lem T t n ∷ []) no_procedure_lem p (rw (procedures-length n) k) ∙ before k

-- ---- a program without procedures: all its statements stand after them, and check 16 passes

abbrev pub all_main : List Item → Parts
all_main is = record { procedures = []; label = 0; main = is }

first-begins-none : (is : List Item) → every begins_none is ≡ true → begins_none (get_or is 0 (own end)) ≡ true
unfolding every
first-begins-none [] h = refl
first-begins-none (x ∷ xs) h = and_left (begins_none x) (every begins_none xs) h

pub parts-plain : (T : Tables) → every begins_none (items_of T) ≡ true → parts_from 0 [] between (items_of T) ≡ ok (all_main (items_of T))
parts-plain T h =
    main-begins T 0 [] (first-begins-none (items_of T) h) ∙ ap (λ b. check b wrong_procedures (ok (all_main (items_of T)))) h

-- there is none that owns a variable
names-spared : (xs : List ℕ) → every (λ x. every (λ (q : Procedure). not (owns q x)) []) xs ≡ true
unfolding every
names-spared [] = refl
names-spared (x ∷ xs) = names-spared xs

all-spared : (is : List Item) → every (spares []) is ≡ true
unfolding every
all-spared [] = refl
all-spared (x ∷ xs) = rw (names-spared (named x)) (all-spared xs)

pub right-plain : (is : List Item) → parts_right_lem (all_main is) ≡ true
unfolding parts_right_lem procedures_right_lem all_apart_lem
right-plain is = all-spared is
