-- The beginnings of procedures: those of the statements from a label on, and the one with a number.
use mathlib.Core.Path.{◌≡◌, refl, sym, ap, ◌∙◌}
use mathlib.Core.Bool.{Bool, true, false, true≢false}
use mathlib.Core.List.{List, [], ◌∷◌}
use Prim.Native.Nat.{ℕ, suc, ◌+◌, ◌-◌, ◌≤◌, ◌<◌}
use native.Mathlib.Numerals.{add-one}
use native.Mathlib.Omega.{arith}
use borrow.Author.Tests.{lt-ltb, le-ltb, leb-true, leb-false}
use lib.Dec.{leb, ltb}
use lib.ListN.{length, get_or, drop, drop_of_length-le, get_or-eq_default}
use lib.Seq.{drop-cons, drop-nil, get_or-drop}
use Rattle.model.specs.Kinds.{Kind, a_number, a_copy, an_operation, a_conversion, a_read, a_load, a_store, a_site, an_if, an_else, an_end, a_while, a_procedure, a_call, no_kind_lem, kind_of, begins}
use Rattle.model.specs.Program.{Statement, beginnings}
use Rattle.model.proofs.Files.KindNumbers.{IsNumber, kind-number}
use Rattle.program.specs.Numbers.{procedure_kind}
use Rattle.program.specs.Reading.{no_statement}

module _ (q : Statement) where
  pub begins-procedure : q.kind ≡ procedure_kind → begins (kind_of q.kind) ≡ true
  unfolding kind_of
  begins-procedure e = rw e

  pub begins-none : (q.kind ≡ procedure_kind → ⊥) → begins (kind_of q.kind) ≡ false
  begins-none other = go (kind_of q.kind) (kind-number q.kind)
    where
      go : (k : Kind) → IsNumber k q.kind → begins k ≡ false
      go a_number n = refl
      go a_copy n = refl
      go (an_operation o) n = refl
      go a_conversion n = refl
      go a_read n = refl
      go a_load n = refl
      go a_store n = refl
      go a_site n = refl
      go an_if n = refl
      go an_else n = refl
      go an_end n = refl
      go a_while n = refl
      go a_procedure n = absurd (other n)
      go a_call n = refl
      go no_kind_lem n = refl

-- one statement further
module _ (ss : List Statement) (i : ℕ) (h : i < length ss) where
  abbrev here : Statement
  here = get_or ss i no_statement

  pub beginnings-here : here.kind ≡ procedure_kind → beginnings (drop i ss) ≡ here ∷ beginnings (drop (i + 1) ss)
  beginnings-here e = rw (drop-cons ss i no_statement h, begins-procedure here e, add-one i)

  pub beginnings-past : (here.kind ≡ procedure_kind → ⊥) → beginnings (drop i ss) ≡ beginnings (drop (i + 1) ss)
  beginnings-past other = rw (drop-cons ss i no_statement h, begins-none here other, add-one i)

-- the element with a number, by what is left from it on
module _ {A : Type 0} (d : A) (p : ℕ) (xs : List A) where
  pub first-left : (y : A) (ys : List A) → drop p xs ≡ y ∷ ys → (get_or xs p d ≡ y) × (ltb p (length xs) ≡ true)
  first-left y ys e = (item, go (leb (length xs) p) refl)
    where
      item : get_or xs p d ≡ y
      item = let z : p + 0 ≡ p = omega arith in rw z at (sym (get_or-drop p xs 0 d)) ∙ ap (λ (zs : List A). get_or zs 0 d) e

      go : (b : Bool) → leb (length xs) p ≡ b → ltb p (length xs) ≡ true
      go true w =
          let none = drop_of_length-le xs (leb-true (length xs) p w) in
          let z : true ≡ false = cc in
          absurd (true≢false z)
      go false w = lt-ltb p (length xs) (leb-false (length xs) p w)

  pub none_left : drop p xs ≡ [] → (get_or xs p d ≡ d) × (ltb p (length xs) ≡ false)
  none_left e = go (leb (length xs) p) refl
    where
      go : (b : Bool) → leb (length xs) p ≡ b → (get_or xs p d ≡ d) × (ltb p (length xs) ≡ false)
      go true w =
          let past = leb-true (length xs) p w in
          (get_or-eq_default xs d past, le-ltb p (length xs) past)
      go false w =
          let some = drop-cons xs p d (leb-false (length xs) p w) in
          let z : true ≡ false = cc in
          absurd (true≢false z)

-- ---- the search for number p: from i on there are still `left` procedures before it

module _ (d : Statement) (ss : List Statement) (p left i : ℕ) (w : drop p (beginnings ss) ≡ drop left (beginnings (drop i ss))) where
  pub seek_past : i < length ss → ((get_or ss i no_statement).kind ≡ procedure_kind → ⊥) → drop p (beginnings ss) ≡ drop left (beginnings (drop (i + 1) ss))
  seek_past h other = w ∙ ap (drop left) (beginnings-past ss i h other)

  pub seek_next : i < length ss → (get_or ss i no_statement).kind ≡ procedure_kind → 1 ≤ left → drop p (beginnings ss) ≡ drop (left - 1) (beginnings (drop (i + 1) ss))
  seek_next h e more =
      let s : left ≡ suc (left - 1) = omega arith in
      w ∙ ap (drop left) (beginnings-here ss i h e) ∙ ap (λ (m : ℕ). drop m (get_or ss i no_statement ∷ beginnings (drop (i + 1) ss))) s

  pub seek_found : i < length ss → (get_or ss i no_statement).kind ≡ procedure_kind → left ≡ 0
      → (get_or (beginnings ss) p d ≡ get_or ss i no_statement) × (ltb p (length (beginnings ss)) ≡ true)
  seek_found h e z = first-left d p (beginnings ss) _ _ (w ∙ ap (λ (m : ℕ). drop m (beginnings (drop i ss))) z ∙ beginnings-here ss i h e)

  pub seek_none : length ss ≤ i → (get_or (beginnings ss) p d ≡ d) × (ltb p (length (beginnings ss)) ≡ false)
  seek_none h = none_left d p (beginnings ss) (w ∙ ap (λ (qs : List Statement). drop left (beginnings qs)) (drop_of_length-le ss h) ∙ drop-nil {A = Statement} left)
