-- The reading of the parts, label by label: from the beginning of a procedure through its statements to its end, and the statements
-- after the last one.
use mathlib.Core.Path.{◌≡◌, refl, sym, ap, ◌∙◌}
use mathlib.Core.Bool.{Bool, true, false, not, true≢false}
use mathlib.Core.List.{List, [], ◌∷◌, ◌++◌}
use Prim.Native.Nat.{ℕ, zero, suc, ◌+◌, ◌-◌, ◌≤◌, ◌<◌}
use native.Mathlib.Numerals.{add-one}
use native.Mathlib.Omega.{arith}
use borrow.Author.Tests.{leb-true, leb-false, eqb-true}
use lib.Dec.{leb}
use lib.ListN.{length, get_or, take, drop, length-drop, drop_of_length-le, get_or-eq_default}
use lib.Seq.{drop-cons, take-suc, get_or-drop}
use Rattle.model.specs.Refusals.{Out, refused, wrong_procedures}
use Rattle.model.specs.Code.{plain, if, else, end, while}
use Rattle.model.specs.Procedures.{Item, own, procedure, call, Procedure, Parts, between, inside, longer, begins_none, main_from, parts_from}
use Rattle.model.specs.Program.{Tables, items_of}
use Rattle.program.specs.Numbers.{procedure_kind}
use Rattle.program.specs.Parts.{item_at, depth_after_lem, procedure_between}
use Rattle.program.specs.Reading.{statement_of}
use Rattle.program.proofs.Items.{item_at_lem, item_procedure, begins_test}

-- ---- one statement of a procedure

pub depth_grows : (d : ℕ) (x : Item) → depth_after_lem d x ≤ d + 1
depth_grows d (own (plain i)) = omega arith
depth_grows d (own (if v)) = omega arith
depth_grows d (own else) = omega arith
depth_grows d (own end) = omega arith
depth_grows d (own (while v)) = omega arith
depth_grows d (procedure n x k) = omega arith
depth_grows d (call t p as') = omega arith

module _ (l : ℕ) (ps : List Procedure) (q : Procedure) (is : List Item) where
  -- where the reading goes on, by the depth behind a statement
  abbrev goes_on_lem : Item → ℕ → Out Parts
  goes_on_lem x zero = parts_from (suc l) (ps ++ (q ∷ [])) between is
  goes_on_lem x (suc d) = parts_from (suc l) ps (inside (longer q x) d) is

  goes_deeper : (d : ℕ) (x : Item) → parts_from (suc l) ps (inside (longer q x) (suc d)) is ≡ goes_on_lem x (suc d + 1)
  goes_deeper d x = rw (add-one (suc d))

  goes_out : (d : ℕ) (x : Item) → goes_on_lem x d ≡ goes_on_lem x (suc d - 1)
  goes_out d x = let e : suc d - 1 ≡ d = omega arith in rw e

  inside-goes : (d : ℕ) (x : Item) → begins_none x ≡ true → parts_from l ps (inside q d) (x ∷ is) ≡ goes_on_lem x (depth_after_lem (suc d) x)
  unfolding parts_from
  inside-goes d (own (plain i)) h = refl
  inside-goes d (own (if v)) h = goes_deeper d (own (if v))
  inside-goes d (own else) h = refl
  inside-goes zero (own end) h = goes_out zero (own end)
  inside-goes (suc d) (own end) h = goes_out (suc d) (own end)
  inside-goes d (own (while v)) h = goes_deeper d (own (while v))
  inside-goes d (procedure n x k) h = absurd (true≢false (sym h))
  inside-goes d (call t p as') h = refl

-- ---- a procedure that begins at b

module _ (T : Tables) (b : ℕ) where
  abbrev is : List Item
  is = items_of T

  abbrev start : List Procedure → Out Parts
  start ps = parts_from b ps between (drop b is)

  abbrev at : ℕ → ℕ → List Procedure → Out Parts
  at i d ps = parts_from i ps (inside (procedure_between T b i) d) (drop i is)

  pub procedure-begins : (statement_of T b).kind ≡ procedure_kind → b < length is → (ps : List Procedure) → start ps ≡ at (b + 1) 0 ps
  unfolding parts_from
  procedure-begins e h ps =
      let none : b + 1 - (b + 1) ≡ 0 = omega arith in
      rw (drop-cons is b (own end) h, item_at_lem T b, item_procedure T (statement_of T b) e, none, add-one b)

  module _ (i : ℕ) (later : b < i) (h : i < length is) where
    longer-between : longer (procedure_between T b i) (item_at T i) ≡ procedure_between T b (i + 1)
    longer-between =
        let rest = drop (b + 1) is in
        let j = i - (b + 1) in
        let place : b + 1 + j ≡ i = omega arith in
        let more : i + 1 - (b + 1) ≡ suc j = omega arith in
        let few : j < length rest = rw (length-drop (b + 1) is) (omega arith) in
        let item : get_or rest j (own end) ≡ item_at T i = rw place at (get_or-drop (b + 1) is j (own end)) in
        let bodies : take j rest ++ (item_at T i ∷ []) ≡ take (i + 1 - (b + 1)) rest = rw (more, ← item) (sym (take-suc rest j (own end) few)) in
        ap (λ (xs : List Item). record { params = (statement_of T b).a; first = (statement_of T b).b; count = (statement_of T b).c; label = b + 1; body = xs }) bodies

    module _ (d : ℕ) (some : 1 ≤ d) (w : (ps : List Procedure) → start ps ≡ at i (d - 1) ps) where
      pub procedure-inside : (statement_of T i).kind ≡ procedure_kind → (ps : List Procedure) → start ps ≡ refused wrong_procedures
      unfolding parts_from
      procedure-inside e ps = w ps ∙ rw (drop-cons is i (own end) h, item_at_lem T i, item_procedure T (statement_of T i) e)

      goes : begins_none (item_at T i) ≡ true → (ps : List Procedure)
          → start ps ≡ goes_on_lem i ps (procedure_between T b i) (drop (suc i) is) (item_at T i) (depth_after_lem d (item_at T i))
      goes plainly ps =
          let s : suc (d - 1) ≡ d = omega arith in
          let on = inside-goes i ps (procedure_between T b i) (drop (suc i) is) (d - 1) (item_at T i) plainly in
          w ps ∙ rw (drop-cons is i (own end) h) (rw s at on)

      pub procedure-closed : begins_none (item_at T i) ≡ true → depth_after_lem d (item_at T i) ≡ 0
          → (ps : List Procedure) → start ps ≡ parts_from (i + 1) (ps ++ (procedure_between T b i ∷ [])) between (drop (i + 1) is)
      procedure-closed plainly e ps =
          goes plainly ps ∙ rw (add-one i) (ap (goes_on_lem i ps (procedure_between T b i) (drop (suc i) is) (item_at T i)) e)

      pub procedure-goes : begins_none (item_at T i) ≡ true → 1 ≤ depth_after_lem d (item_at T i)
          → (ps : List Procedure) → start ps ≡ at (i + 1) (depth_after_lem d (item_at T i) - 1) ps
      procedure-goes plainly k ps =
          let r = depth_after_lem d (item_at T i) in
          let e : r ≡ suc (r - 1) = omega arith in
          goes plainly ps
          ∙ ap (goes_on_lem i ps (procedure_between T b i) (drop (suc i) is) (item_at T i)) e
          ∙ ap (λ (q : Procedure). parts_from (suc i) ps (inside q (r - 1)) (drop (suc i) is)) longer-between
          ∙ rw (add-one i)

  -- past the last statement it is still open
  pub procedure_unclosed : (i d : ℕ) → ((ps : List Procedure) → start ps ≡ at i d ps) → length is ≤ i
      → (ps : List Procedure) → start ps ≡ refused wrong_procedures
  unfolding parts_from
  procedure_unclosed i d w h ps = w ps ∙ rw (drop_of_length-le is h)

-- ---- the statements after the procedures

module _ (T : Tables) (l : ℕ) (ps : List Procedure) where
  pub main-begins : begins_none (item_at T l) ≡ true → parts_from l ps between (drop l (items_of T)) ≡ main_from l ps (drop l (items_of T))
  unfolding parts_from
  main-begins e = go (leb (length (items_of T)) l) refl
    where
      first : (x : Item) (xs : List Item) → begins_none x ≡ true → parts_from l ps between (x ∷ xs) ≡ main_from l ps (x ∷ xs)
      first (own s) xs z = refl
      first (procedure n y k) xs z = absurd (true≢false (sym z))
      first (call t p as') xs z = refl

      go : (b : Bool) → leb (length (items_of T)) l ≡ b → parts_from l ps between (drop l (items_of T)) ≡ main_from l ps (drop l (items_of T))
      go true z = rw (drop_of_length-le (items_of T) (leb-true (length (items_of T)) l z))
      go false z = rw (drop-cons (items_of T) l (own end) (leb-false (length (items_of T)) l z)) (first (item_at T l) (drop (suc l) (items_of T)) e)

-- a statement that begins a procedure is one of the list, and of that kind
module _ (T : Tables) (i : ℕ) (e : begins_none (item_at T i) ≡ false) where
  pub begun-inside : i < length (items_of T)
  begun-inside = go (leb (length (items_of T)) i) refl
    where
      go : (b : Bool) → leb (length (items_of T)) i ≡ b → i < length (items_of T)
      go true z =
          let past = get_or-eq_default (items_of T) (own end) (leb-true (length (items_of T)) i z) in
          absurd (true≢false (ap begins_none (sym past) ∙ e))
      go false z = leb-false (length (items_of T)) i z

  pub begun-kind : (statement_of T i).kind ≡ procedure_kind
  begun-kind =
      eqb-true (statement_of T i).kind procedure_kind
      (begins_test T (statement_of T i) ∙ ap (λ (x : Item). not (begins_none x)) (sym (item_at_lem T i)) ∙ ap not e)
