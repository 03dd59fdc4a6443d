-- A program that is read: its inlined form is typed, with a variable for each place, and names only the program's variables and those.
-- The idea: checks 5 to 7 make each statement of the list fine, so each statement of the parts is; check 16 makes the procedures fit.
use mathlib.Core.Path.{◌≡◌, refl, ◌∙◌, ap, subst}
use mathlib.Core.Bool.{true, ◌&&◌, cond}
use mathlib.Core.List.{List, [], ◌∷◌, map}
use Prim.Native.Nat.{ℕ, suc, ◌+◌, ◌-◌, ◌≤◌, ◌<◌}
use native.Mathlib.Omega.{arith}
use lib.Dec.{leb, ltb}
use lib.ListN.{length, get_or, drop, get_or-append}
use borrow.Author.Tests.{leb-true, ltb-true, lt-ltb, le-ltb, eqb-true, ne_eqb}
use Rattle.model.specs.Lists.{All, every}
use Rattle.model.specs.Bytes.{bytes4}
use Rattle.model.specs.Sizes.{most_parameters}
use Rattle.model.specs.Kinds.{kind_of}
use Rattle.model.specs.Procedures.{Item, own, call, Procedure, Parts, between, parts_from, named, owns, calls_before_lem, procedure_right_lem, procedures_right_lem}
use Rattle.model.specs.Procedures.{all_apart_lem, spares, parts_right_lem}
use Rattle.model.specs.Inlined.{Row, stmts_in, expansions, rows_of}
use Rattle.model.specs.Program.{Statement, Tables, types_right_lem, beginnings, beginning_of, arguments_of, is_variable_lem, unused, procedure_form_lem, call_form_lem, form_of, form_right_lem}
use Rattle.model.specs.Program.{variable_type_lem, alike, all_alike, call_alike, agree_of, types_agree_lem, immediate_right_lem, item_of, items_of, inlined_rows, Outline, Program}
use Rattle.model.specs.Typing.{AtPlain, TypedVar, TypedInstr, Typed, place_types, widened}
use Rattle.model.proofs.Basics.Every.{every-all}
use Rattle.model.proofs.Basics.Lists.{all_imp, all_imp₃, all_map, all_get_d}
use Rattle.model.proofs.Basics.Results.{gives_ok}
use Rattle.model.proofs.Basics.Tests.{and_left, and_right}
use Rattle.model.proofs.Files.Checked.{Outlined, Checked, variable-type, statement-typed, statement-named}
use Rattle.model.proofs.Procedures.InlinedTypes.{placed-all, Agree, TypedItem, inlined-typed, FitFrom, expansions-typed}
use Rattle.model.proofs.Procedures.Naming.{Sized, inlined_under, expansions_under}
use Rattle.model.proofs.Procedures.Parted.{InBodies, InParts, parts_keep, head, beginning, listed_cases, parts-begun}
use Rattle.model.proofs.Walks.Trees.{tree-each}

-- ---- what is asked of procedures

-- it has an own variable, and as many as its parameters
pub record Enough (params count : ℕ) : Type 0 where
  pub some : 1 ≤ count
  pub all : params ≤ count

-- check 16 of one procedure
pub record RightProcedure (q : Procedure) : Type 0 where
  pub enough : Enough q.params q.count
  pub uses : All (λ i. All (λ x. owns q x ≡ true) (named i)) q.body

pub right-procedure : (n : ℕ) (q : Procedure) → procedure_right_lem n q ≡ true → RightProcedure q
unfolding procedure_right_lem
right-procedure n q e =
    let some = leb 1 q.count in
    let all = leb q.params q.count in
    let uses = every (λ i. every (owns q) (named i)) q.body in
    let three = and_left (some && all && uses) (every (calls_before_lem n) q.body) e in
    let two = and_left (some && all) uses three in
    record {
      enough = record { some = leb-true 1 q.count (and_left some all two); all = leb-true q.params q.count (and_right some all two) };
      uses = all_imp (λ i. every-all (owns q) (named i)) q.body (every-all (λ i. every (owns q) (named i)) q.body (and_right (some && all) uses three));
    }

pub right-procedures : (n : ℕ) (qs : List Procedure) → procedures_right_lem n qs ≡ true → All RightProcedure qs
unfolding procedures_right_lem
right-procedures n [] e = tt
right-procedures n (q ∷ qs) e =
    let more = procedures_right_lem (suc n) qs in
    (right-procedure n q (and_left (procedure_right_lem n q) more e), right-procedures (suc n) qs (and_right (procedure_right_lem n q) more e))

-- of the parts of a program
pub parts-right : (Q : Parts) → parts_right_lem Q ≡ true → procedures_right_lem 0 Q.procedures ≡ true
unfolding parts_right_lem
parts-right Q e =
    let right = procedures_right_lem 0 Q.procedures in
    let apart' = all_apart_lem Q.procedures in
    and_left right apart' (and_left (right && apart') (every (spares Q.procedures) Q.main) e)

-- what holds of procedures holds of the statements that begin them
begun-alike : (H : Procedure → Type 0) (K : Statement → Type 0) → ((q : Procedure) (b : Statement) → head q ≡ beginning b → H q → K b)
    → (qs : List Procedure) (bs : List Statement) → map head qs ≡ map beginning bs → All H qs → All K bs
begun-alike H K f [] [] e h = tt
begun-alike H K f [] (b ∷ bs) e h = let z : ◌≡◌ {A = ℕ} 0 1 = cc in absurd (omega arith)
begun-alike H K f (q ∷ qs) [] e h = let z : ◌≡◌ {A = ℕ} 0 1 = cc in absurd (omega arith)
begun-alike H K f (q ∷ qs) (b ∷ bs) e h =
    let one : head q ≡ beginning b = cc in
    let more : map head qs ≡ map beginning bs = cc in
    (f q b one h.0, begun-alike H K f qs bs more h.1)

-- ---- one statement

module _ (T : Tables) (known : types_right_lem T ≡ true) where
  abbrev Below : ℕ → Type 0
  Below x = x < length T.variables

  -- the own variables of a procedure are there
  abbrev Inside : Statement → Type 0
  Inside b = b.b + b.c ≤ length T.variables

  begin-inside : (q : Statement) → procedure_form_lem T q ≡ true → Inside q
  unfolding procedure_form_lem
  begin-inside q f =
      let few = leb q.a most_parameters in
      let own' = leb (q.b + q.c) (length T.variables) in
      leb-true (q.b + q.c) (length T.variables) (and_right few own' (and_left (few && own') (unused q.imm) f))

  begun-inside : (qs : List Statement) → All (λ q. form_right_lem T q ≡ true) qs → All Inside (beginnings qs)
  unfolding form_right_lem
  begun-inside [] h = tt
  begun-inside (q ∷ qs) h =
      let more = begun-inside qs h.1 in
      listed_cases T q (λ k i b. form_of k T q ≡ true → All Inside (cond b (q ∷ beginnings qs) (beginnings qs)))
      (λ f. (begin-inside q f, more)) (λ f. more) (λ k f. more) (kind_of q.kind) h.0

  -- ---- a call

  -- a target, a procedure and arguments that are there
  record NamesCall (q : Statement) : Type 0 where
    target : Below q.a
    procedure-known : q.b < length (beginnings T.statements)
    arguments : All Below (arguments_of T q)

  call-names : (q : Statement) → call_form_lem T q ≡ true → NamesCall q
  unfolding call_form_lem
  call-names q f =
      let is_v = is_variable_lem T in
      let target = is_v q.a in
      let there = ltb q.b (length (beginnings T.statements)) in
      let args = every is_v (arguments_of T q) in
      let zeros = every unused (drop (beginning_of T q.b).a (bytes4 q.imm)) in
      let four = and_left (target && there && unused q.c && args) zeros f in
      let two = and_left (target && there) (unused q.c) (and_left (target && there && unused q.c) args four) in
      record {
        target = ltb-true q.a (length T.variables) (and_left target there two);
        procedure-known = ltb-true q.b (length (beginnings T.statements)) (and_right target there two);
        arguments = all_imp (λ x. ltb-true x (length T.variables)) (arguments_of T q)
            (every-all is_v (arguments_of T q) (and_right (target && there && unused q.c) args four));
      }

  -- two variables of one type
  alike_typed : (x y : ℕ) → Below x → alike T x y ≡ true → TypedVar T x (variable_type_lem T y)
  alike_typed x y h e =
      let same = eqb-true (variable_type_lem T x) (variable_type_lem T y) e in
      (same, subst (λ t. t < 8) same (variable-type T known x (lt-ltb x (length T.variables) h)))

  all-alike-typed : (as' : List ℕ) (x : ℕ) → All Below as' → all_alike T as' x ≡ true → Agree T [] (TypedVar T) as' x
  unfolding all_alike
  all-alike-typed [] x h e = tt
  all-alike-typed (y ∷ as') x h e =
      let more = all_alike T as' (suc x) in
      (alike_typed y x h.0 (and_left (alike T y x) more e), all-alike-typed as' (suc x) h.1 (and_right (alike T y x) more e))

  call-typed : (q : Statement) → NamesCall q → Enough (beginning_of T q.b).a (beginning_of T q.b).c → call_alike T q ≡ true
      → TypedItem T [] (call q.a q.b (arguments_of T q))
  unfolding call_alike
  call-typed q n enough e =
      let p = beginning_of T q.b in
      let none = ne_eqb p.c 0 (λ z. omega (arith, enough.some)) in
      let few = le-ltb p.c p.a enough.all in
      let args = all_alike T (arguments_of T q) p.b in
      let result = alike T q.a (p.b + p.c - 1) in
      let both : (args && result) ≡ true = rw (none, few) at e in
      (alike_typed q.a (p.b + p.c - 1) n.target (and_right args result both), all-alike-typed (arguments_of T q) p.b n.arguments (and_left args result both))

-- ---- the inlined program of an outline

module _ (s : List ℕ) (O : Outline) (k : Outlined s O) where
  abbrev T : Tables
  T = O.tables

  abbrev Q : Parts
  Q = O.parts

  abbrev rows : List Row
  rows = inlined_rows T Q

  abbrev W : Tables
  W = widened T rows

  right-parts : All RightProcedure Q.procedures
  right-parts = right-procedures 0 Q.procedures (parts-right Q k.right)

  same-begun : map head Q.procedures ≡ map beginning (beginnings T.statements)
  same-begun = parts-begun T Q k.parted

  -- what begins a procedure has enough own variables
  begun_enough : All (λ b. Enough b.a b.c) (beginnings T.statements)
  begun_enough =
      begun-alike RightProcedure (λ b. Enough b.a b.c)
      (λ q b e h. let c : q.count ≡ b.c = cc in let a : q.params ≡ b.a = cc in subst (λ n. Enough n b.c) a (subst (Enough q.params) c h.enough))
      Q.procedures (beginnings T.statements) same-begun right-parts

  -- ---- the statements

  -- types agree, and its variables are there
  abbrev pub Fine : Item → Type 0
  Fine i = TypedItem T rows i × All (λ x. x < length T.variables) (named i)

  fine-call : (q : Statement) → call_form_lem T q ≡ true → call_alike T q ≡ true → Fine (call q.a q.b (arguments_of T q))
  fine-call q f g =
      let n = call-names T k.types q f in
      let default : Statement = record { kind = 0; a = 0; b = 0; c = 0; imm = 0 } in
      let enough = all_get_d (λ b. Enough b.a b.c) (beginnings T.statements) q.b default begun_enough n.procedure-known in
      (call-typed T k.types q n enough g, (n.target, n.arguments))

  fine_item : (q : Statement) → form_right_lem T q ≡ true → types_agree_lem T q ≡ true → immediate_right_lem T q ≡ true → Fine (item_of T q)
  unfolding item_of form_right_lem types_agree_lem
  fine_item q f g h =
      let types = k.types in
      listed_cases T q (λ j i b. kind_of q.kind ≡ j → Fine i) (λ e. (tt, tt))
      (λ e. fine-call q (subst (λ j. form_of j T q ≡ true) e f) (subst (λ j. agree_of j T q ≡ true) e g))
      (λ j e. (statement-typed T types q f g h, statement-named T types q f)) (kind_of q.kind) refl

  forms : All (λ q. form_right_lem T q ≡ true) T.statements
  forms = every-all (form_right_lem T) T.statements k.forms

  pub fine_items : All Fine (items_of T)
  fine_items =
      all_map Fine (item_of T) T.statements
      (all_imp₃ fine_item T.statements forms
      (every-all (types_agree_lem T) T.statements k.agree) (every-all (immediate_right_lem T) T.statements k.immediates))

  pub fine-parts : InParts Fine Q
  fine-parts = gives_ok (InParts Fine) (parts_from 0 [] between (items_of T)) Q k.parted (parts_keep Fine 0 [] between (items_of T) tt tt fine_items)

  -- ---- the procedures

  fit-from : (n : ℕ) (qs : List Procedure) (bs : List Statement) → map head qs ≡ map beginning bs
      → ((j : ℕ) → get_or bs j (record { kind = 0; a = 0; b = 0; c = 0; imm = 0 }) ≡ beginning_of T (n + j))
      → All (λ b. b.b + b.c ≤ length T.variables) bs → All RightProcedure qs → InBodies Fine qs → FitFrom T rows n qs
  fit-from n [] bs e g i r f = tt
  fit-from n (q ∷ qs) [] e g i r f = let z : ◌≡◌ {A = ℕ} 0 1 = cc in absurd (omega arith)
  fit-from n (q ∷ qs) (b ∷ bs) e g i r f =
      let one : head q ≡ beginning b = cc in
      let more : map head qs ≡ map beginning bs = cc in
      let none : n + 0 ≡ n = omega arith in
      let here : b ≡ beginning_of T n = g 0 ∙ ap (beginning_of T) none in
      let first' : q.first ≡ b.b = cc in
      let count' : q.count ≡ b.c = cc in (
        record {
          same_first = first' ∙ ap (λ z. z.b) here;
          same_count = count' ∙ ap (λ z. z.c) here;
          some = r.0.enough.some;
          inside = omega (arith, i.0);
          known = λ x h. variable-type T k.types x (lt-ltb x (length T.variables) h);
          typed = all_imp (λ i h. h.0) q.body f.0;
          uses = r.0.uses;
        },
        fit-from (suc n) qs bs more (λ j. g (suc j) ∙ ap (beginning_of T) (one_further n j)) i.1 r.1 f.1,
      )
    where
      one_further : (n j : ℕ) → n + suc j ≡ suc n + j
      one_further n j = omega arith

  fit_all : FitFrom T rows 0 Q.procedures
  fit_all =
      fit-from 0 Q.procedures (beginnings T.statements) same-begun (λ j. ap (beginning_of T) (zero_plus j))
      (begun-inside T k.types T.statements forms) right-parts fine-parts.0
    where
      zero_plus : (j : ℕ) → j ≡ 0 + j
      zero_plus j = omega arith

  main-same : (x : ℕ) → x < length T.variables → variable_type_lem W (x + 0) ≡ variable_type_lem T x
  main-same x h =
      let none : x + 0 ≡ x = omega arith in
      ap (variable_type_lem W) none ∙ get_or-append T.variables (place_types rows) 0 x h

  pub rows-typed : All (λ r. AtPlain (TypedInstr W) r.stmt) rows
  unfolding rows_of
  rows-typed =
      let es = expansions (variable_type_lem T) (length T.variables) [] Q.procedures in
      let typed = expansions-typed T rows [] (λ p l at t as' h a b. tt) Q.procedures fit_all in
      inlined-typed T rows es typed 0 Q.main (all_imp (λ i h. h.0) Q.main fine-parts.1)
      (all_imp (λ i h. all_imp main-same (named i) h.1) Q.main fine-parts.1) Q.label 0 (placed-all T rows)

  -- ---- the numbers of its variables

  abbrev most : ℕ
  most = length T.variables + length rows

  sized_from : (n : ℕ) (qs : List Procedure) → FitFrom T rows n qs → All (Sized (variable_type_lem T) (length T.variables) most) qs
  sized_from n [] f = tt
  sized_from n (q ∷ qs) f = (record { some = f.0.some; inside = f.0.inside; uses = f.0.uses }, sized_from (suc n) qs f.1)

  pub procedures_sized : All (Sized (variable_type_lem T) (length T.variables) most) Q.procedures
  procedures_sized = sized_from 0 Q.procedures fit_all

  -- every variable that the inlined program names is the program's or that of a place
  pub rows_named : All (λ r. All (λ x. x < length T.variables + length rows) (named (own r.stmt))) rows
  unfolding rows_of
  rows_named =
      let types = variable_type_lem T in
      let v = length T.variables in
      let es = expansions types v [] Q.procedures in
      let below = expansions_under types v most [] (λ p l at t as' a b c. tt) Q.procedures procedures_sized in
      inlined_under types v most es below 0 Q.main
      (all_imp (λ i h. all_imp (λ x b. omega arith) (named i) h.1) Q.main fine-parts.1) Q.label 0 (omega arith)

-- ---- a program that is read

module _ (s : List ℕ) (P : Program) (k : Checked s P) where
  -- the statements of its inlined form
  abbrev pub rows_read : List Row
  rows_read = inlined_rows P.tables k.parts

  -- the tables with the variables of the inlined program
  abbrev pub wide : Tables
  wide = widened P.tables rows_read

  abbrev outline : Outline
  outline = record { tables = P.tables; parts = k.parts }

  pub program-typed : Typed wide P.code
  program-typed =
      tree-each (TypedInstr wide) (stmts_in rows_read) P.code
      (all_map (AtPlain (TypedInstr wide)) (λ r. r.stmt) rows_read (rows-typed s outline k.outlined)) k.tree

  pub program-names : All (λ r. All (λ x. x < length P.tables.variables + length rows_read) (named (own r.stmt))) rows_read
  program-names = rows_named s outline k.outlined
