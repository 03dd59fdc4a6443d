-- The parts of a program: what holds of every statement of the list holds of those of its parts, and its procedures are those that
-- the list begins. What is said of `parts_from` is said by its six cases.
use mathlib.Core.Path.{◌≡◌, refl, sym, ◌∙◌, ap, subst}
use mathlib.Core.Bool.{Bool, true, false, cond, false≢true}
use mathlib.Core.List.{List, [], ◌∷◌, ◌++◌, map, append-nil}
use Prim.Native.Nat.{ℕ, zero, suc}
use Rattle.model.specs.Lists.{All, every}
use Rattle.model.specs.Refusals.{Out, ok, refused, check, wrong_procedures}
use Rattle.model.specs.Code.{plain, if, else, end, while}
use Rattle.model.specs.Kinds.{Kind, a_number, a_copy, an_operation, a_conversion, a_read, a_load, a_store, a_site, an_if, an_else, an_end, a_while, a_procedure, a_call, no_kind_lem, kind_of, begins}
use Rattle.model.specs.Procedures.{Item, own, procedure, call, Procedure, Parts, Stage, between, inside, longer, begins_none, main_from, parts_from}
use Rattle.model.specs.Program.{Statement, Tables, beginnings, stmt_of, arguments_of, listed_of, item_of, items_of}
use Rattle.model.proofs.Basics.Lists.{all_append}
use Rattle.model.proofs.Basics.Results.{Gives, gives_check, gives_ok}
use Rattle.model.proofs.Basics.Tests.{case}

-- ---- by cases

-- a procedure that the statement before the label l begins
abbrev pub new_procedure : (n x k l : ℕ) → Procedure
new_procedure n x k l = record { params = n; first = x; count = k; label = l; body = [] }

module _ (M : ℕ → List Procedure → Stage → List Item → Out Parts → Type 0) where
  -- the statements after the procedures; a procedure that begins; a statement of its body; its end; one that begins in another; one
  -- that does not end
  pub record PartsCases : Type 0 where
    pub after : (l : ℕ) (ps : List Procedure) (is : List Item) → M l ps between is (main_from l ps is)
    pub begun : (l : ℕ) (ps : List Procedure) (n x k : ℕ) (is : List Item) (o : Out Parts)
        → M (suc l) ps (inside (new_procedure n x k (suc l)) 0) is o → M l ps between (procedure n x k ∷ is) o
    pub more : (l : ℕ) (ps : List Procedure) (q : Procedure) (d e : ℕ) (i : Item) (is : List Item) (o : Out Parts) → begins_none i ≡ true
        → M (suc l) ps (inside (longer q i) e) is o → M l ps (inside q d) (i ∷ is) o
    pub ended : (l : ℕ) (ps : List Procedure) (q : Procedure) (is : List Item) (o : Out Parts)
        → M (suc l) (ps ++ (q ∷ [])) between is o → M l ps (inside q 0) (own end ∷ is) o
    pub within : (l : ℕ) (ps : List Procedure) (q : Procedure) (d n x k : ℕ) (is : List Item) → M l ps (inside q d) (procedure n x k ∷ is) (refused wrong_procedures)
    pub unended : (l : ℕ) (ps : List Procedure) (q : Procedure) (d : ℕ) → M l ps (inside q d) [] (refused wrong_procedures)

  pub parts_by : PartsCases → (l : ℕ) (ps : List Procedure) (r : Stage) (is : List Item) → M l ps r is (parts_from l ps r is)
  unfolding parts_from
  parts_by c l ps between [] = c.after l ps []
  parts_by c l ps (inside q d) [] = c.unended l ps q d
  parts_by c l ps between (own s ∷ is) = c.after l ps (own s ∷ is)
  parts_by c l ps between (call t p as' ∷ is) = c.after l ps (call t p as' ∷ is)
  parts_by c l ps between (procedure n x k ∷ is) = c.begun l ps n x k is _ (parts_by c (suc l) ps (inside (new_procedure n x k (suc l)) 0) is)
  parts_by c l ps (inside q d) (procedure n x k ∷ is) = c.within l ps q d n x k is
  parts_by c l ps (inside q d) (call t p as' ∷ is) = c.more l ps q d d (call t p as') is _ refl (parts_by c (suc l) ps (inside (longer q (call t p as')) d) is)
  parts_by c l ps (inside q d) (own (plain i) ∷ is) = c.more l ps q d d (own (plain i)) is _ refl (parts_by c (suc l) ps (inside (longer q (own (plain i))) d) is)
  parts_by c l ps (inside q d) (own (if v) ∷ is) = c.more l ps q d (suc d) (own (if v)) is _ refl (parts_by c (suc l) ps (inside (longer q (own (if v))) (suc d)) is)
  parts_by c l ps (inside q d) (own else ∷ is) = c.more l ps q d d (own else) is _ refl (parts_by c (suc l) ps (inside (longer q (own else)) d) is)
  parts_by c l ps (inside q zero) (own end ∷ is) = c.ended l ps q is _ (parts_by c (suc l) (ps ++ (q ∷ [])) between is)
  parts_by c l ps (inside q (suc d)) (own end ∷ is) = c.more l ps q (suc d) d (own end) is _ refl (parts_by c (suc l) ps (inside (longer q (own end)) d) is)
  parts_by c l ps (inside q d) (own (while v) ∷ is) = c.more l ps q d (suc d) (own (while v)) is _ refl (parts_by c (suc l) ps (inside (longer q (own (while v))) (suc d)) is)

-- ---- every statement

module _ (Q : Item → Type 0) where
  abbrev pub InBodies : List Procedure → Type 0
  InBodies ps = All (λ q. All Q q.body) ps

  abbrev pub InStage : Stage → Type 0
  InStage between = Unit {0}
  InStage (inside q d) = All Q q.body

  abbrev pub InParts : Parts → Type 0
  InParts P = InBodies P.procedures × All Q P.main

  -- what holds of the procedures so far and of the statements to come holds of the parts
  abbrev Keeps : ℕ → List Procedure → Stage → List Item → Out Parts → Type 0
  Keeps l ps r is o = InBodies ps → InStage r → All Q is → Gives InParts o

  pub parts_keep : (l : ℕ) (ps : List Procedure) (r : Stage) (is : List Item) → InBodies ps → InStage r → All Q is → Gives InParts (parts_from l ps r is)
  parts_keep = parts_by Keeps (record {
    after = λ l ps is h g k. gives_check InParts (every begins_none is) wrong_procedures (ok (record { procedures = ps; label = l; main = is })) (h, k);
    begun = λ l ps n x c is o f h g k. f h tt k.1;
    more = λ l ps q d e i is o n f h g k. f h (all_append Q q.body (i ∷ []) g (k.0, tt)) k.1;
    ended = λ l ps q is o f h g k. f (all_append (λ q. All Q q.body) ps (q ∷ []) h (g, tt)) tt k.1;
    within = λ l ps q d n x c is h g k. tt;
    unended = λ l ps q d h g k. tt;
  })

-- ---- the procedures

-- the statement that begins a procedure
abbrev pub head : Procedure → Item
head q = procedure q.params q.first q.count

-- those that begin one
abbrev heads : List Item → List Item
heads [] = []
heads (own s ∷ is) = heads is
heads (procedure n x k ∷ is) = procedure n x k ∷ heads is
heads (call t p as' ∷ is) = heads is

abbrev head_of : Stage → List Item
head_of between = []
head_of (inside q d) = head q ∷ []

head_none : (i : Item) (is : List Item) → begins_none i ≡ true → heads (i ∷ is) ≡ heads is
head_none (own s) is e = refl
head_none (procedure n x k) is e = absurd (false≢true e)
head_none (call t p as') is e = refl

heads_none : (is : List Item) → every begins_none is ≡ true → heads is ≡ []
unfolding every
heads_none [] e = refl
heads_none (own s ∷ is) e = heads_none is e
heads_none (procedure n x k ∷ is) e = absurd (false≢true e)
heads_none (call t p as' ∷ is) e = heads_none is e

map_snoc : (ps : List Procedure) (q : Procedure) (is : List Item) → map head (ps ++ (q ∷ [])) ++ is ≡ map head ps ++ (head q ∷ is)
map_snoc [] q is = refl
map_snoc (p ∷ ps) q is = ap (head p ∷◌) (map_snoc ps q is)

abbrev Heads : List Procedure → List Item → Parts → Type 0
Heads ps is P = map head P.procedures ≡ map head ps ++ is

main_heads : (l : ℕ) (ps : List Procedure) (is : List Item) → Gives (Heads ps (heads is)) (main_from l ps is)
main_heads l ps is =
    case (every begins_none is) (λ b. Gives (Heads ps (heads is)) (check b wrong_procedures (ok (record { procedures = ps; label = l; main = is }))))
    (λ e. sym (ap (map head ps ++◌) (heads_none is e) ∙ append-nil (map head ps))) (λ e. tt)

-- the procedures are those begun so far and those that the list begins
abbrev Begins : ℕ → List Procedure → Stage → List Item → Out Parts → Type 0
Begins l ps r is o = Gives (Heads ps (head_of r ++ heads is)) o

parts_heads : (l : ℕ) (ps : List Procedure) (r : Stage) (is : List Item) → Begins l ps r is (parts_from l ps r is)
parts_heads = parts_by Begins (record {
  after = main_heads;
  begun = λ l ps n x k is o h. h;
  more = λ l ps q d e i is o n h. subst (λ hs. Gives (Heads ps (head q ∷ hs)) o) (sym (head_none i is n)) h;
  ended = λ l ps q is o h. subst (λ hs. Gives (λ P. map head P.procedures ≡ hs) o) (map_snoc ps q (heads is)) h;
  within = λ l ps q d n x k is. tt;
  unended = λ l ps q d. tt;
})

-- a statement that begins a procedure, one that is a call, or any other
pub listed_cases : (T : Tables) (q : Statement) (M : Kind → Item → Bool → Type 0)
    → M a_procedure (procedure q.a q.b q.c) true → M a_call (call q.a q.b (arguments_of T q)) false
    → ((k : Kind) → M k (own (stmt_of T q)) false) → (k : Kind) → M k (listed_of k T q) (begins k)
listed_cases T q M p c o a_number = o a_number
listed_cases T q M p c o a_copy = o a_copy
listed_cases T q M p c o (an_operation x) = o (an_operation x)
listed_cases T q M p c o a_conversion = o a_conversion
listed_cases T q M p c o a_read = o a_read
listed_cases T q M p c o a_load = o a_load
listed_cases T q M p c o a_store = o a_store
listed_cases T q M p c o a_site = o a_site
listed_cases T q M p c o an_if = o an_if
listed_cases T q M p c o an_else = o an_else
listed_cases T q M p c o an_end = o an_end
listed_cases T q M p c o a_while = o a_while
listed_cases T q M p c o a_procedure = p
listed_cases T q M p c o a_call = c
listed_cases T q M p c o no_kind_lem = o no_kind_lem

-- a procedure's beginning
abbrev pub beginning : Statement → Item
beginning b = procedure b.a b.b b.c

heads_begun : (T : Tables) (qs : List Statement) → heads (map (item_of T) qs) ≡ map beginning (beginnings qs)
unfolding item_of
heads_begun T [] = refl
heads_begun T (q ∷ qs) =
    let same = heads_begun T qs in
    listed_cases T q (λ k i b. heads (i ∷ map (item_of T) qs) ≡ map beginning (cond b (q ∷ beginnings qs) (beginnings qs)))
    (ap (beginning q ∷◌) same) same (λ k. same) (kind_of q.kind)

-- the procedures of a program, by what begins them
pub parts-begun : (T : Tables) (P : Parts) → parts_from 0 [] between (items_of T) ≡ ok P → map head P.procedures ≡ map beginning (beginnings T.statements)
parts-begun T P e = gives_ok (Heads [] (heads (items_of T))) _ P e (parts_heads 0 [] between (items_of T)) ∙ heads_begun T T.statements
