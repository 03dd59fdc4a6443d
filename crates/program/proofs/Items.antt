-- Which statement of the model an entry is, and which of the program's list, by its kind.
use mathlib.Core.Path.{◌≡◌, refl, sym, ◌∙◌}
use mathlib.Core.Bool.{Bool, true, false, not}
use Prim.Native.Nat.{ℕ, zero, suc, ◌≤◌, ◌<◌}
use Rattle.model.specs.Values.{Operation, add, sub, mul, div}
use native.Mathlib.Omega.{arith}
use borrow.Author.Tests.{eqb-true, eqb-false}
use lib.Dec.{eqb}
use lib.ListN.{length, get_or, length-map, get_or-map}
use Rattle.model.specs.Code.{Instr, plain, if, else, end, while}
use Rattle.model.specs.Kinds.{Kind, a_number, a_copy, an_operation, a_conversion, a_read, a_load, a_store, a_site, an_if, an_else, an_end, a_while, a_procedure, a_call, no_kind_lem, kind_of}
use Rattle.model.specs.Procedures.{own, procedure, call, begins_none, calls_before_lem}
use Rattle.model.specs.Program.{Statement, Tables, stmt_of, arguments_of, listed_of, item_of, items_of, meaning_of}
use Rattle.model.proofs.Files.KindNumbers.{IsNumber, kind-number, operation-most}
use Rattle.program.specs.Numbers.{if_kind, else_kind, while_kind, procedure_kind, call_kind}
use Rattle.program.specs.Reading.{statement_of, no_statement}

-- ---- those of kinds 0 to 14

module _ (T : Tables) (q : Statement) where
  pub stmt-plain : q.kind < if_kind → (x : Instr) × (stmt_of T q ≡ plain x)
  unfolding stmt_of
  stmt-plain h = go (kind_of q.kind) (kind-number q.kind)
    where
      go : (k : Kind) → IsNumber k q.kind → (x : Instr) × (meaning_of k T q ≡ plain x)
      go a_number n = (_, refl)
      go a_copy n = (_, refl)
      go (an_operation o) n = (_, refl)
      go a_conversion n = (_, refl)
      go a_read n = (_, refl)
      go a_load n = (_, refl)
      go a_store n = (_, refl)
      go a_site n = (_, refl)
      go an_if n = absurd (omega arith)
      go an_else n = absurd (omega arith)
      go an_end n = absurd (omega arith)
      go a_while n = absurd (omega arith)
      go a_procedure n = absurd (omega arith)
      go a_call n = absurd (omega arith)
      go no_kind_lem n = absurd (omega arith)

  pub stmt-if : q.kind ≡ if_kind → stmt_of T q ≡ if q.a
  unfolding stmt_of kind_of
  stmt-if e = rw e

  pub stmt-else : q.kind ≡ else_kind → stmt_of T q ≡ else
  unfolding stmt_of kind_of
  stmt-else e = rw e

  pub stmt-while : q.kind ≡ while_kind → stmt_of T q ≡ while q.a
  unfolding stmt_of kind_of
  stmt-while e = rw e

  -- an end, and what is no kind
  pub stmt-end : if_kind ≤ q.kind → (q.kind ≡ if_kind → ⊥) → (q.kind ≡ else_kind → ⊥) → (q.kind ≡ while_kind → ⊥) → stmt_of T q ≡ end
  unfolding stmt_of
  stmt-end h no-if no_else no_while = go (kind_of q.kind) (kind-number q.kind)
    where
      go : (k : Kind) → IsNumber k q.kind → meaning_of k T q ≡ end
      go a_number n = absurd (omega arith)
      go a_copy n = absurd (omega arith)
      go (an_operation o) n = absurd (omega (arith, operation-most o))
      go a_conversion n = absurd (omega arith)
      go a_read n = absurd (omega arith)
      go a_load n = absurd (omega arith)
      go a_store n = absurd (omega arith)
      go a_site n = absurd (omega arith)
      go an_if n = absurd (no-if n)
      go an_else n = absurd (no_else n)
      go an_end n = refl
      go a_while n = absurd (no_while n)
      go a_procedure n = refl
      go a_call n = refl
      go no_kind_lem n = refl

-- ---- all of them

module _ (T : Tables) (q : Statement) where
  -- all but procedures and calls
  item_own : (q.kind ≡ procedure_kind → ⊥) → (q.kind ≡ call_kind → ⊥) → item_of T q ≡ own (stmt_of T q)
  unfolding item_of
  item_own no_procedure no_call = go (kind_of q.kind) (kind-number q.kind)
    where
      go : (k : Kind) → IsNumber k q.kind → listed_of k T q ≡ own (stmt_of T q)
      go a_number n = refl
      go a_copy n = refl
      go (an_operation o) n = refl
      go a_conversion n = refl
      go a_read n = refl
      go a_load n = refl
      go a_store n = refl
      go a_site n = refl
      go an_if n = refl
      go an_else n = refl
      go an_end n = refl
      go a_while n = refl
      go a_procedure n = absurd (no_procedure n)
      go a_call n = absurd (no_call n)
      go no_kind_lem n = refl

  pub item_plain : q.kind < if_kind → (x : Instr) × (item_of T q ≡ own (plain x))
  item_plain h =
      let p = stmt-plain T q h in
      (p.0, item_own (λ e. absurd (omega (arith, e))) (λ e. absurd (omega (arith, e))) ∙ rw p.1)

  pub item_if : q.kind ≡ if_kind → item_of T q ≡ own (if q.a)
  item_if k = item_own (λ e. absurd (omega (arith, e))) (λ e. absurd (omega (arith, e))) ∙ rw (stmt-if T q k)

  pub item_else : q.kind ≡ else_kind → item_of T q ≡ own else
  item_else k = item_own (λ e. absurd (omega (arith, e))) (λ e. absurd (omega (arith, e))) ∙ rw (stmt-else T q k)

  pub item_while : q.kind ≡ while_kind → item_of T q ≡ own (while q.a)
  item_while k = item_own (λ e. absurd (omega (arith, e))) (λ e. absurd (omega (arith, e))) ∙ rw (stmt-while T q k)

  pub item_procedure : q.kind ≡ procedure_kind → item_of T q ≡ procedure q.a q.b q.c
  unfolding item_of kind_of
  item_procedure k = rw k

  pub item_call : q.kind ≡ call_kind → item_of T q ≡ call q.a q.b (arguments_of T q)
  unfolding item_of kind_of
  item_call k = rw k

  -- an end, and what is no kind
  pub item_end : if_kind ≤ q.kind → (q.kind ≡ if_kind → ⊥) → (q.kind ≡ else_kind → ⊥) → (q.kind ≡ while_kind → ⊥)
      → (q.kind ≡ procedure_kind → ⊥) → (q.kind ≡ call_kind → ⊥) → item_of T q ≡ own end
  item_end h no-if no_else no_while no_procedure no_call =
      item_own no_procedure no_call ∙ rw (stmt-end T q h no-if no_else no_while)

-- none of the kinds that a match on the blocks, procedures and calls has arms for
abbrev pub OtherKind : ℕ → Type 0
OtherKind k = (k ≡ if_kind → ⊥) × (k ≡ else_kind → ⊥) × (k ≡ while_kind → ⊥) × (k ≡ procedure_kind → ⊥) × (k ≡ call_kind → ⊥)

pub item_otherwise : (T : Tables) (q : Statement) {k : ℕ} → q.kind ≡ k → if_kind ≤ k → OtherKind k → item_of T q ≡ own end
item_otherwise T q {k} e h r =
    item_end T q (omega arith) (λ z. r.0 (sym e ∙ z)) (λ z. r.1 (sym e ∙ z)) (λ z. r.2 (sym e ∙ z)) (λ z. r.3 (sym e ∙ z))
    (λ z. r.4 (sym e ∙ z))

-- the statement of the list with a label
pub item_at_lem : (T : Tables) (i : ℕ) → get_or (items_of T) i (own end) ≡ item_of T (statement_of T i)
unfolding item_of stmt_of kind_of
item_at_lem T i = get_or-map (item_of T) T.statements i no_statement

pub items_length : (T : Tables) → length (items_of T) ≡ length T.statements
items_length T = length-map T.statements (item_of T)

-- ---- whether it begins a procedure

module _ (T : Tables) (q : Statement) where
  pub item_begins-none : (q.kind ≡ procedure_kind → ⊥) → begins_none (item_of T q) ≡ true
  unfolding item_of
  item_begins-none other = go (kind_of q.kind) (kind-number q.kind)
    where
      go : (k : Kind) → IsNumber k q.kind → begins_none (listed_of k T q) ≡ true
      go a_number n = refl
      go a_copy n = refl
      go (an_operation o) n = refl
      go a_conversion n = refl
      go a_read n = refl
      go a_load n = refl
      go a_store n = refl
      go a_site n = refl
      go an_if n = refl
      go an_else n = refl
      go an_end n = refl
      go a_while n = refl
      go a_procedure n = absurd (other n)
      go a_call n = refl
      go no_kind_lem n = refl

  pub item_begins-one : q.kind ≡ procedure_kind → begins_none (item_of T q) ≡ false
  item_begins-one e = rw (item_procedure T q e)

  -- as the code tests it
  pub begins_test : eqb q.kind procedure_kind ≡ not (begins_none (item_of T q))
  begins_test = go (eqb q.kind procedure_kind) refl
    where
      go : (b : Bool) → eqb q.kind procedure_kind ≡ b → b ≡ not (begins_none (item_of T q))
      go true e = rw (item_begins-one (eqb-true q.kind procedure_kind e))
      go false e = rw (item_begins-none (eqb-false q.kind procedure_kind e))

-- ---- whether it calls a procedure

module _ (T : Tables) (q : Statement) where
  pub calls-none : (n : ℕ) → (q.kind ≡ call_kind → ⊥) → calls_before_lem n (item_of T q) ≡ true
  unfolding item_of
  calls-none m other = go (kind_of q.kind) (kind-number q.kind)
    where
      go : (k : Kind) → IsNumber k q.kind → calls_before_lem m (listed_of k T q) ≡ true
      go a_number n = refl
      go a_copy n = refl
      go (an_operation o) n = refl
      go a_conversion n = refl
      go a_read n = refl
      go a_load n = refl
      go a_store n = refl
      go a_site n = refl
      go an_if n = refl
      go an_else n = refl
      go an_end n = refl
      go a_while n = refl
      go a_procedure n = refl
      go a_call n = absurd (other n)
      go no_kind_lem n = refl

-- the numbers of the four operations
pub is_operation : (k : ℕ) → 2 ≤ k → k ≤ 5 → (o : Operation) × (kind_of k ≡ an_operation o)
unfolding kind_of
is_operation zero h l = absurd (omega arith)
is_operation (suc zero) h l = absurd (omega arith)
is_operation (suc (suc zero)) h l = (add, refl)
is_operation (suc (suc (suc zero))) h l = (sub, refl)
is_operation (suc (suc (suc (suc zero)))) h l = (mul, refl)
is_operation (suc (suc (suc (suc (suc zero))))) h l = (div, refl)
is_operation (suc (suc (suc (suc (suc (suc k)))))) h l = absurd (omega arith)
