-- The types on the stack of an expression, kept in a list from the bottom up: what each kind of node does to it.
use mathlib.Core.Path.{◌≡◌, refl, sym, ◌∙◌, ap, ap₂, subst}
use mathlib.Core.Bool.{false, ◌&&◌}
use mathlib.Core.List.{List, [], ◌∷◌}
use Prim.Native.Nat.{ℕ, zero, suc, ◌+◌, ◌*◌, ◌-◌, ◌/◌, ◌≤◌, ◌<◌}
use native.Mathlib.Numerals.{add-one}
use native.Mathlib.Omega.{arith}
use lib.Dec.{eqb}
use lib.ListN.{length, get_or, set}
use lib.Seq.{get_or-set_same, get_or-set_other}
use borrow.Author.Tests.{eq-eqb, ne_eqb}
use Rattle.model.specs.Sizes.{node_size}
use Rattle.model.specs.Refusals.{Out, ok, refused, ◌>>=◌, check, wrong_condition}
use Rattle.model.specs.Bytes.{entries}
use Rattle.model.specs.Conjunct.{Conj}
use Rattle.model.specs.Condition.{operation, conversion, type_node, type_nodes, single, whole}
use Rattle.model.proofs.Basics.Tests.{case}
use Rattle.condition.specs.Numbers.{sum_kind, conversion_kind}
use Rattle.condition.specs.Answers.{node_from, NodeIs, part_nodes}
use Rattle.condition.specs.declared.Node.{Node}
use Rattle.condition.proofs.Nodes.{node-is, rest, rest-step, rest_all, push_kind, operation-kind, conversion-kind}

-- the types on the stack, the top first
unfoldable pub stack_of : List ℕ → ℕ → List ℕ
stack_of l zero = []
stack_of l (suc h) = get_or l h 0 ∷ stack_of l h

stack_set : (l : List ℕ) (i v h : ℕ) → h ≤ i → stack_of (set l i v) h ≡ stack_of l h
unfolding stack_of
stack_set l i v zero k = refl
stack_set l i v (suc h) k = ap₂ ◌∷◌ (get_or-set_other l i h v 0 (λ e. absurd (omega arith))) (stack_set l i v h (omega arith))

pub stack_push : (l : List ℕ) (h v : ℕ) → h < length l → stack_of (set l h v) (h + 1) ≡ v ∷ stack_of l h
unfolding stack_of
stack_push l h v k = rw (add-one h, get_or-set_same l h v 0 k, stack_set l h v h (omega arith))

-- ---- an operation

module _ (ty : ℕ) (l : List ℕ) where
  pub operation-short : (h : ℕ) → h < 2 → operation ty (stack_of l h) ≡ refused wrong_condition
  unfolding stack_of
  operation-short zero k = refl
  operation-short (suc zero) k = refl
  operation-short (suc (suc h)) k = absurd (omega arith)

  two_operands : (h : ℕ) → 2 ≤ h
      → operation ty (stack_of l h) ≡ check (eqb (get_or l (h - 2) 0) ty && eqb (get_or l (h - 1) 0) ty) wrong_condition (ok (ty ∷ stack_of l (h - 2)))
  unfolding stack_of
  two_operands zero k = absurd (omega arith)
  two_operands (suc zero) k = absurd (omega arith)
  two_operands (suc (suc h)) k =
      let e : suc (suc h) - 1 ≡ suc h = omega arith in
      let f : suc (suc h) - 2 ≡ h = omega arith in
      rw (e, f)

  pub operation_upper : (h : ℕ) → 2 ≤ h → (get_or l (h - 1) 0 ≡ ty → ⊥) → operation ty (stack_of l h) ≡ refused wrong_condition
  operation_upper h k n =
      two_operands h k ∙ rw (ne_eqb (get_or l (h - 1) 0) ty n)
      (case (eqb (get_or l (h - 2) 0) ty) (λ z. check (z && false) wrong_condition (ok (ty ∷ stack_of l (h - 2))) ≡ refused wrong_condition) (λ q. refl) (λ q. refl))

  pub operation_lower : (h : ℕ) → 2 ≤ h → (get_or l (h - 2) 0 ≡ ty → ⊥) → operation ty (stack_of l h) ≡ refused wrong_condition
  operation_lower h k n = two_operands h k ∙ rw (ne_eqb (get_or l (h - 2) 0) ty n)

  pub operation-right : (h : ℕ) → 2 ≤ h → get_or l (h - 1) 0 ≡ ty → get_or l (h - 2) 0 ≡ ty → operation ty (stack_of l h) ≡ ok (stack_of l (h - 1))
  unfolding stack_of
  operation-right h k b a =
      let e : h - 1 ≡ suc (h - 2) = omega arith in
      two_operands h k ∙ rw (eq-eqb (get_or l (h - 1) 0) ty b, eq-eqb (get_or l (h - 2) 0) ty a)
      (sym (ap (λ (m : ℕ). ok (stack_of l m)) e ∙ ap (λ (t : ℕ). ok (t ∷ stack_of l (h - 2))) a))

  -- ---- a conversion

  pub conversion-short : (h : ℕ) → h ≡ 0 → conversion ty (stack_of l h) ≡ refused wrong_condition
  unfolding stack_of
  conversion-short h e = rw e

  pub conversion-right : (h : ℕ) → 0 < h → h ≤ length l → conversion ty (stack_of l h) ≡ ok (stack_of (set l (h - 1) ty) h)
  unfolding stack_of
  conversion-right zero k m = absurd (omega arith)
  conversion-right (suc h) k m =
      let e : suc h - 1 ≡ h = omega arith in
      subst (λ (i : ℕ). ok (ty ∷ stack_of l h) ≡ ok (stack_of (set l i ty) (suc h))) (sym e)
      (sym (ap (λ (t : List ℕ). ok t) (ap₂ ◌∷◌ (get_or-set_same l h ty 0 (omega arith)) (stack_set l h ty h (omega arith)))))

-- one value is left
pub single_stack : (l : List ℕ) (h : ℕ) → single (ok (stack_of l h)) ≡ eqb h 1
unfolding stack_of
single_stack l zero = sym (ne_eqb 0 1 (λ e. absurd (omega arith)))
single_stack l (suc zero) = refl
single_stack l (suc (suc h)) = sym (ne_eqb (suc (suc h)) 1 (λ e. absurd (omega arith)))

-- ---- one turn: the node with number k

module _ (s : List ℕ) (n k : ℕ) (v : Node) (is : NodeIs v s (node_size * k)) (more : k < n) (st : List ℕ) where
  typed-turn : type_nodes (rest s n k) st ≡ (type_node (node_from v) st >>= type_nodes (rest s n (k + 1)))
  unfolding type_nodes
  typed-turn = rw (rest-step s n k more, node-is v s (node_size * k) is)

  pub typed_push : v.kind < sum_kind → type_nodes (rest s n k) st ≡ type_nodes (rest s n (k + 1)) (v.ty ∷ st)
  typed_push h = typed-turn ∙ rw (push_kind v.ty v.field v.imm st v.kind h)

  pub typed-operation : sum_kind ≤ v.kind → v.kind < conversion_kind → (o : Out (List ℕ)) → operation v.ty st ≡ o
      → type_nodes (rest s n k) st ≡ (o >>= type_nodes (rest s n (k + 1)))
  typed-operation h l o e = typed-turn ∙ rw (operation-kind v.ty v.field v.imm st v.kind h l, e)

  pub typed-conversion : conversion_kind ≤ v.kind → (o : Out (List ℕ)) → conversion v.ty st ≡ o
      → type_nodes (rest s n k) st ≡ (o >>= type_nodes (rest s n (k + 1)))
  typed-conversion h o e = typed-turn ∙ rw (conversion-kind v.ty v.field v.imm st v.kind h, e)

-- ---- the whole expression

pub whole-start : (s l : List ℕ) {n : ℕ} → n ≡ length s / node_size → type_nodes (part_nodes s) [] ≡ type_nodes (rest s n 0) (stack_of l 0)
unfolding stack_of
whole-start s l {n} e = rw (rest_all s n, e)

pub whole-refused : (e : Conj) → type_nodes e [] ≡ refused wrong_condition → whole e ≡ false
unfolding whole
whole-refused e h = rw h

pub whole-end : (s : List ℕ) (n k : ℕ) (l : List ℕ) (h : ℕ) (e : Conj) → n ≤ k → type_nodes e [] ≡ type_nodes (rest s n k) (stack_of l h)
    → whole e ≡ eqb h 1
unfolding whole entries type_nodes
whole-end s n k l h e m t =
    let z : n - k ≡ 0 = omega arith in
    rw t (rw z (single_stack l h))
