-- The variables of the inlined program: each statement names only what it was handed, and the variables of its own places. So all
-- numbers lie below the program's variables and the places of the inlined program together.
use mathlib.Core.Path.{◌≡◌, refl, ◌∙◌}
use mathlib.Core.Bool.{true}
use mathlib.Core.List.{List, [], ◌∷◌, ◌++◌, map}
use Prim.Native.Nat.{ℕ, zero, suc, ◌+◌, ◌-◌, ◌≤◌, ◌<◌}
use native.Mathlib.Omega.{arith}
use lib.ListN.{length, get_or, length-append}
use Rattle.model.specs.Lists.{All}
use Rattle.model.specs.Code.{Right, number, copy, calc, change, read, load, Instr, assign, store, site, Stmt, plain, if, else, end, while}
use Rattle.model.specs.Procedures.{Item, own, procedure, call, Procedure, operands, named_by, named, owns}
use Rattle.model.specs.Inlined.{Row, raised_right, raised_instr_lem, raised, Expansion, no_expansion, inlined, entering, silently, called, expansion, expansions}
use Rattle.model.proofs.Basics.Lists.{all_imp, all_append, all_map}
use Rattle.model.proofs.Procedures.InlinedTypes.{snoc_each, length-called, length-entering, owned_below}

module _ (type : ℕ → ℕ) (variables : ℕ) (most : ℕ) where
  -- a row names only numbers below `most`
  abbrev Under : Row → Type 0
  Under r = All (λ x. x < most) (named (own r.stmt))

  under_right : (k : ℕ) (r : Right) → All (λ x. x + k < most) (operands r) → All (λ x. x < most) (operands (raised_right k r))
  under_right k (number i) h = tt
  under_right k (copy b) h = h
  under_right k (calc o b c) h = h
  under_right k (change b u) h = h
  under_right k (read f) h = tt
  under_right k (load r n i) h = h

  under_instr : (k : ℕ) (i : Instr) → All (λ x. x + k < most) (named_by i) → All (λ x. x < most) (named_by (raised_instr_lem k i))
  under_instr k (assign a ty r) h = (h.0, under_right k r h.1)
  under_instr k (store r n i x ty) h = h
  under_instr k (site a ty) h = h

  under_stmt : (k : ℕ) (s : Stmt) → All (λ x. x + k < most) (named (own s)) → All (λ x. x < most) (named (own (raised k s)))
  under_stmt k (plain i) h = under_instr k i h
  under_stmt k (if v) h = h
  under_stmt k else h = tt
  under_stmt k end h = tt
  under_stmt k (while v) h = h

  -- of a call, where its target and arguments lie below, and its places too
  abbrev Below : ℕ → Expansion → Type 0
  Below p e = (l at t : ℕ) (as' : List ℕ) → t < most → All (λ x. x < most) as' → variables + (at + length (e l at t as')) ≤ most → All Under (e l at t as')

  abbrev AllBelow : List Expansion → Type 0
  AllBelow es = (p : ℕ) → Below p (get_or es p no_expansion)

  args_under : (k : ℕ) (as' : List ℕ) → All (λ x. x + k < most) as' → All (λ x. x < most) (map (◌+ k) as')
  args_under k [] h = tt
  args_under k (b ∷ as') h = (h.0, args_under k as' h.1)

  pub inlined_under : (es : List Expansion) → AllBelow es → (k : ℕ) (is : List Item) → All (λ i. All (λ x. x + k < most) (named i)) is
      → (l at : ℕ) → variables + (at + length (inlined es k l at is)) ≤ most → All Under (inlined es k l at is)
  unfolding inlined
  inlined_under es g k [] h l at b = tt
  inlined_under es g k (own s ∷ is) h l at b = (under_stmt k s h.0, inlined_under es g k is h.1 (suc l) (suc at) (omega arith))
  inlined_under es g k (procedure n x c ∷ is) h l at b = inlined_under es g k is h.1 (suc l) at b
  inlined_under es g k (call t p as' ∷ is) h l at b =
      let rows = get_or es p no_expansion l at (t + k) (map (◌+ k) as') in
      let more = inlined es k (suc l) (at + length rows) is in
      let len = length-append rows more in
      all_append Under rows more (g p l at (t + k) (map (◌+ k) as') h.0.0 (args_under k as' h.0.1) (omega arith))
      (inlined_under es g k is h.1 (suc l) (at + length rows) (omega arith))

  entering_under : (k n x : ℕ) (as' : List ℕ) → x + n + k ≤ most → All (λ y. y < most) as' → All (λ i. All (λ y. y < most) (named_by i)) (entering type k x n as')
  unfolding entering
  entering_under k zero x as' b h = tt
  entering_under k (suc n) x [] b h = ((omega arith, tt), entering_under k n (suc x) [] (omega arith) tt)
  entering_under k (suc n) x (c ∷ as') b h = ((omega arith, (h.0, tt)), entering_under k n (suc x) as' (omega arith) h.1)

  called_under : (l : ℕ) (is : List Instr) → All (λ i. All (λ y. y < most) (named_by i)) is → All Under (called l is)
  called_under l [] h = tt
  called_under l (i ∷ is) h = (h.0, all_map Under silently is h.1)

  -- what is asked of a procedure
  pub record Sized (q : Procedure) : Type 0 where
    pub some : 1 ≤ q.count
    pub inside : q.first + q.count ≤ variables
    pub uses : All (λ i. All (λ x. owns q x ≡ true) (named i)) q.body

  at_place : (v at f k : ℕ) → f ≤ v → k ≡ v + at - f → f + k ≡ v + at
  at_place v at f k a e = omega arith

  expansion_under : (es : List Expansion) → AllBelow es → (p : ℕ) (q : Procedure) → Sized q → Below p (expansion type variables es q)
  unfolding expansion
  expansion_under es g p q z l at t as' ht hs b =
      let k = variables + at - q.first in
      let result = q.first + q.count - 1 in
      let enters = entering type k q.first q.count as' in
      let body = inlined es k q.label (at + q.count) q.body in
      let last = silently (assign t (type result) (copy (result + k))) ∷ [] in
      let first-at : q.first + k ≡ variables + at = at_place variables at q.first k (omega (arith, z.inside)) refl in
      let n₁ : length (called l enters) ≡ q.count = length-called l enters ∙ length-entering type k q.count q.first as' in
      let n₂ = length-append (called l enters) (body ++ last) in
      let n₃ = length-append body last in
      let own-under : (x : ℕ) → owns q x ≡ true → x + k < most = λ x e. omega (arith, owned_below q x e) in
      all_append Under (called l enters) (body ++ last)
      (called_under l enters (entering_under k q.count q.first as' (omega arith) hs))
      (all_append Under body last
      (inlined_under es g k q.body (all_imp (λ i. all_imp own-under (named i)) q.body z.uses) q.label (at + q.count) (omega arith))
      ((ht, (omega (arith, z.some), tt)), tt))

  -- the procedures
  pub expansions_under : (es : List Expansion) → AllBelow es → (qs : List Procedure) → All Sized qs → AllBelow (expansions type variables es qs)
  unfolding expansions
  expansions_under es g [] f = g
  expansions_under es g (q ∷ qs) f =
      let e = expansion type variables es q in
      expansions_under (es ++ (e ∷ [])) (snoc_each Below es e g (expansion_under es g (length es) q f.0) (λ p l at t as' a b c. tt)) qs f.1
