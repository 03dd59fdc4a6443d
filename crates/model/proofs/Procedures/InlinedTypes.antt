-- The inlined program is typed: each own variable of each call has the type of the procedure's variable that it stands for.
use mathlib.Core.Path.{◌≡◌, refl, sym, ◌∙◌, ap, subst}
use mathlib.Core.Bool.{true}
use mathlib.Core.List.{List, [], ◌∷◌, ◌++◌, map, append_assoc}
use Prim.Native.Nat.{ℕ, zero, suc, ◌+◌, ◌-◌, ◌≤◌, ◌<◌}
use native.Mathlib.Decide.{ℕ_discrete}
use native.Mathlib.Omega.{arith}
use lib.Dec.{leb, ltb}
use lib.ListN.{length, get_or, length-map}
use borrow.Author.Tests.{leb-true, ltb-true}
use Rattle.arith.specs.Types.{signed}
use Rattle.arith.proofs.WrapLaws.{fits-zero, immediate-zero}
use Rattle.model.specs.Lists.{All}
use Rattle.model.specs.Code.{Right, number, copy, calc, change, read, load, Instr, assign, store, site, Stmt, plain, if, else, end, while}
use Rattle.model.specs.Procedures.{Item, own, procedure, call, Procedure, operands, named_by, named, owns}
use Rattle.model.specs.Inlined.{Row, raised_right, raised_instr_lem, raised, Expansion, no_expansion, inlined, entering, silently, called, expansion, expansions}
use Rattle.model.specs.Program.{Tables, variable_type_lem, beginning_of}
use Rattle.model.specs.Typing.{AtPlain, TypedVar, TypedRight, TypedInstr, assigned, place_types, widened}
use Rattle.model.proofs.Basics.Lists.{all_imp, all_append, all_map, length_snoc}
use Rattle.model.proofs.Basics.Tests.{and_left, and_right}

-- ---- lists and lengths

get_d_past : (xs ys : List ℕ) (y : ℕ) → get_or (xs ++ (y ∷ ys)) (length xs) 0 ≡ y
get_d_past [] ys y = refl
get_d_past (x ∷ xs) ys y = get_d_past xs ys y

pub length-called : (l : ℕ) (is : List Instr) → length (called l is) ≡ length is
length-called l [] = refl
length-called l (i ∷ is) = ap suc (length-map is silently)

pub length-entering : (type : ℕ → ℕ) (k n x : ℕ) (as' : List ℕ) → length (entering type k x n as') ≡ n
unfolding entering
length-entering type k zero x as' = refl
length-entering type k (suc n) x [] = ap suc (length-entering type k n (suc x) [])
length-entering type k (suc n) x (b ∷ as') = ap suc (length-entering type k n (suc x) as')

-- ---- own variables

pub owned_least : (q : Procedure) (x : ℕ) → owns q x ≡ true → q.first ≤ x
owned_least q x e = leb-true q.first x (and_left (leb q.first x) (ltb x (q.first + q.count)) e)

pub owned_below : (q : Procedure) (x : ℕ) → owns q x ≡ true → x < q.first + q.count
owned_below q x e = ltb-true x (q.first + q.count) (and_right (leb q.first x) (ltb x (q.first + q.count)) e)

-- Q of each expansion, with one more at the end
pub snoc_each : (Q : ℕ → Expansion → Type 0) (es : List Expansion) (e : Expansion) → ((p : ℕ) → Q p (get_or es p no_expansion)) → Q (length es) e → ((p : ℕ) → Q p no_expansion)
    → (p : ℕ) → Q p (get_or (es ++ (e ∷ [])) p no_expansion)
snoc_each Q [] e h k n zero = k
snoc_each Q [] e h k n (suc p) = n (suc p)
snoc_each Q (x ∷ es) e h k n zero = h 0
snoc_each Q (x ∷ es) e h k n (suc p) = snoc_each (λ j. Q (suc j)) es e (λ j. h (suc j)) k (λ j. n (suc j)) p

module _ (T : Tables) (R : List Row) where
  abbrev W : Tables
  W = widened T R

  abbrev own-count : ℕ
  own-count = length T.variables

  -- the rows stand from a place on: the variable of each place has the type that the statement there assigns
  abbrev Placed : ℕ → List Row → Type 0
  Placed at [] = Unit {0}
  Placed at (r ∷ rs) = (variable_type_lem W (own-count + at) ≡ assigned r.stmt) × Placed (suc at) rs

  placed-left : (at : ℕ) (xs ys : List Row) → Placed at (xs ++ ys) → Placed at xs
  placed-left at [] ys h = tt
  placed-left at (x ∷ xs) ys h = (h.0, placed-left (suc at) xs ys h.1)

  placed-right : (at : ℕ) (xs ys : List Row) → Placed at (xs ++ ys) → Placed (at + length xs) ys
  placed-right at [] ys h = subst (λ p. Placed p ys) (none at) h
    where
      none : (n : ℕ) → n ≡ n + 0
      none n = omega arith
  placed-right at (x ∷ xs) ys h = subst (λ p. Placed p ys) (one at (length xs)) (placed-right (suc at) xs ys h.1)
    where
      one : (n m : ℕ) → suc n + m ≡ n + suc m
      one n m = omega arith

  placed-from : (pre : List ℕ) (at : ℕ) (rs : List Row) → T.variables ++ place_types R ≡ pre ++ place_types rs → length pre ≡ own-count + at → Placed at rs
  placed-from pre at [] e n = tt
  placed-from pre at (r ∷ rs) e n =
      let ty = assigned r.stmt in
      let more = place_types rs in (
        ap (λ l. get_or l (own-count + at) 0) e ∙ ap (λ p. get_or (pre ++ (ty ∷ more)) p 0) (sym n) ∙ get_d_past pre more ty,
        placed-from (pre ++ (ty ∷ [])) (suc at) rs (e ∙ sym (append_assoc pre (ty ∷ []) more)) (length_snoc pre ty ∙ next (length pre) own-count at n),
      )
    where
      next : (m v n : ℕ) → m ≡ v + n → suc m ≡ v + suc n
      next m v n e = omega arith

  pub placed-all : Placed 0 R
  placed-all = placed-from T.variables 0 R refl (none own-count)
    where
      none : (n : ℕ) → n ≡ n + 0
      none n = omega arith

  -- ---- a statement with every variable k higher

  -- the variable k higher has the same type
  abbrev Same : ℕ → ℕ → Type 0
  Same k x = variable_type_lem W (x + k) ≡ variable_type_lem T x

  raise_var : (k x ty : ℕ) → Same k x → TypedVar T x ty → TypedVar W (x + k) ty
  raise_var k x ty s h = (s ∙ h.0, h.1)

  raise_right : (k ty : ℕ) (r : Right) → All (Same k) (operands r) → TypedRight T ty r → TypedRight W ty (raised_right k r)
  raise_right k ty (number i) s h = h
  raise_right k ty (copy b) s h = raise_var k b ty s.0 h
  raise_right k ty (calc o b c) s h = (raise_var k b ty s.0 h.0, raise_var k c ty s.1.0 h.1)
  raise_right k ty (change b u) s h = raise_var k b u s.0 h
  raise_right k ty (read f) s h = h
  raise_right k ty (load r n i) s h = (h.0, (h.1.0, ap signed s.0 ∙ h.1.1))

  raise_instr : (k : ℕ) (i : Instr) → All (Same k) (named_by i) → TypedInstr T i → TypedInstr W (raised_instr_lem k i)
  raise_instr k (assign a ty r) s h = (raise_var k a ty s.0 h.0, raise_right k ty r s.1 h.1)
  raise_instr k (store r n i x ty) s h = (h.0, raise_var k x ty s.1.0 h.1, (h.2.0, ap signed s.0 ∙ h.2.1))
  raise_instr k (site a ty) s h = raise_var k a ty s.0 h

  raise_stmt : (k : ℕ) (s : Stmt) → All (Same k) (named (own s)) → AtPlain (TypedInstr T) s → AtPlain (TypedInstr W) (raised k s)
  raise_stmt k (plain i) s h = raise_instr k i s h
  raise_stmt k (if v) s h = tt
  raise_stmt k else s h = tt
  raise_stmt k end s h = tt
  raise_stmt k (while v) s h = tt

  -- ---- calls

  -- the first own variable of a procedure, and how many it has
  abbrev first : ℕ → ℕ
  first p = (beginning_of T p).b

  abbrev count : ℕ → ℕ
  count p = (beginning_of T p).c

  -- the type of a procedure's result
  abbrev result_type : ℕ → ℕ
  result_type p = variable_type_lem T (first p + count p - 1)

  -- variables have the types of the program's variables from x on
  abbrev pub Agree : (ℕ → ℕ → Type 0) → List ℕ → ℕ → Type 0
  Agree H [] x = Unit {0}
  Agree H (b ∷ bs) x = H b (variable_type_lem T x) × Agree H bs (suc x)

  -- a statement of the program in which types agree
  abbrev pub TypedItem : Item → Type 0
  TypedItem (own s) = AtPlain (TypedInstr T) s
  TypedItem (procedure n x k) = Unit {0}
  TypedItem (call t p as') = TypedVar T t (result_type p) × Agree (TypedVar T) as' (first p)

  raise_args : (k : ℕ) (as' : List ℕ) (x : ℕ) → All (Same k) as' → Agree (TypedVar T) as' x → Agree (TypedVar W) (map (◌+ k) as') x
  raise_args k [] x s h = tt
  raise_args k (b ∷ bs) x s h = (raise_var k b (variable_type_lem T x) s.0 h.0, raise_args k bs (suc x) s.1 h.1)

  abbrev TypedRow : Row → Type 0
  TypedRow r = AtPlain (TypedInstr W) r.stmt

  -- what a call of procedure p is written out as, where its target and arguments have their types
  abbrev Typing : ℕ → Expansion → Type 0
  Typing p e = (l at t : ℕ) (as' : List ℕ) → Placed at (e l at t as') → TypedVar W t (result_type p) → Agree (TypedVar W) as' (first p) → All TypedRow (e l at t as')

  abbrev TypingAll : List Expansion → Type 0
  TypingAll es = (p : ℕ) → Typing p (get_or es p no_expansion)

  pub inlined-typed : (es : List Expansion) → TypingAll es → (k : ℕ) (is : List Item) → All TypedItem is → All (λ i. All (Same k) (named i)) is
      → (l at : ℕ) → Placed at (inlined es k l at is) → All TypedRow (inlined es k l at is)
  unfolding inlined
  inlined-typed es g k [] t s l at h = tt
  inlined-typed es g k (own x ∷ is) t s l at h = (raise_stmt k x s.0 t.0, inlined-typed es g k is t.1 s.1 (suc l) (suc at) h.1)
  inlined-typed es g k (procedure n x c ∷ is) t s l at h = inlined-typed es g k is t.1 s.1 (suc l) at h
  inlined-typed es g k (call y p as' ∷ is) t s l at h =
      let rows = get_or es p no_expansion l at (y + k) (map (◌+ k) as') in
      let more = inlined es k (suc l) (at + length rows) is in
      all_append TypedRow rows more
      (g p l at (y + k) (map (◌+ k) as') (placed-left at rows more h) (raise_var k y (result_type p) s.0.0 t.0.0) (raise_args k as' (first p) s.0.1 t.0.1))
      (inlined-typed es g k is t.1 s.1 (suc l) (at + length rows) (placed-right at rows more h))

  -- ---- the assignments at a call

  abbrev type : ℕ → ℕ
  type = variable_type_lem T

  placed-called : (l at : ℕ) (is : List Instr) → Placed at (called l is) → Placed at (map silently is)
  placed-called l at [] h = h
  placed-called l at (i ∷ is) h = h

  all-called : (l : ℕ) (is : List Instr) → All (TypedInstr W) is → All TypedRow (called l is)
  all-called l [] h = tt
  all-called l (i ∷ is) h = (h.0, all_map TypedRow silently is h.1)

  -- the place of each own variable's first assignment gives it its type
  own-here : (k x y at : ℕ) → variable_type_lem W (own-count + at) ≡ type x → own-count + at ≡ x + k → x ≤ y → (suc x ≤ y → Same k y) → Dec (y ≡ x) → Same k y
  own-here k x y at h e a later (yes z) = ap (λ w. variable_type_lem W (w + k)) z ∙ ap (variable_type_lem W) (sym e) ∙ h ∙ ap type (sym z)
  own-here k x y at h e a later (no z) = later (omega arith)

  own-types : (k n x : ℕ) (as' : List ℕ) (at : ℕ) → Placed at (map silently (entering type k x n as')) → own-count + at ≡ x + k
      → (y : ℕ) → x ≤ y → y < x + n → Same k y
  unfolding entering
  own-types k zero x as' at h e y a b = absurd (omega arith)
  own-types k (suc n) x [] at h e y a b =
      own-here k x y at h.0 e a (λ c. own-types k n (suc x) [] (suc at) h.1 (omega arith) y c (omega arith)) (ℕ_discrete y x)
  own-types k (suc n) x (c ∷ as') at h e y a b =
      own-here k x y at h.0 e a (λ c. own-types k n (suc x) as' (suc at) h.1 (omega arith) y c (omega arith)) (ℕ_discrete y x)

  entering-typed : (k n x : ℕ) (as' : List ℕ) → ((y : ℕ) → x ≤ y → y < x + n → TypedVar W (y + k) (type y)) → Agree (TypedVar W) as' x
      → All (TypedInstr W) (entering type k x n as')
  unfolding entering
  entering-typed k zero x as' o h = tt
  entering-typed k (suc n) x [] o h =
      ((o x (omega arith) (omega arith), rw (immediate-zero (type x)) (fits-zero (type x))), entering-typed k n (suc x) [] (λ y a b. o y (omega arith) (omega arith)) tt)
  entering-typed k (suc n) x (c ∷ as') o h =
      ((o x (omega arith) (omega arith), h.0), entering-typed k n (suc x) as' (λ y a b. o y (omega arith) (omega arith)) h.1)

  -- ---- the procedures

  -- what check 16 leaves of the procedure with a number
  pub record Fit (p : ℕ) (q : Procedure) : Type 0 where
    pub same_first : q.first ≡ first p
    pub same_count : q.count ≡ count p
    pub some : 1 ≤ q.count
    pub inside : q.first + q.count ≤ own-count
    pub known : (x : ℕ) → x < own-count → type x < 8
    pub typed : All TypedItem q.body
    pub uses : All (λ i. All (λ x. owns q x ≡ true) (named i)) q.body

  shift : (v at f x k : ℕ) → f ≤ v → k ≡ v + at - f → v + at ≡ f + k
  shift v at f x k a e = omega arith

  expansion-typed : (es : List Expansion) → TypingAll es → (p : ℕ) (q : Procedure) → Fit p q → Typing p (expansion type own-count es q)
  unfolding expansion
  expansion-typed es g p q f l at t as' h ht hs =
      let k = own-count + at - q.first in
      let result = q.first + q.count - 1 in
      let enters = entering type k q.first q.count as' in
      let body = inlined es k q.label (at + q.count) q.body in
      let last = silently (assign t (type result) (copy (result + k))) ∷ [] in
      let at_first : own-count + at ≡ q.first + k = shift own-count at q.first 0 k (omega (arith, f.inside)) refl in
      let same : (y : ℕ) → q.first ≤ y → y < q.first + q.count → Same k y =
      own-types k q.count q.first as' at (placed-called l at enters (placed-left at (called l enters) (body ++ last) h)) at_first in
      let owned : (y : ℕ) → q.first ≤ y → y < q.first + q.count → TypedVar W (y + k) (type y) = λ y a b. (same y a b, f.known y (omega (arith, f.inside))) in
      let after = placed-right at (called l enters) (body ++ last) h in
      let count-places : at + length (called l enters) ≡ at + q.count = ap (at +◌) (length-called l enters ∙ length-entering type k q.count q.first as') in
      let in_Body = placed-left (at + q.count) body last (subst (λ z. Placed z (body ++ last)) count-places after) in
      let is-result : type result ≡ result_type p = λ i. type (f.same_first i + f.same_count i - 1) in
      let result-typed : TypedVar W (result + k) (type result) = owned result (omega (arith, f.some)) (omega (arith, f.some)) in
      let target : TypedVar W t (type result) = subst (TypedVar W t) (sym is-result) ht in
      all_append TypedRow (called l enters) (body ++ last)
      (all-called l enters (entering-typed k q.count q.first as' owned (subst (Agree (TypedVar W) as') (sym f.same_first) hs)))
      (all_append TypedRow body last
      (inlined-typed es g k q.body f.typed (all_imp (λ i. all_imp (λ x e. same x (owned_least q x e) (owned_below q x e)) (named i)) q.body f.uses) q.label (at + q.count) in_Body)
      ((target, result-typed), tt))

  -- the procedures from a number on
  abbrev pub FitFrom : ℕ → List Procedure → Type 0
  FitFrom n [] = Unit {0}
  FitFrom n (q ∷ qs) = Fit n q × FitFrom (suc n) qs

  pub expansions-typed : (es : List Expansion) → TypingAll es → (qs : List Procedure) → FitFrom (length es) qs → TypingAll (expansions type own-count es qs)
  unfolding expansions
  expansions-typed es g [] f = g
  expansions-typed es g (q ∷ qs) f =
      let e = expansion type own-count es q in
      expansions-typed (es ++ (e ∷ [])) (snoc_each Typing es e g (expansion-typed es g (length es) q f.0) (λ p l at t as' h a b. tt)) qs
      (subst (λ n. FitFrom n qs) (sym (length_snoc es e)) f.1)
