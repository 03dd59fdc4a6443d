-- What the rule of a statement brings into a set is of its right side, or is the stored variable: where the flags of these are on, flags
-- that cover a set cover what the rule makes of it too. The idea: a conjunct is covered where each of its nodes is (`Within`); a rule puts
-- nodes in the place of nodes, and a new number leaves an atom its source.
use mathlib.Core.Bool.{Bool, true, false, ◌&&◌, cond, true≢false}
use mathlib.Core.List.{List, [], ◌∷◌, map, flat_map}
use mathlib.Core.Logic.{◌⊎◌, inl, inr, ⊎_elim, ◌≢◌}
use mathlib.Core.Path.{◌≡◌, refl, sym, ap, subst, ◌∙◌}
use Prim.Native.Nat.{ℕ, suc, ◌+◌, ◌≤◌, ◌<◌}
use native.Mathlib.Decide.{dec_lt}
use native.Mathlib.Omega.{arith}
use lib.Dec.{eqb}
use borrow.Author.Tests.{ne_eqb}
use Rattle.model.specs.Code.{Right, number, copy, calc, change, read, load, Instr, assign, store, site, Code, done, step, branch, loop, Stmt, plain, if, else, end, while}
use Rattle.model.specs.Conjunct.{Source, field, cell, Atom, Node, const, atom, var, op, conv, Conj, Conjuncts, same_atom, atoms, renamed, on_atom_lem, renumber}
use Rattle.model.specs.Kinds.{Kind, a_number, a_copy, an_operation, a_conversion, a_read, a_load, a_store, a_site, an_if, an_else, an_end, a_while, a_procedure, a_call, no_kind_lem, kind_of}
use Rattle.model.specs.Lists.{All}
use Rattle.model.specs.Placement.{Laid}
use Rattle.model.specs.Touch.{is_var, is_load_lem, some}
use Rattle.model.specs.Typing.{Each}
use Rattle.model.specs.Walk.{nodes, replace, on_array, loads, swap, swap_all, subsets, before, back}
use Rattle.model.proofs.Basics.Lists.{all_imp, all_append, all_map}
use Rattle.model.proofs.Basics.Results.{Gives}
use Rattle.model.proofs.Basics.Tests.{case, or_left, or_right, eqb_self}
use Rattle.model.proofs.Files.KindNumbers.{IsNumber, kind-number, operation-least, operation-most}
use Rattle.model.proofs.Walks.Invariant.{rule_every}
use Rattle.model.proofs.Walks.Laid.{laid_le}
use Rattle.code_table.specs.declared.Decoded.{Decoded}
use Rattle.code_table.specs.Statements.{stmt_for, stmt_from}
use Rattle.footprint.specs.Footprints.{FreeVariable, FreeArray, Covers, CoversSet, Extends, FlagsVariable, FlagsArray, FlagsRight, Flags, FlagsAll}
use Rattle.footprint.specs.declared.Footprint.{Footprint}

none-some : {A : Type 0} (f : A → Bool) (xs : List A) → All (λ x. f x ≡ false) xs → some f xs ≡ false
unfolding some
none-some f [] h = refl
none-some f (x ∷ xs) h = rw h.0 (none-some f xs h.1)

all-flat_map : {A B : Type 0} (P : B → Type 0) (f : A → List B) (xs : List A) → All (λ x. All P (f x)) xs → All P (flat_map f xs)
unfolding flat_map
all-flat_map P f [] h = tt
all-flat_map P f (x ∷ xs) h = all_append P (f x) (flat_map f xs) h.0 (all-flat_map P f xs h.1)

module _ (m : Footprint) where
  -- ---- node by node

  -- the source is no array whose flag is off
  abbrev WithinSource : Source → Type 0
  WithinSource (field f ty) = Unit {0}
  WithinSource (cell l t k ty) = FlagsArray m t

  -- the node is of no variable and no array whose flag is off
  abbrev Within : Node → Type 0
  Within (const ty i) = Unit {0}
  Within (atom a) = WithinSource a.src
  Within (var x ty) = FlagsVariable m x
  Within (op o ty) = Unit {0}
  Within (conv ty) = Unit {0}

  source-within : (s : Source) → ((t k : ℕ) → FreeArray m t → on_array t k s ≡ false) → WithinSource s
  unfolding on_array
  source-within (field f ty) h = tt
  source-within (cell l t k ty) h = λ f. true≢false (sym (simp eqb_self) ∙ h t k f)

  node-within : (v : Node) → ((x : ℕ) → FreeVariable m x → is_var x v ≡ false) → ((t k : ℕ) → FreeArray m t → is_load_lem t k v ≡ false) → Within v
  node-within (const ty i) h k = tt
  node-within (atom a) h k = source-within a.src k
  node-within (var x ty) h k = λ f. true≢false (sym (eqb_self x) ∙ h x f)
  node-within (op o ty) h k = tt
  node-within (conv ty) h k = tt

  covers-within : (e : Conj) → Covers m e → All Within e
  unfolding some
  covers-within [] h = tt
  covers-within (v ∷ e) h = (
    node-within v (λ x f. or_left (is_var x v) (some (is_var x) e) (h.variables x f)) (λ t k f. or_left (is_load_lem t k v) (some (is_load_lem t k) e) (h.arrays t k f)),
    covers-within e (record {
      variables = λ x f. or_right (is_var x v) (some (is_var x) e) (h.variables x f);
      arrays = λ t k f. or_right (is_load_lem t k v) (some (is_load_lem t k) e) (h.arrays t k f);
    }),
  )

  other-variable : (x : ℕ) → FreeVariable m x → (v : Node) → Within v → is_var x v ≡ false
  other-variable x f (const ty i) w = refl
  other-variable x f (atom a) w = refl
  other-variable x f (var y ty) w = ne_eqb y x (λ e. w (subst (FreeVariable m) (sym e) f))
  other-variable x f (op o ty) w = refl
  other-variable x f (conv ty) w = refl

  other-source : (t k : ℕ) → FreeArray m t → (s : Source) → WithinSource s → on_array t k s ≡ false
  unfolding on_array
  other-source t k f (field g ty) w = refl
  other-source t k f (cell l r j ty) w = ap (◌&& eqb j k) (ne_eqb r t (λ e. w (subst (FreeArray m) (sym e) f)))

  other-array : (t k : ℕ) → FreeArray m t → (v : Node) → Within v → is_load_lem t k v ≡ false
  other-array t k f (const ty i) w = refl
  other-array t k f (atom a) w = other-source t k f a.src w
  other-array t k f (var y ty) w = refl
  other-array t k f (op o ty) w = refl
  other-array t k f (conv ty) w = refl

  within-covers : (e : Conj) → All Within e → Covers m e
  within-covers e h = record {
    variables = λ x f. none-some (is_var x) e (all_imp (other-variable x f) e h);
    arrays = λ t k f. none-some (is_load_lem t k) e (all_imp (other-array t k f) e h);
  }

  -- ---- the rules

  nodes-within : (l ty : ℕ) (r : Right) → FlagsRight m r → All Within (nodes l ty r)
  unfolding nodes
  nodes-within l ty (number i) f = (tt, tt)
  nodes-within l ty (copy b) f = (f, tt)
  nodes-within l ty (calc o b c) f = (f.0, (f.1, (tt, tt)))
  nodes-within l ty (change b u) f = (f, (tt, tt))
  nodes-within l ty (read g) f = (tt, tt)
  nodes-within l ty (load t k i) f = (f, tt)

  replace-within : (a : ℕ) (r : List Node) → All Within r → (v : Node) → Within v → All Within (replace a r v)
  unfolding replace
  replace-within a r h (const ty i) w = (tt, tt)
  replace-within a r h (atom b) w = (w, tt)
  replace-within a r h (var x ty) w = case (eqb x a) (λ z. All Within (cond z r (var x ty ∷ []))) (λ p. h) (λ p. (w, tt))
  replace-within a r h (op o ty) w = (tt, tt)
  replace-within a r h (conv ty) w = (tt, tt)

  on_atom : (f : Atom → Node) → ((b : Atom) → WithinSource b.src → Within (f b)) → (v : Node) → Within v → Within (on_atom_lem f v)
  on_atom f k (const ty i) w = tt
  on_atom f k (atom b) w = k b w
  on_atom f k (var x ty) w = w
  on_atom f k (op o ty) w = tt
  on_atom f k (conv ty) w = tt

  -- atoms by nodes that are covered if they are
  on_atoms : (f : Atom → Node) → ((b : Atom) → WithinSource b.src → Within (f b)) → (e : Conj) → All Within e → All Within (map (on_atom_lem f) e)
  on_atoms f k e h = all_map Within (on_atom_lem f) e (all_imp (on_atom f k) e h)

  -- an atom left, or replaced by a variable whose flag is on
  left_or : (x ty : ℕ) → FlagsVariable m x → (t : Bool) (b : Atom) → WithinSource b.src → Within (cond t (var x ty) (atom b))
  left_or x ty f true b w = f
  left_or x ty f false b w = w

  swap-within : (a : Atom) (x ty : ℕ) → FlagsVariable m x → (e : Conj) → All Within e → All Within (swap a x ty e)
  unfolding swap
  swap-within a x ty f e h = on_atoms (λ b. cond (same_atom b a) (var x ty) (atom b)) (λ b. left_or x ty f (same_atom b a) b) e h

  subsets-within : (ks : List Atom) (x ty : ℕ) → FlagsVariable m x → (e : Conj) → All Within e → All (All Within) (subsets ks x ty e)
  unfolding subsets
  subsets-within [] x ty f e h = (h, tt)
  subsets-within (a ∷ ks) x ty f e h =
      all_append (All Within) (subsets ks x ty e) (subsets ks x ty (swap a x ty e)) (subsets-within ks x ty f e h)
      (subsets-within ks x ty f (swap a x ty e) (swap-within a x ty f e h))

  before-within : (l : ℕ) (i : Instr) → Flags m (plain i) → (e : Conj) → All Within e → All (All Within) (before l i e)
  unfolding before swap_all
  before-within l (assign a ty r) f e h =
      (all-flat_map Within (replace a (nodes l ty r)) e (all_imp (replace-within a (nodes l ty r) (nodes-within l ty r f)) e h), tt)
  before-within l (store t k i x ty) f e h =
      case (eqb k 1) (λ z. All (All Within) (cond z (swap_all t k x ty e ∷ []) (subsets (loads t k (atoms e)) x ty e)))
      (λ p. (on_atoms (λ b. cond (on_array t k b.src) (var x ty) (atom b)) (λ b. left_or x ty f (on_array t k b.src) b) e h, tt))
      (λ p. subsets-within (loads t k (atoms e)) x ty f e h)
  before-within l (site a ty) f e h = (h, tt)

  renumber-covers : (e : Conj) → Covers m e → Covers m (renumber e)
  unfolding renumber renamed
  renumber-covers e h = within-covers (renumber e) (on_atoms (λ a. atom (renamed (atoms e) a)) (λ b w. w) e (covers-within e h))

  pub rule_covers : (l : ℕ) (i : Instr) → Flags m (plain i) → (S : Conjuncts) → CoversSet m S → Gives (CoversSet m) (back l i S)
  unfolding back
  rule_covers l i f S h =
      rule_every (Covers m) renumber-covers (Covers m) (before l i)
      (λ e c. all_imp within-covers (before l i e) (before-within l i f e (covers-within e c))) S h

  -- ---- one statement, by its kind

  module _ (d : Decoded) where
    -- an operation on two variables
    pub flags_one : (d.kind ≡ 1) ⊎ (d.kind ≡ 6) → FlagsVariable m d.b → Flags m (stmt_from d)
    unfolding stmt_from kind_of
    flags_one (inl e) b = rw e b
    flags_one (inr e) b = rw e b

    pub flags_operation : 2 ≤ d.kind → d.kind ≤ 5 → FlagsVariable m d.b → FlagsVariable m d.c → Flags m (stmt_from d)
    unfolding stmt_from
    flags_operation l h b c = go (kind_of d.kind) (kind-number d.kind)
      where
        go : (k : Kind) → IsNumber k d.kind → Flags m (stmt_for k d)
        go a_number n = tt
        go a_copy n = b
        go (an_operation o) n = (b, c)
        go a_conversion n = b
        go a_read n = tt
        go a_load n = absurd (omega arith)
        go a_store n = c
        go a_site n = tt
        go an_if n = tt
        go an_else n = tt
        go an_end n = tt
        go a_while n = tt
        go a_procedure n = tt
        go a_call n = tt
        go no_kind_lem n = tt

    -- a kind that brings nothing
    pub flags_nothing : (d.kind < 2) ⊎ (5 < d.kind) → d.kind ≢ 1 → d.kind ≢ 6 → d.kind ≢ 8 → d.kind ≢ 9 → Flags m (stmt_from d)
    unfolding stmt_from
    flags_nothing h e₁ e₆ e₈ e₉ = go (kind_of d.kind) (kind-number d.kind)
      where
        go : (k : Kind) → IsNumber k d.kind → Flags m (stmt_for k d)
        go a_number n = tt
        go a_copy n = absurd (e₁ n)
        go (an_operation o) n = absurd (⊎_elim (λ l. omega (arith, operation-least o)) (λ l. omega (arith, operation-most o)) h)
        go a_conversion n = absurd (e₆ n)
        go a_read n = tt
        go a_load n = absurd (e₈ n)
        go a_store n = absurd (e₉ n)
        go a_site n = tt
        go an_if n = tt
        go an_else n = tt
        go an_end n = tt
        go a_while n = tt
        go a_procedure n = tt
        go a_call n = tt
        go no_kind_lem n = tt

  -- ---- the statements of a piece

  pub flags_next : (stmt : ℕ → Stmt) (p i : ℕ) → FlagsAll m stmt p i → Flags m (stmt i) → FlagsAll m stmt p (i + 1)
  flags_next stmt p i h k j l b = go (dec_lt j i)
    where
      go : Dec (j < i) → Flags m (stmt j)
      go (yes g) = h j l g
      go (no g) = let e : j ≡ i = omega arith in subst (λ x. Flags m (stmt x)) (sym e) k

  pub each_flagged : (stmt : ℕ → Stmt) (mate : ℕ → ℕ) (c : Code) (p q : ℕ) → Laid stmt mate c p q → FlagsAll m stmt p q → Each (λ i. Flags m (plain i)) c
  each_flagged stmt mate done p q h k = tt
  each_flagged stmt mate (step l x rest) p q h k =
      let b = laid_le stmt mate rest (suc p) q h.2 in
      (subst (Flags m) h.1 (k p (omega arith) (omega arith)), each_flagged stmt mate rest (suc p) q h.2 (λ i g j. k i (omega arith) j))
  each_flagged stmt mate (branch l v y n rest) p q h k =
      let g = h.1 in
      let b₁ = laid_le stmt mate y (suc p) g.0 g.3 in
      let b₂ = laid_le stmt mate n (suc g.0) g.1 g.4 in
      let b₃ = laid_le stmt mate rest (suc g.1) q g.5 in (
        each_flagged stmt mate y (suc p) g.0 g.3 (λ i a b. k i (omega arith) (omega arith)),
        each_flagged stmt mate n (suc g.0) g.1 g.4 (λ i a b. k i (omega arith) (omega arith)),
        each_flagged stmt mate rest (suc g.1) q g.5 (λ i a b. k i (omega arith) b),
      )
  each_flagged stmt mate (loop l v body rest) p q h k =
      let g = h.1 in
      let b₁ = laid_le stmt mate body (suc p) g.0 g.2 in
      let b₂ = laid_le stmt mate rest (suc g.0) q g.3 in (
        each_flagged stmt mate body (suc p) g.0 g.2 (λ i a b. k i (omega arith) (omega arith)),
        each_flagged stmt mate rest (suc g.0) q g.3 (λ i a b. k i (omega arith) b),
      )

-- more flags
flags_more : (m n : Footprint) → Extends m n → (s : Stmt) → Flags m s → Flags n s
flags_more m n h (plain (assign a ty (number i))) f = tt
flags_more m n h (plain (assign a ty (copy b))) f = λ g. f (h.variables b g)
flags_more m n h (plain (assign a ty (calc o b c))) f = (λ g. f.0 (h.variables b g), λ g. f.1 (h.variables c g))
flags_more m n h (plain (assign a ty (change b u))) f = λ g. f (h.variables b g)
flags_more m n h (plain (assign a ty (read r))) f = tt
flags_more m n h (plain (assign a ty (load t k i))) f = λ g. f (h.arrays t g)
flags_more m n h (plain (store t k i x ty)) f = λ g. f (h.variables x g)
flags_more m n h (plain (site a ty)) f = tt
flags_more m n h (if v) f = tt
flags_more m n h else f = tt
flags_more m n h end f = tt
flags_more m n h (while v) f = tt

pub flags_all_more : (m n : Footprint) → Extends m n → (stmt : ℕ → Stmt) (p q : ℕ) → FlagsAll m stmt p q → FlagsAll n stmt p q
flags_all_more m n h stmt p q k i a b = flags_more m n h (stmt i) (k i a b)
