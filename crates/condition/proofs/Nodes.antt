-- Nodes of a part: by their four numbers, by their kinds, one after the other, and their bytes.
use mathlib.Core.Path.{◌≡◌, refl, sym, ◌∙◌, ap, ap₂}
use mathlib.Core.Bool.{true, false, ◌&&◌}
use mathlib.Core.List.{List, [], ◌∷◌}
use Prim.Native.Nat.{ℕ, zero, suc, ◌+◌, ◌*◌, ◌-◌, ◌/◌, ◌%◌, ◌≤◌, ◌<◌}
use native.Mathlib.Nat.{add_assoc}
use native.Mathlib.Omega.{arith}
use lib.Dec.{eqb, ltb}
use lib.ListN.{length, get_or}
use lib.Seq.{drop-cons}
use borrow.Author.Tests.{eqb-true, ltb-true}
use Rattle.model.specs.Sizes.{node_size}
use Rattle.model.specs.Lists.{every}
use Rattle.model.specs.Bytes.{byte_at, u16_at, u32_at, bytes2, bytes4, part, entries}
use Rattle.model.specs.Conjunct.{Conj, bytes, source_bytes}
use Rattle.model.specs.Condition.{node_at, node_right_lem, type_node, operation, conversion}
use Rattle.model.specs.Refusals.{ok, refused, check, wrong_condition}
use Rattle.model.specs.Program.{type_right}
use Rattle.arith.specs.Step.{fits}
use Rattle.arith.specs.Words.{immediate}
use Rattle.model.proofs.Basics.Tests.{and_left, and_right, true→T}
use Rattle.model.proofs.Basics.Every.{every-at}
use Rattle.model.proofs.Files.Parts.{Narrow, u16_narrow, u32_narrow, get_d_part, get_or-behind, entries-step, entries-get_or, length-entries}
use Rattle.condition.specs.Numbers.{sum_kind, conversion_kind, file_kinds}
use Rattle.condition.specs.Answers.{node_by, node_from, constant_right_lem, reading_right_lem, operation_right_lem, right_by_lem, NodeIs}
use Rattle.condition.specs.declared.Node.{Node}
use Rattle.condition.proofs.NodeKinds.{by_node-form, by_operation, by_step, by_conversion, by_none}

pub some : (m : ℕ) → (m ≡ 0 → ⊥) → 0 < m
some zero h = absurd (h refl)
some (suc m) h = omega arith

-- ---- by four numbers

pub node_by_lem : (s : List ℕ) (a : ℕ) → node_at s a ≡ node_by (byte_at s a) (byte_at s (a + 1)) (u16_at s (a + 2)) (u32_at s (a + 4))
unfolding node_at node_by
node_by_lem s a = refl

pub right_by : (types s : List ℕ) (a : ℕ) → node_right_lem types s a ≡ right_by_lem types (byte_at s a) (byte_at s (a + 1)) (u16_at s (a + 2)) (u32_at s (a + 4))
unfolding node_right_lem right_by_lem
right_by types s a = refl

pub node-is : (v : Node) (s : List ℕ) (a : ℕ) → NodeIs v s a → node_at s a ≡ node_from v
node-is v s a h = node_by_lem s a ∙ rw (h.kind, h.type, h.source, h.number)

pub right_is : (types : List ℕ) (v : Node) (s : List ℕ) (a : ℕ) → NodeIs v s a
    → node_right_lem types s a ≡ right_by_lem types v.kind v.ty v.field v.imm
right_is types v s a h = right_by types s a ∙ rw (h.kind, h.type, h.source, h.number)

-- the answer of a reader of nodes
pub node-passes : (types : List ℕ) (v : Node) (s : List ℕ) (a : ℕ) → NodeIs v s a → right_by_lem types v.kind v.ty v.field v.imm ≡ true
    → ok (node_from v) ≡ check (node_right_lem types s a) wrong_condition (ok (node_at s a))
node-passes types v s a h r = rw (right_is types v s a h ∙ r, node-is v s a h)

pub node-fails : (types : List ℕ) (v : Node) (s : List ℕ) (a : ℕ) → NodeIs v s a → right_by_lem types v.kind v.ty v.field v.imm ≡ false
    → refused wrong_condition ≡ check (node_right_lem types s a) wrong_condition (ok (node_at s a))
node-fails types v s a h r = rw (right_is types v s a h ∙ r)

-- ---- in a part

u16_behind : (s : List ℕ) (o n a k : ℕ) → a + k + 2 ≤ n → u16_at (part s o n) (a + k) ≡ u16_at s (o + a + k)
u16_behind s o n a k h = u16_narrow s o n (a + k) h ∙ ap (u16_at s) (sym (add_assoc o a k))

u32_behind : (s : List ℕ) (o n a k : ℕ) → a + k + 4 ≤ n → u32_at (part s o n) (a + k) ≡ u32_at s (o + a + k)
u32_behind s o n a k h = u32_narrow s o n (a + k) h ∙ ap (u32_at s) (sym (add_assoc o a k))

pub node-narrow : Narrow node_at node_size
node-narrow s o n a h =
    node_by_lem (part s o n) a
    ∙ rw (
      u32_behind s o n a 4 (omega arith),
      u16_behind s o n a 2 (omega arith),
      get_or-behind s o n a 1 (omega arith),
      get_d_part s o n a (omega arith),
    ) (sym (node_by_lem s (o + a)))

pub right-narrow : (types : List ℕ) → Narrow (node_right_lem types) node_size
right-narrow types s o n a h =
    right_by types (part s o n) a
    ∙ rw (
      u32_behind s o n a 4 (omega arith),
      u16_behind s o n a 2 (omega arith),
      get_or-behind s o n a 1 (omega arith),
      get_d_part s o n a (omega arith),
    ) (sym (right_by types s (o + a)))

-- ---- one after the other

-- the nodes from the one with number k on
abbrev pub rest : List ℕ → ℕ → ℕ → Conj
rest s n k = entries node_at node_size s (node_size * k) (n - k)

pub rest-step : (s : List ℕ) (n k : ℕ) → k < n → rest s n k ≡ node_at s (node_size * k) ∷ rest s n (k + 1)
rest-step s n k h = entries-step node_at node_size s (node_size * k) (node_size * (k + 1)) (n - k) (n - (k + 1)) (omega arith) (omega arith)

pub rest_all : (s : List ℕ) (n : ℕ) → rest s n 0 ≡ entries node_at node_size s 0 n
rest_all s n = let e : n - 0 ≡ n = omega arith in rw e

-- the node with a number has its form
pub right-at : (types s : List ℕ) (n k : ℕ) → every (λ b. b) (entries (node_right_lem types) node_size s 0 n) ≡ true → k < n → node_right_lem types s (node_size * k) ≡ true
right-at types s n k h l =
    let e : 0 + node_size * k ≡ node_size * k = omega arith in
    sym (entries-get_or (node_right_lem types) node_size s n 0 k false l ∙ ap (node_right_lem types s) e)
    ∙ every-at (λ b. b) false (entries (node_right_lem types) node_size s 0 n) h k (omega (arith, length-entries (node_right_lem types) node_size s n 0))

-- ---- by kinds

module _ (ty f i : ℕ) (st : List ℕ) where
  pub push_kind : (k : ℕ) → k < sum_kind → type_node (node_by k ty f i) st ≡ ok (ty ∷ st)
  unfolding node_by type_node
  push_kind zero h = refl
  push_kind (suc zero) h = refl
  push_kind (suc (suc k)) h = absurd (omega arith)

  pub operation-kind : (k : ℕ) → sum_kind ≤ k → k < conversion_kind → type_node (node_by k ty f i) st ≡ operation ty st
  unfolding node_by type_node
  operation-kind = by_operation (λ k. type_node (node_by k ty f i) st ≡ operation ty st) refl refl refl refl

  pub conversion-kind : (k : ℕ) → conversion_kind ≤ k → type_node (node_by k ty f i) st ≡ conversion ty st
  unfolding node_by type_node
  conversion-kind = by_conversion (λ k. type_node (node_by k ty f i) st ≡ conversion ty st) (λ k. refl)

-- the form of each kind
module _ (types : List ℕ) (ty f i : ℕ) where
  pub constant_form : (k : ℕ) → k ≡ 0 → right_by_lem types k ty f i ≡ constant_right_lem ty f i
  unfolding right_by_lem
  constant_form k e = rw e

  pub reading-form : (k : ℕ) → k ≡ 1 → right_by_lem types k ty f i ≡ reading_right_lem types ty f
  unfolding right_by_lem
  reading-form k e = rw e

  pub operation-form : (k : ℕ) → (k ≡ 0 → ⊥) → (k ≡ 1 → ⊥) → k < file_kinds → right_by_lem types k ty f i ≡ operation_right_lem ty f i
  unfolding right_by_lem
  operation-form k g h l = by_step (λ k. right_by_lem types k ty f i ≡ operation_right_lem ty f i) refl refl refl refl refl k (omega (arith, g, h)) l

  pub no_form : (k : ℕ) → file_kinds ≤ k → right_by_lem types k ty f i ≡ false
  unfolding right_by_lem
  no_form = by_none (λ k. right_by_lem types k ty f i ≡ false) (λ k. refl)

-- a reading's field is listed, in its type
pub reading-right : (types : List ℕ) (ty f i : ℕ) → right_by_lem types 1 ty f i ≡ true → (f < length types) × (ty ≡ get_or types f 0)
unfolding right_by_lem
reading-right types ty f i h = (
  ltb-true f (length types) (and_left (ltb f (length types)) (eqb ty (get_or types f 0)) h),
  eqb-true ty (get_or types f 0) (and_right (ltb f (length types)) (eqb ty (get_or types f 0)) h),
)

-- ---- their bytes

-- the first byte of a part
part_cons : (s : List ℕ) (a b n : ℕ) → b ≡ a + 1 → a < length s → part s a (suc n) ≡ get_or s a 0 ∷ part s b n
part_cons s a b n e h = let f : suc a ≡ b = omega arith in rw (drop-cons s a 0 h, f)

-- eight bytes from a place on
eight : (s : List ℕ) (a : ℕ) → a + 8 ≤ length s
    → part s a 8 ≡ get_or s a 0 ∷ get_or s (a + 1) 0 ∷ get_or s (a + 2) 0 ∷ get_or s (a + 3) 0 ∷ get_or s (a + 4) 0 ∷ get_or s (a + 5) 0 ∷ get_or s
    (a + 6) 0 ∷ get_or s (a + 7) 0 ∷ []
eight s a h =
    part_cons s a (a + 1) 7 refl (omega arith)
    ∙ ap (get_or s a 0 ∷◌) (part_cons s (a + 1) (a + 2) 6 (omega arith) (omega arith)
    ∙ ap (get_or s (a + 1) 0 ∷◌) (part_cons s (a + 2) (a + 3) 5 (omega arith) (omega arith)
    ∙ ap (get_or s (a + 2) 0 ∷◌) (part_cons s (a + 3) (a + 4) 4 (omega arith) (omega arith)
    ∙ ap (get_or s (a + 3) 0 ∷◌) (part_cons s (a + 4) (a + 5) 3 (omega arith) (omega arith)
    ∙ ap (get_or s (a + 4) 0 ∷◌) (part_cons s (a + 5) (a + 6) 2 (omega arith) (omega arith)
    ∙ ap (get_or s (a + 5) 0 ∷◌) (part_cons s (a + 6) (a + 7) 1 (omega arith) (omega arith)
    ∙ ap (get_or s (a + 6) 0 ∷◌) (part_cons s (a + 7) (a + 8) 0 (omega arith) (omega arith))))))))

module _ (types : List ℕ) (ty c d e f g h : ℕ) (lc : c < 256) (le : e < 256) (lf : f < 256) (lg : g < 256) where
  two : bytes2 (c + 256 * d) ≡ c ∷ d ∷ []
  unfolding bytes2
  two = ap₂ (λ (x y : ℕ). x ∷ y ∷ []) (omega arith) (omega arith)

  number : ℕ
  number = e + 256 * (f + 256 * (g + 256 * h))

  four : bytes4 number ≡ e ∷ f ∷ g ∷ h ∷ []
  unfolding bytes4 number
  four = λ i. x0 i ∷ x1 i ∷ x2 i ∷ x3 i ∷ []
    where
      m : ℕ
      m = e + 256 * (f + 256 * (g + 256 * h))

      x0 : m % 256 ≡ e
      x0 = omega arith

      x1 : m / 256 % 256 ≡ f
      x1 = omega arith

      x2 : m / 65536 % 256 ≡ g
      x2 = omega arith

      x3 : m / 16777216 ≡ h
      x3 = omega arith

  -- where only the type is used
  blank : (k : ℕ) → (type_right ty && eqb (c + 256 * d) 0 && eqb number 0) ≡ true
      → k ∷ ty ∷ 0 ∷ 0 ∷ 0 ∷ 0 ∷ 0 ∷ 0 ∷ [] ≡ k ∷ ty ∷ c ∷ d ∷ e ∷ f ∷ g ∷ h ∷ []
  unfolding number
  blank k right = λ i. k ∷ ty ∷ xc i ∷ xd i ∷ xe i ∷ xf i ∷ xg i ∷ xh i ∷ []
    where
      m : ℕ
      m = e + 256 * (f + 256 * (g + 256 * h))

      z : c + 256 * d ≡ 0
      z = eqb-true (c + 256 * d) 0 (and_right (type_right ty) (eqb (c + 256 * d) 0) (and_left (type_right ty && eqb (c + 256 * d) 0) (eqb m 0) right))

      w : e + 256 * (f + 256 * (g + 256 * h)) ≡ 0
      w = eqb-true m 0 (and_right (type_right ty && eqb (c + 256 * d) 0) (eqb m 0) right)

      xc : 0 ≡ c
      xc = omega (arith, z)

      xd : 0 ≡ d
      xd = omega (arith, z)

      xe : 0 ≡ e
      xe = omega (arith, w)

      xf : 0 ≡ f
      xf = omega (arith, w)

      xg : 0 ≡ g
      xg = omega (arith, w)

      xh : 0 ≡ h
      xh = omega (arith, w)

  constant_bytes : (type_right ty && eqb (c + 256 * d) 0 && fits ty (immediate ty number)) ≡ true
      → 0 ∷ ty ∷ 0 ∷ 0 ∷ bytes4 number ≡ 0 ∷ ty ∷ c ∷ d ∷ e ∷ f ∷ g ∷ h ∷ []
  constant_bytes right = λ i. 0 ∷ ty ∷ xc i ∷ xd i ∷ four i
    where
      z : c + 256 * d ≡ 0
      z = eqb-true (c + 256 * d) 0
          (and_right (type_right ty) (eqb (c + 256 * d) 0) (and_left (type_right ty && eqb (c + 256 * d) 0) (fits ty (immediate ty number)) right))

      xc : 0 ≡ c
      xc = omega (arith, z)

      xd : 0 ≡ d
      xd = omega (arith, z)

  bytes_eight : (k : ℕ) → right_by_lem types k ty (c + 256 * d) number ≡ true
      → bytes (node_by k ty (c + 256 * d) number) ≡ k ∷ ty ∷ c ∷ d ∷ e ∷ f ∷ g ∷ h ∷ []
  unfolding right_by_lem node_by bytes source_bytes
  bytes_eight =
      by_node-form (λ k. right_by_lem types k ty (c + 256 * d) number ≡ true
      → bytes (node_by k ty (c + 256 * d) number) ≡ k ∷ ty ∷ c ∷ d ∷ e ∷ f ∷ g ∷ h ∷ [])
      constant_bytes (λ right. rw (two, four)) (blank 2) (blank 3) (blank 4) (blank 5) (blank 6) (λ k right. absurd (true→T right))

-- the bytes of a node in its form are those that stand at its place
pub node-bytes : (types s : List ℕ) (a : ℕ) → ((i : ℕ) → get_or s i 0 < 256) → node_right_lem types s a ≡ true → a + node_size ≤ length s
    → bytes (node_at s a) ≡ part s a node_size
unfolding number
node-bytes types s a small right fits' =
    let e1 : a + 2 + 1 ≡ a + 3 = omega arith in
    let e2 : a + 4 + 1 ≡ a + 5 = omega arith in
    let e3 : a + 4 + 2 ≡ a + 6 = omega arith in
    let e4 : a + 4 + 3 ≡ a + 7 = omega arith in
    ap bytes (node_by_lem s a)
    ∙ rw (e1, e2, e3, e4)
    (bytes_eight types (get_or s (a + 1) 0) (get_or s (a + 2) 0) (get_or s (a + 3) 0) (get_or s (a + 4) 0) (get_or s (a + 5) 0) (get_or s (a + 6) 0)
    (get_or s (a + 7) 0)
    (small (a + 2)) (small (a + 4)) (small (a + 5)) (small (a + 6)) (get_or s a 0) (rw (e1, e2, e3, e4) at (sym (right_by types s a) ∙ right))
    ∙ sym (eight s a fits'))
