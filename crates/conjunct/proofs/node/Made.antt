-- The words that the functions make.
use mathlib.Core.Bool.{true, cond}
use mathlib.Core.Logic.{◌⊎◌, inl, inr}
use mathlib.Core.Path.{◌≡◌, sym, ap, ap₂, ◌∙◌}
use Prim.Native.Nat.{ℕ, ◌+◌, ◌-◌, ◌*◌, ◌/◌, ◌%◌, ◌<◌, ◌≤◌, ◌^◌}
use native.Mathlib.Omega.{arith}
use lib.Dec.{ltb, leb}
use borrow.Author.Tests.{lt-ltb, le-ltb, leb-true, ltb-true}
use Rattle.model.proofs.Basics.LittleEndian.{four_back}
use Rattle.model.proofs.Basics.Tests.{case}
use Rattle.model.specs.Conjunct.{field, cell, const, atom, var, op, conv}
use Rattle.model.specs.Values.{Operation, add, sub, mul, div, operation_kind}
use Rattle.conjunct.proofs.node.Shapes.{is_number, is-reading, is-add, is-sub, is_mul, is-div, is-change, is-variable, is-load}
use Rattle.conjunct.specs.Word.{low4, mid2, is_atom_lem, source_of, key_of, node_of, first_conversion, first_load, first_reading, first_sum}
use Rattle.conjunct.specs.Word.{first_variable, place2, place3, place4, place5, place6, place7, variable_kind, load_kind}

-- four digits in the other order, twice
low4-digits : (h a b c d : ℕ) → a < 256 → b < 256 → c < 256 → d < 256
    → low4 (h * place4 + (d + 256 * (c + 256 * (b + 256 * a)))) ≡ a + 256 * (b + 256 * (c + 256 * d))
low4-digits h a b c d ha hb hc hd =
    let w = h * place4 + (d + 256 * (c + 256 * (b + 256 * a))) in
    let p : w % 256 ≡ d = omega arith in
    let q1 : w / 256 ≡ c + 256 * (b + 256 * (a + 256 * h)) = omega arith in
    let q : (c + 256 * (b + 256 * (a + 256 * h))) % 256 ≡ c = omega arith in
    let r1 : w / place2 ≡ b + 256 * (a + 256 * h) = omega arith in
    let r : (b + 256 * (a + 256 * h)) % 256 ≡ b = omega arith in
    let s1 : w / place3 ≡ a + 256 * h = omega arith in
    let s : (a + 256 * h) % 256 ≡ a = omega arith in
    rw (p, q1, q, r1, r, s1, s)

pub low4-back : (h v : ℕ) → v < place4 → low4 (h * place4 + low4 v) ≡ v
low4-back h v m =
    let s : v / place3 % 256 ≡ v / place3 = omega arith in
    let e : v % 256 + 256 * (v / 256 % 256 + 256 * (v / place2 % 256 + 256 * (v / place3 % 256))) ≡ v = rw s (four_back v) in
    low4-digits h (v % 256) (v / 256 % 256) (v / place2 % 256) (v / place3 % 256) (omega arith) (omega arith) (omega arith) (omega arith) ∙ e

low4-small : (v : ℕ) → low4 v < place4
low4-small v = omega arith

pub made_constant : (ty imm : ℕ) → ty < place3 → imm < place4 → node_of (ty * place4 + low4 imm) ≡ const ty imm
made_constant ty imm h k =
    let w = ty * place4 + low4 imm in
    let s = low4-small imm in
    let e : w / place4 ≡ ty = omega arith in
    is_number w (omega arith) ∙ ap₂ const e (low4-back ty imm k)

pub made-zero : (ty : ℕ) → ty < place3 → node_of (ty * place4) ≡ const ty 0
made-zero ty h =
    let e : ty * place4 ≡ ty * place4 + low4 0 = omega arith in
    ap node_of e ∙ made_constant ty 0 h (omega arith)

-- the type of a variable, of a reading, of a load
variable-type : (ty z : ℕ) → ty < place3 → z < place4 → (first_variable + ty * place4 + z) / place4 % place3 ≡ ty
variable-type ty z h k =
    let e : (first_variable + ty * place4 + z) / place4 ≡ variable_kind + ty = omega arith in
    let f : (variable_kind + ty) % place3 ≡ ty = omega arith in
    rw (e, f)

reading-type : (ty a b : ℕ) → ty < 256 → a < 256 → b < 256 → (place7 + ty * place6 + a * place5 + b * place4) / place6 % 256 ≡ ty
reading-type ty a b h k l =
    let e : (place7 + ty * place6 + a * place5 + b * place4) / place6 ≡ 256 + ty = omega arith in
    let f : (256 + ty) % 256 ≡ ty = omega arith in
    rw (e, f)

load-type : (ty a b c : ℕ) → a < 256 → b < 256 → c < place4 → (first_load + ty * place6 + a * place5 + b * place4 + c) / place6 - load_kind ≡ ty
load-type ty a b c h k l =
    let e : (first_load + ty * place6 + a * place5 + b * place4 + c) / place6 ≡ load_kind + ty = omega arith in
    rw e (omega arith)

-- n alone
low4-top : (q n : ℕ) → n < 256 → low4 (q * place4 + n * place3) ≡ n
low4-top q n h =
    let e : q * place4 + n * place3 ≡ q * place4 + (0 + 256 * (0 + 256 * (0 + 256 * n))) = omega arith in
    let f : n + 256 * (0 + 256 * (0 + 256 * 0)) ≡ n = omega arith in
    ap low4 e ∙ low4-digits q n 0 0 0 h (omega arith) (omega arith) (omega arith) ∙ f

-- the array, its length and n of a load
load-parts : (q n r k : ℕ) → n < 256 → r < 256 → k < place2 →
    (((q * place4 + n * place3 + (r * place2 + k)) / place2 % 256 ≡ r) × ((q * place4 + n * place3 + (r * place2 + k)) % place2 ≡ k)
    × ((q * place4 + n * place3 + (r * place2 + k)) / place3 % 256 ≡ n))
load-parts q n r k h i j =
    let a : (q * place4 + n * place3 + (r * place2 + k)) / place2 ≡ r + 256 * (n + 256 * q) = omega arith in
    let b : (r + 256 * (n + 256 * q)) % 256 ≡ r = omega arith in
    let c : (q * place4 + n * place3 + (r * place2 + k)) / place3 ≡ n + 256 * q = omega arith in
    let d : (n + 256 * q) % 256 ≡ n = omega arith in
    (rw (a, b), omega arith, rw (c, d))

pub made-variable : (x ty : ℕ) → x < place4 → ty < place3 → node_of (first_variable + ty * place4 + low4 x) ≡ var x ty
made-variable x ty h k =
    let w = first_variable + ty * place4 + low4 x in
    let s = low4-small x in
    let f : w ≡ (variable_kind + ty) * place4 + low4 x = omega arith in
    let e : w / place4 % place3 ≡ ty = variable-type ty (low4 x) k s in
    is-variable w (omega arith) (omega arith) ∙ ap₂ var (ap low4 f ∙ low4-back (variable_kind + ty) x h) e

mid2-back : (f h l : ℕ) → f < place2 → l < place4 → mid2 (h * place6 + f % 256 * place5 + f / 256 * place4 + l) ≡ f
mid2-back f h l hf hl =
    let w = h * place6 + f % 256 * place5 + f / 256 * place4 + l in
    let p : w / place4 ≡ f / 256 + 256 * (f % 256 + 256 * h) = omega arith in
    let q : w / place5 ≡ f % 256 + 256 * h = omega arith in
    let r : (f / 256 + 256 * (f % 256 + 256 * h)) % 256 ≡ f / 256 = omega arith in
    let s : (f % 256 + 256 * h) % 256 ≡ f % 256 = omega arith in
    let t : f % 256 + 256 * (f / 256) ≡ f = omega arith in
    rw (p, q, r, s) t

pub made-reading : (f ty : ℕ) → f < place2 → ty < 256
    → node_of (place7 + ty * place6 + f % 256 * place5 + f / 256 * place4) ≡ atom (record { src = field f ty; n = 0 })
made-reading f ty h k =
    let w = place7 + ty * place6 + f % 256 * place5 + f / 256 * place4 in
    let lo : first_reading ≤ w = omega arith in
    let hi : w < first_sum = omega arith in
    let g : w ≡ (256 + ty) * place6 + f % 256 * place5 + f / 256 * place4 + 0 = omega arith in
    let m : mid2 w ≡ f = ap mid2 g ∙ mid2-back f (256 + ty) 0 h (omega arith) in
    let t : w / place6 % 256 ≡ ty = reading-type ty (f % 256) (f / 256) k (omega arith) (omega arith) in
    let z : w ≡ (place3 + ty * place2 + f % 256 * 256 + f / 256) * place4 + 0 * place3 = omega arith in
    let n : low4 w ≡ 0 = ap low4 z ∙ low4-top (place3 + ty * place2 + f % 256 * 256 + f / 256) 0 (omega arith) in
    is-reading w lo hi ∙ λ i. atom (record { src = field (m i) (t i); n = n i })

pub made-load : (l r k ty : ℕ) → l < place2 → r < 256 → k < place2 → ty < 256
    → node_of (first_load + ty * place6 + l % 256 * place5 + l / 256 * place4 + r * place2 + k) ≡ atom (record { src = cell l r k ty; n = 0 })
made-load l r k ty hl hr hk ht =
    let w = first_load + ty * place6 + l % 256 * place5 + l / 256 * place4 + r * place2 + k in
    let g : w ≡ (load_kind + ty) * place6 + l % 256 * place5 + l / 256 * place4 + (r * place2 + k) = omega arith in
    let g' : w ≡ first_load + ty * place6 + l % 256 * place5 + l / 256 * place4 + (r * place2 + k) = omega arith in
    let m : mid2 w ≡ l = ap mid2 g ∙ mid2-back l (load_kind + ty) (r * place2 + k) hl (omega arith) in
    let t : w / place6 - load_kind ≡ ty =
    ap (λ v. v / place6 - load_kind) g' ∙ load-type ty (l % 256) (l / 256) (r * place2 + k) (omega arith) (omega arith) (omega arith) in
    let f : w ≡ ((load_kind + ty) * place2 + l % 256 * 256 + l / 256) * place4 + 0 * place3 + (r * place2 + k) = omega arith in
    let u = load-parts ((load_kind + ty) * place2 + l % 256 * 256 + l / 256) 0 r k (omega arith) hr hk in
    let a : w / place2 % 256 ≡ r = ap (λ v. v / place2 % 256) f ∙ u.0 in
    let b : w % place2 ≡ k = ap (λ v. v % place2) f ∙ u.1 in
    let n : w / place3 % 256 ≡ 0 = ap (λ v. v / place3 % 256) f ∙ u.2 in
    is-load w (omega arith) ∙ λ i. atom (record { src = cell (m i) (a i) (b i) (t i); n = n i })

pub made-operation : (k ty : ℕ) → ty < first_reading → (o : Operation) → operation_kind o ≡ k → node_of (k * place7 + ty) ≡ op o ty
made-operation k ty h add e =
    let t : (k * place7 + ty) % place7 ≡ ty = omega arith in is-add (k * place7 + ty) (omega arith) (omega arith) ∙ ap (op add) t
made-operation k ty h sub e =
    let t : (k * place7 + ty) % place7 ≡ ty = omega arith in is-sub (k * place7 + ty) (omega arith) (omega arith) ∙ ap (op sub) t
made-operation k ty h mul e =
    let t : (k * place7 + ty) % place7 ≡ ty = omega arith in is_mul (k * place7 + ty) (omega arith) (omega arith) ∙ ap (op mul) t
made-operation k ty h div e =
    let t : (k * place7 + ty) % place7 ≡ ty = omega arith in is-div (k * place7 + ty) (omega arith) (omega arith) ∙ ap (op div) t

pub made-conversion : (ty : ℕ) → ty < first_reading → node_of (first_conversion + ty) ≡ conv ty
made-conversion ty h =
    let t : (first_conversion + ty) % place7 ≡ ty = omega arith in is-change (first_conversion + ty) (omega arith) (omega arith) ∙ ap conv t

-- ---- another n

-- an atom's word by its parts
parts : (w : ℕ) → w ≡ w / place4 * place4 + w / place3 % 256 * place3 + (w / place2 % 256 * place2 + w % place2)
parts w =
    let a : w / place2 ≡ w / place3 * 256 + w / place2 % 256 = omega arith in
    let b : w / place3 ≡ w / place4 * 256 + w / place3 % 256 = omega arith in
    let c : w ≡ w / place2 * place2 + w % place2 = omega arith in
    go (w / place2) (w / place3) (w / place4) (w / place2 % 256) (w / place3 % 256) (w % place2) w a b c
  where
    go : (x y z r n k v : ℕ) → x ≡ y * 256 + r → y ≡ z * 256 + n → v ≡ x * place2 + k → v ≡ z * place4 + n * place3 + (r * place2 + k)
    go x y z r n k v a b c = omega arith

module _ (w n : ℕ) (h : n < 256) where
  -- the upper half is as it was
  upper_same : (v x y : ℕ) → x < place4 → y < place4 → w ≡ v * place4 + x
      → ((v * place4 + y) / place4 ≡ w / place4) × ((v * place4 + y) / place5 ≡ w / place5) × ((v * place4 + y) / place6 ≡ w / place6)
  upper_same v x y i j e = (omega arith, omega arith, omega arith)

  pub number-reading : first_reading ≤ w → w < first_sum
      → node_of (key_of w + n * place3) ≡ atom (record { src = source_of w; n = n })
  unfolding key_of source_of
  number-reading l u =
      let v = w / place4 * place4 + n * place3 in
      let z : w - w % place4 + n * place3 ≡ v = omega arith in
      let s = upper_same (w / place4) (w % place4) (n * place3) (omega arith) (omega arith) (omega arith) in
      let m : mid2 v ≡ mid2 w = ap₂ (λ a b. a % 256 + 256 * (b % 256)) s.1 s.0 in
      let t : v / place6 % 256 ≡ w / place6 % 256 = ap (◌% 256) s.2 in
      let e : low4 v ≡ n = low4-top (w / place4) n h in
      rw (lt-ltb w first_sum u, z) (is-reading v (omega arith) (omega arith) ∙ λ i. atom (record { src = field (m i) (t i); n = e i }))

  pub number-load : first_load ≤ w → node_of (key_of w + n * place3) ≡ atom (record { src = source_of w; n = n })
  unfolding key_of source_of
  number-load l =
      let r = w / place2 % 256 in
      let k = w % place2 in
      let v = w / place4 * place4 + n * place3 + (r * place2 + k) in
      let lo : first_load ≤ v = omega arith in
      let no : first_sum ≤ w = omega arith in
      let y = n * place3 + (r * place2 + k) in
      let z : w - w / place3 % 256 * place3 + n * place3 ≡ v = omega (arith, parts w) in
      let g : w / place4 * place4 + y ≡ v = omega arith in
      let s = upper_same (w / place4) (w % place4) y (omega arith) (omega arith) (omega arith) in
      let m : mid2 v ≡ mid2 w = ap mid2 (sym g) ∙ ap₂ (λ a b. a % 256 + 256 * (b % 256)) s.1 s.0 in
      let t : v / place6 - load_kind ≡ w / place6 - load_kind = ap (λ x. x / place6 - load_kind) (sym g) ∙ ap (◌- load_kind) s.2 in
      let u = load-parts (w / place4) n r k h (omega arith) (omega arith) in
      rw (le-ltb w first_sum no, z) (is-load v lo ∙ λ i. atom (record { src = cell (m i) (u.0 i) (u.1 i) (t i); n = u.2 i }))

-- an atom's word is a reading's or a load's
pub atom_side : (w : ℕ) → is_atom_lem w ≡ true → ((first_reading ≤ w) × (w < first_sum)) ⊎ (first_load ≤ w)
unfolding is_atom_lem
atom_side w a =
    case (ltb w first_sum) (λ z. cond z (leb first_reading w) (leb first_load w) ≡ true → ((first_reading ≤ w) × (w < first_sum)) ⊎ (first_load ≤ w))
    (λ p q. inl (leb-true place7 w q, ltb-true w first_sum p)) (λ p q. inr (leb-true first_load w q)) a

pub made-numbered : (w n : ℕ) → is_atom_lem w ≡ true → n < 256 → node_of (key_of w + n * place3) ≡ atom (record { src = source_of w; n = n })
made-numbered w n a h = go (atom_side w a)
  where
    go : ((first_reading ≤ w) × (w < first_sum)) ⊎ (first_load ≤ w) → node_of (key_of w + n * place3) ≡ atom (record { src = source_of w; n = n })
    go (inl (l, u)) = number-reading w n h l u
    go (inr l) = number-load w n h l

pub key_fits : (w n : ℕ) → n < 256 → w < 2 ^ 64 → key_of w + n * place3 < 2 ^ 64
unfolding key_of
key_fits w n h k =
    case (ltb w first_sum) (λ z. cond z (w - w % place4) (w - w / place3 % 256 * place3) + n * place3 < 2 ^ 64)
    (λ p. omega arith) (λ p. omega (arith, parts w))
