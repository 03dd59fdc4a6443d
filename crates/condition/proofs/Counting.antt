-- One turn of the pass that counts the n of each field: what a node does to the counts.
use mathlib.Core.Path.{◌≡◌, refl, sym, ◌∙◌, ap, subst}
use mathlib.Core.Bool.{Bool, true, false, ◌&&◌, cond}
use mathlib.Core.List.{List, ◌∷◌}
use Prim.Native.Nat.{ℕ, suc, ◌+◌, ◌*◌, ◌-◌, ◌/◌, ◌≤◌, ◌<◌}
use native.Mathlib.Omega.{arith}
use lib.Dec.{eqb, leb, ltb}
use lib.ListN.{length, get_or, set, replicate}
use borrow.Author.Tests.{eq-eqb, ne_eqb, le-leb, lt-leb, lt-ltb}
use Rattle.model.specs.Sizes.{node_size, most_fields}
use Rattle.model.specs.Lists.{every}
use Rattle.model.specs.Bytes.{entries}
use Rattle.model.proofs.Basics.Tests.{eqb_self}
use Rattle.model.specs.Conjunct.{Source, field, Atom, Conj}
use Rattle.model.specs.Condition.{node_right_lem, numbered}
use Rattle.condition.specs.Answers.{node_by, node_from, right_by_lem, NodeIs, part_nodes}
use Rattle.condition.specs.declared.Node.{Node}
use Rattle.condition.proofs.NodeKinds.{by_node-kind}
use Rattle.condition.proofs.Nodes.{node-is, right_is, right-at, rest, rest-step, rest_all, reading-right, some}
use Rattle.condition.proofs.Numbering.{old, bump, counted, numbered-counted, seen_of, seen_none, seen_bump}

-- nothing is counted yet
pub counted_none : (types s : List ℕ) (n : ℕ) → n ≡ length s / node_size → numbered (part_nodes s) ≡ counted (seen_of types (replicate most_fields 0)) (rest s n 0)
counted_none types s n e = numbered-counted (part_nodes s) ∙ rw (seen_none types most_fields, rest_all s n, e)

-- a node that is no reading
skip_kind : (seen : Source → ℕ) (e : Conj) (ty f i k : ℕ) → (k ≡ 1 → ⊥) → counted seen (node_by k ty f i ∷ e) ≡ counted seen e
unfolding counted node_by
skip_kind seen e ty f i =
    by_node-kind (λ k. (k ≡ 1 → ⊥) → counted seen (node_by k ty f i ∷ e) ≡ counted seen e) (λ h. refl) (λ h. absurd (h refl)) (λ h. refl)
    (λ h. refl) (λ h. refl)
    (λ h. refl) (λ k h. refl)

-- 0 is no n
never : (i m : ℕ) (x y : Bool) → i ≡ 0 → cond (ltb 0 i && leb i m) x (eqb i (suc m) && y) ≡ false
never i m x y e = rw (e, ne_eqb 0 (suc m) (λ f. absurd (omega arith)))

module _ (s : List ℕ) (n k : ℕ) (v : Node) (is : NodeIs v s (node_size * k)) (more : k < n) where
  turn : rest s n k ≡ node_from v ∷ rest s n (k + 1)
  turn = rest-step s n k more ∙ ap (◌∷ rest s n (k + 1)) (node-is v s (node_size * k) is)

  pub counted_skip : (seen : Source → ℕ) → (v.kind ≡ 1 → ⊥) → counted seen (rest s n k) ≡ counted seen (rest s n (k + 1))
  counted_skip seen h = ap (counted seen) turn ∙ skip_kind seen (rest s n (k + 1)) v.ty v.field v.imm v.kind h

  -- a reading of a field that is listed in its type; the counts so far are in the list l
  module _ (types l : List ℕ) (right : every (λ b. b) (entries (node_right_lem types) node_size s 0 n) ≡ true) (reads : v.kind ≡ 1) where
    listed : (v.field < length types) × (v.ty ≡ get_or types v.field 0)
    listed =
        reading-right types v.ty v.field v.imm
        (subst (λ (m : ℕ). right_by_lem types m v.ty v.field v.imm ≡ true) reads
        (sym (right_is types v s (node_size * k) is) ∙ right-at types s n k right more))

    pub field-listed : v.field < length types
    field-listed = listed.0

    reading : Atom
    reading = record { src = field v.field (get_or types v.field 0); n = v.imm }

    seen_at : seen_of types l (field v.field (get_or types v.field 0)) ≡ get_or l v.field 0
    unfolding seen_of
    seen_at = rw (eqb_self (get_or types v.field 0))

    reading-turn : counted (seen_of types l) (rest s n k)
        ≡ cond (ltb 0 v.imm && leb v.imm (get_or l v.field 0)) (counted (seen_of types l) (rest s n (k + 1)))
        (eqb v.imm (suc (get_or l v.field 0)) && counted (bump (seen_of types l) reading) (rest s n (k + 1)))
    unfolding counted node_by old reading
    reading-turn = ap (counted (seen_of types l)) turn ∙ rw (reads, listed.1, seen_at)

    pub counted-zero : v.imm ≡ 0 → counted (seen_of types l) (rest s n k) ≡ false
    counted-zero e = reading-turn
        ∙ never v.imm (get_or l v.field 0) (counted (seen_of types l) (rest s n (k + 1)))
        (counted (bump (seen_of types l) reading) (rest s n (k + 1))) e

    pub counted_met : (v.imm ≡ 0 → ⊥) → v.imm ≤ get_or l v.field 0
        → counted (seen_of types l) (rest s n k) ≡ counted (seen_of types l) (rest s n (k + 1))
    counted_met z h = reading-turn ∙ rw (lt-ltb 0 v.imm (some v.imm z), le-leb v.imm (get_or l v.field 0) h)

    pub counted_jump : get_or l v.field 0 < v.imm → (v.imm - 1 ≡ get_or l v.field 0 → ⊥) → counted (seen_of types l) (rest s n k) ≡ false
    counted_jump h j =
        reading-turn ∙ rw (
          lt-ltb 0 v.imm (omega arith),
          lt-leb v.imm (get_or l v.field 0) h,
          ne_eqb v.imm (suc (get_or l v.field 0)) (λ e. j (omega arith)),
        )

    pub counted_next : length types ≤ length l → get_or l v.field 0 < v.imm → v.imm - 1 ≡ get_or l v.field 0
        → counted (seen_of types l) (rest s n k) ≡ counted (seen_of types (set l v.field v.imm)) (rest s n (k + 1))
    unfolding reading
    counted_next m h j =
        reading-turn
        ∙ rw (lt-ltb 0 v.imm (omega arith), lt-leb v.imm (get_or l v.field 0) h, eq-eqb v.imm (suc (get_or l v.field 0)) (omega arith))
        (ap (λ (S : Source → ℕ). counted S (rest s n (k + 1))) (sym (seen_bump types l v.field v.imm (omega (arith, listed.0)))))

-- every node is counted
pub counted-end : (seen : Source → ℕ) (s : List ℕ) (n k : ℕ) → n ≤ k → counted seen (rest s n k) ≡ true
unfolding counted entries
counted-end seen s n k h = let e : n - k ≡ 0 = omega arith in rw e
