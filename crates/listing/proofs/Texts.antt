-- Text put to an output part by part, and how many digits a number has.
use mathlib.Core.Path.{◌≡◌, refl, sym, ap, ◌∙◌, subst}
use mathlib.Core.Bool.{Bool, true, false, not, cond}
use mathlib.Core.Logic.{◌⊎◌, ⊎_elim}
use mathlib.Core.List.{List, [], ◌∷◌, ◌++◌, flat_map}
use Prim.Native.Nat.{ℕ, zero, suc, ◌+◌, ◌-◌, ◌*◌, ◌/◌, ◌%◌, ◌≤◌, ◌<◌}
use native.Mathlib.Numerals.{add-one}
use native.Mathlib.Omega.{arith}
use borrow.Author.Tests.{lt-ltb, le-ltb, not-true, not-false}
use lib.Dec.{ltb}
use lib.ListN.{length, set, drop, get_or, length-append, length-set}
use lib.Seq.{drop-cons, length-take-le}
use Rattle.arith.specs.Types.{bits, signed}
use Rattle.arith.specs.Whole.{of_sign}
use Rattle.model.specs.Bytes.{entries}
use Rattle.model.specs.Conjunct.{Conj, Conjuncts}
use Rattle.model.specs.Decimal.{digits, places, decimal, number}
use Rattle.model.specs.Listing.{type_text_lem, node_name, node_type, node_text_lem, line_text, lines_from, listing_text}
use Rattle.bytes_le.specs.Overlay.{overlay}
use Rattle.bytes_le.proofs.Overlays.{overlay-append, length-overlay}
use Rattle.condition.specs.Answers.{node_by, node_from, NodeIs}
use Rattle.condition.specs.declared.Node.{Node}
use Rattle.condition.proofs.Nodes.{rest, rest-step, node-is}
use Rattle.listing.specs.Text.{Room, Puts, Lists}

-- ---- parts

-- one text, and another where it ends
pub puts_then : {a b : List ℕ} {at : ℕ} {l : List ℕ} {m : ℕ} {k : List ℕ} {r : ℕ} {o : List ℕ}
    → Puts a at l m k → Puts b m k r o → Puts (a ++ b) at l r o
puts_then {a} {b} {at} {l} p q = record {
  end = q.end ∙ omega (arith, p.end, length-append a b);
  bytes = q.bytes ∙ rw (p.bytes, p.end) (sym (overlay-append a l at b));
}

-- no text
pub puts_none : (at : ℕ) (l : List ℕ) → Puts [] at l at l
unfolding overlay
puts_none at l = record { end = omega arith; bytes = refl }

-- one byte before a text
pub puts_first : {x : ℕ} {b : List ℕ} {at : ℕ} {l : List ℕ} {r : ℕ} {o : List ℕ} → Puts b (at + 1) (set l at x) r o → Puts (x ∷ b) at l r o
unfolding overlay
puts_first {at = at} q = record { end = q.end ∙ omega arith; bytes = q.bytes ∙ rw (plus_one at) }
  where
    plus_one : (n : ℕ) → n + 1 ≡ suc n
    plus_one n = omega arith

-- one byte
pub puts_byte : (x at : ℕ) (l : List ℕ) → Puts (x ∷ []) at l (at + 1) (set l at x)
puts_byte x at l = puts_first (puts_none (at + 1) (set l at x))

-- the text by another name
pub puts_as : {a b : List ℕ} {at : ℕ} {l : List ℕ} {r : ℕ} {o : List ℕ} → a ≡ b → Puts a at l r o → Puts b at l r o
puts_as {at = at} {l} {r} {o} e = subst (λ t. Puts t at l r o) e

-- no byte is added and none is lost
pub puts-length : {a : List ℕ} {at : ℕ} {l : List ℕ} {r : ℕ} {o : List ℕ} → Puts a at l r o → length o ≡ length l
puts-length {a} {at} {l} p = ap length p.bytes ∙ length-overlay a l at

-- ---- room

-- for the text by another name
pub room_as : {a b : List ℕ} {at : ℕ} {l : List ℕ} → a ≡ b → Room a at l → Room b at l
room_as {at = at} {l} e = subst (λ t. Room t at l) e

-- for the first of two texts
pub room-part : {a : List ℕ} (b : List ℕ) {at : ℕ} {l : List ℕ} → Room (a ++ b) at l → Room a at l
room-part {a} b h = record { fits = omega (arith, length-append a b) }

-- for the second, where the first has been put
pub room_then : {a b : List ℕ} {at : ℕ} {l : List ℕ} {m : ℕ} {k : List ℕ} → Room (a ++ b) at l → Puts a at l m k → Room b m k
room_then {a} {b} h p = record { fits = omega (arith, length-append a b, puts-length p) }

-- for a text behind one byte
pub room-first : {x : ℕ} {b : List ℕ} {at : ℕ} {l : List ℕ} → Room (x ∷ b) at l → Room b (at + 1) (set l at x)
room-first {x} {b} {at} {l} h = record { fits = omega (arith, length-set l at x) }

-- ---- a whole text

-- one for which there was room
pub lists : {a l : List ℕ} {r : ℕ} {o : List ℕ} → Room a 0 l → Puts a 0 l r o → Lists a l r o
lists {r = r} {o} h p =
    let inside : r ≤ length o = omega (arith, puts-length p) in
    record { puts = p; inside = inside; counts = sym (length-take-le r o inside) }

-- none
pub lists_none : (l : List ℕ) → Lists [] l 0 l
lists_none l = lists (record { fits = omega arith }) (puts_none 0 l)

-- ---- text that is put in a loop

-- the rest of a text that was begun: there is room for it, and with it the whole stands
pub record Remains (whole : List ℕ) (at : ℕ) (before : List ℕ) (left : List ℕ) (next : ℕ) (out : List ℕ) : Type 0 where
  pub room : Room left next out
  pub then : (r : ℕ) (o : List ℕ) → Puts left next out r o → Puts whole at before r o

pub remains_next : {w : List ℕ} {at : ℕ} {l left a b : List ℕ} {next : ℕ} {out : List ℕ} {m : ℕ} {k : List ℕ}
    → left ≡ a ++ b → Remains w at l left next out → Puts a next out m k → Remains w at l b m k
remains_next e q p = record { room = room_then (room_as e q.room) p; then = λ r o s. q.then r o (puts_as (sym e) (puts_then p s)) }

pub remains_none : {w : List ℕ} {at : ℕ} {l left : List ℕ} {next : ℕ} {out : List ℕ}
    → left ≡ [] → Remains w at l left next out → Puts w at l next out
remains_none {next = next} {out} e q = q.then next out (puts_as (sym e) (puts_none next out))

-- ---- digits

pub length_digits : (k n : ℕ) → length (digits k n) ≡ k
unfolding digits
length_digits zero n = refl
length_digits (suc k) n = length-append (digits k (n / 10)) ((48 + n % 10) ∷ []) ∙ omega (arith, length_digits k (n / 10))

pub places-one : (k n : ℕ) → n < 10 → places k n ≡ 1
unfolding places
places-one zero n h = refl
places-one (suc k) n h = rw (lt-ltb n 10 h)

pub places_more : (k n : ℕ) → 1 ≤ k → 10 ≤ n → places k n ≡ 1 + places (k - 1) (n / 10)
unfolding places
places_more zero n h g = absurd (omega arith)
places_more (suc k) n h g = let e : suc k - 1 ≡ k = omega arith in rw (le-ltb n 10 g, e) (omega arith)

pub length-decimal : (n : ℕ) → length (decimal n) ≡ places 19 n
unfolding decimal
length-decimal n = length_digits (places 19 n) n

-- ---- signs

number_plus : (b : Bool) (m : ℕ) → b ≡ false → decimal m ≡ number (of_sign b m)
unfolding number
number_plus b m e = rw e refl

number-zero : (b : Bool) (m : ℕ) → b ≡ true → m ≡ 0 → decimal m ≡ number (of_sign b m)
unfolding number
number-zero b m e z = rw (e, z) refl

-- without a sign, or 0
pub number-plain : (b : Bool) (m : ℕ) → (not b ≡ true) ⊎ ((not b ≡ false) × (m ≡ 0)) → decimal m ≡ number (of_sign b m)
number-plain b m = ⊎_elim (λ e. number_plus b m (not-true b e)) (λ e. number-zero b m (not-false b e.0) e.1)

pub number-minus : (b : Bool) (m : ℕ) → b ≡ true → (m ≡ 0 → ⊥) → (45 ∷ decimal m) ≡ number (of_sign b m)
unfolding number
number-minus b zero e h = absurd (h refl)
number-minus b (suc m) e h = rw e refl

-- ---- nodes

-- a type's text, by its letter and the width of the unsigned type
pub type_text : (ty letter width : ℕ) → letter ≡ cond (signed ty) 105 117 → width ≡ bits (ty % 4) → (58 ∷ letter ∷ decimal width) ≡ type_text_lem ty
unfolding type_text_lem bits
type_text ty letter width e w = let m : ty % 4 % 4 ≡ ty % 4 = omega arith in rw (e, w, m) refl

-- a node's name, by its kind
pub name_by : (v : Node) (k : ℕ) → v.kind ≡ k → node_name (node_by k v.ty v.field v.imm) ≡ node_name (node_from v)
name_by v k e = rw e refl

-- a conversion has the kinds from 6 on
pub name_last : (v : Node) → 6 ≤ v.kind → (116 ∷ 111 ∷ []) ≡ node_name (node_from v)
unfolding node_name node_by
name_last v = go v.kind
  where
    go : (k : ℕ) → 6 ≤ k → (116 ∷ 111 ∷ []) ≡ node_name (node_by k v.ty v.field v.imm)
    go zero h = absurd (omega arith)
    go (suc zero) h = absurd (omega arith)
    go (suc (suc zero)) h = absurd (omega arith)
    go (suc (suc (suc zero))) h = absurd (omega arith)
    go (suc (suc (suc (suc zero)))) h = absurd (omega arith)
    go (suc (suc (suc (suc (suc zero))))) h = absurd (omega arith)
    go (suc (suc (suc (suc (suc (suc k)))))) h = refl

-- a node's type
type_by : (k ty f i : ℕ) → node_type (node_by k ty f i) ≡ ty
unfolding node_type node_by
type_by zero ty f i = refl
type_by (suc zero) ty f i = refl
type_by (suc (suc zero)) ty f i = refl
type_by (suc (suc (suc zero))) ty f i = refl
type_by (suc (suc (suc (suc zero)))) ty f i = refl
type_by (suc (suc (suc (suc (suc zero))))) ty f i = refl
type_by (suc (suc (suc (suc (suc (suc k)))))) ty f i = refl

pub node_text : (v : Node) → (32 ∷ (node_name (node_from v) ++ type_text_lem v.ty)) ≡ node_text_lem (node_from v)
unfolding node_text_lem
node_text v = rw (type_by v.kind v.ty v.field v.imm) refl

-- the nodes from the one with number k on, the first of them as it was read
pub nodes-step : (s : List ℕ) (n k : ℕ) (v : Node) → k < n → NodeIs v s (8 * k)
    → flat_map node_text_lem (rest s n k) ≡ node_text_lem (node_from v) ++ flat_map node_text_lem (rest s n (k + 1))
unfolding flat_map
nodes-step s n k v h is = rw (rest-step s n k h, node-is v s (8 * k) is) refl

pub nodes-end : (s : List ℕ) (n k : ℕ) → n ≤ k → flat_map node_text_lem (rest s n k) ≡ []
unfolding flat_map entries
nodes-end s n k h = let e : n - k ≡ 0 = omega arith in rw e refl

-- ---- lines

-- the lines from the one with number i on
abbrev pub lines : Conjuncts → ℕ → List ℕ
lines S i = lines_from i (drop i S)

pub lines_step : (S : Conjuncts) (i : ℕ) (e : Conj) → i < length S → e ≡ get_or S i [] → lines S i ≡ line_text i e ++ lines S (i + 1)
unfolding lines_from
lines_step S i e h is = rw (add-one, drop-cons S i [] h, is) refl

drop_past : {A : Type 0} (l : List A) (i : ℕ) → length l ≤ i → drop i l ≡ []
drop_past [] zero h = refl
drop_past [] (suc i) h = refl
drop_past (x ∷ l) zero h = absurd (omega arith)
drop_past (x ∷ l) (suc i) h = drop_past l i (omega arith)

pub lines_end : (S : Conjuncts) (i : ℕ) → length S ≤ i → lines S i ≡ []
unfolding lines_from
lines_end S i h = rw (drop_past S i h) refl

-- ---- sizes

-- a number has no more digits than were allowed
pub places-most : (k n : ℕ) → places k n ≤ k + 1
unfolding places
places-most zero n = omega arith
places-most (suc k) n = cases (ltb n 10) (places k (n / 10)) (places-most k (n / 10))
  where
    cases : (b : Bool) (m : ℕ) → m ≤ k + 1 → cond b 1 (suc m) ≤ suc k + 1
    cases true m h = omega arith
    cases false m h = omega arith

-- ---- the whole

-- "conjuncts "
abbrev pub name_text : List ℕ
name_text = 99 ∷ 111 ∷ 110 ∷ 106 ∷ 117 ∷ 110 ∷ 99 ∷ 116 ∷ 115 ∷ 32 ∷ []

pub listing_by : (S : Conjuncts) (n : ℕ) → n ≡ length S → name_text ++ (decimal n ++ (10 ∷ lines_from 0 S)) ≡ listing_text S
unfolding listing_text
listing_by S n e = rw e refl
