-- The open blocks in a word: how many there are, one more, the innermost turned, without the innermost.
use mathlib.Core.Path.{◌≡◌, refl, ap, ◌∙◌}
use mathlib.Core.List.{List, [], ◌∷◌}
use Prim.Native.Nat.{ℕ, zero, suc, ◌+◌, ◌-◌, ◌*◌, ◌/◌, ◌%◌, ◌≤◌, ◌<◌, ◌^◌}
use native.Mathlib.Numerals.{add-one}
use native.Mathlib.Omega.{arith}
use lib.ListN.{length}
use Rattle.model.specs.Sizes.{most_nested, most_statements}
use Rattle.model.specs.Refusals.{ok, refused, wrong_blocks}
use Rattle.model.specs.Procedures.{Block, procedure_block, nesting, turning, closing, all_closed}
use Rattle.program.specs.OpenBlocks.{block_codes, block_size, block_of, in_procedures, blocks_in}

-- ---- the size of the word

pub word-most : (n : ℕ) → n ≤ most_nested → block_size ^ n ≤ 0x1_0000_0000_0000
word-most zero h = omega arith
word-most (suc zero) h = omega arith
word-most (suc (suc zero)) h = omega arith
word-most (suc (suc (suc zero))) h = omega arith
word-most (suc (suc (suc (suc zero)))) h = omega arith
word-most (suc (suc (suc (suc (suc n))))) h = absurd (omega arith)

pub word_room : (n w : ℕ) → n < most_nested → w < block_size ^ n → w < 0x10_0000_0000
word_room zero w h k = omega arith
word_room (suc zero) w h k = omega arith
word_room (suc (suc zero)) w h k = omega arith
word_room (suc (suc (suc zero))) w h k = omega arith
word_room (suc (suc (suc (suc n)))) w h k = absurd (omega arith)

pub word_more : (n w d : ℕ) → n < most_nested → w < block_size ^ n → d < block_size → w * block_size + d < block_size ^ (n + 1)
word_more zero w d h k l = omega arith
word_more (suc zero) w d h k l = omega arith
word_more (suc (suc zero)) w d h k l = omega arith
word_more (suc (suc (suc zero))) w d h k l = omega arith
word_more (suc (suc (suc (suc n)))) w d h k l = absurd (omega arith)

pub word_less : (n w : ℕ) → 1 ≤ n → n ≤ most_nested → w < block_size ^ n → w / block_size < block_size ^ (n - 1)
word_less zero w p h k = absurd (omega arith)
word_less (suc zero) w p h k = omega arith
word_less (suc (suc zero)) w p h k = omega arith
word_less (suc (suc (suc zero))) w p h k = omega arith
word_less (suc (suc (suc (suc zero)))) w p h k = omega arith
word_less (suc (suc (suc (suc (suc n))))) w p h k = absurd (omega arith)

-- an if is even, and so its else has room
pub word-turned : (n w : ℕ) → 1 ≤ n → n ≤ most_nested → w < block_size ^ n → w % block_codes ≡ 0 → w + 1 < block_size ^ n
word-turned zero w p h k e = absurd (omega arith)
word-turned (suc zero) w p h k e = omega arith
word-turned (suc (suc zero)) w p h k e = omega arith
word-turned (suc (suc (suc zero))) w p h k e = omega arith
word-turned (suc (suc (suc (suc zero)))) w p h k e = omega arith
word-turned (suc (suc (suc (suc (suc n))))) w p h k e = absurd (omega arith)

-- ---- how many blocks count

pub nesting-procedures : (k : ℕ) (bs : List Block) → nesting (in_procedures k bs) ≡ nesting bs
unfolding in_procedures
nesting-procedures zero bs = refl
nesting-procedures (suc k) bs = nesting-procedures k bs

nesting-one : (k : ℕ) (bs : List Block) → nesting (block_of k ∷ bs) ≡ suc (nesting bs)
unfolding block_of
nesting-one zero bs = refl
nesting-one (suc zero) bs = refl
nesting-one (suc (suc k)) bs = refl

pub nesting-blocks : (n w : ℕ) → nesting (blocks_in n w) ≡ n
unfolding blocks_in
nesting-blocks zero w = refl
nesting-blocks (suc n) w =
    let around = in_procedures (w % block_size / block_codes) (blocks_in n (w / block_size)) in
    nesting-one (w % block_codes) around ∙ ap suc (nesting-procedures (w % block_size / block_codes) (blocks_in n (w / block_size)) ∙ nesting-blocks n (w / block_size))

pub length-procedures : (k : ℕ) (bs : List Block) → length (in_procedures k bs) ≡ k + length bs
unfolding in_procedures
length-procedures zero bs = omega arith
length-procedures (suc k) bs = let e = length-procedures k bs in omega arith

-- ---- one more

pub blocks_more : (n w k inner : ℕ) → k < block_codes → inner < most_statements
    → blocks_in (n + 1) (w * block_size + (inner * block_codes + k)) ≡ block_of k ∷ in_procedures inner (blocks_in n w)
unfolding blocks_in
blocks_more n w k inner h l =
    let v = w * block_size + (inner * block_codes + k) in
    let code : v % block_codes ≡ k = omega arith in
    let around : v % block_size / block_codes ≡ inner = omega arith in
    let outer : v / block_size ≡ w = omega arith in
    rw (add-one n, code, around, outer)

pub procedure_more : (k : ℕ) (bs : List Block) → in_procedures (k + 1) bs ≡ procedure_block ∷ in_procedures k bs
unfolding in_procedures
procedure_more k bs = rw (add-one k)

-- ---- the innermost is a procedure

module _ (k : ℕ) (bs : List Block) (h : 1 ≤ k) where
  inner_first : in_procedures k bs ≡ procedure_block ∷ in_procedures (k - 1) bs
  unfolding in_procedures
  inner_first = let e : k ≡ suc (k - 1) = omega arith in ap (λ (m : ℕ). in_procedures m bs) e

  pub turns_no_procedure : turning (in_procedures k bs) ≡ refused wrong_blocks
  turns_no_procedure = rw inner_first

  pub inner_open : all_closed (in_procedures k bs) ≡ refused wrong_blocks
  inner_open = rw inner_first

  pub closes_procedure : closing (in_procedures k bs) ≡ ok (in_procedures (k - 1) bs)
  closes_procedure = rw inner_first

-- ---- the innermost counts

module _ (n w : ℕ) (h : 1 ≤ n) where
  block-first : blocks_in n w ≡ block_of (w % block_codes) ∷ in_procedures (w % block_size / block_codes) (blocks_in (n - 1) (w / block_size))
  unfolding blocks_in
  block-first = let e : n ≡ suc (n - 1) = omega arith in ap (λ (m : ℕ). blocks_in m w) e

  pub turns_if : w % block_codes ≡ 0 → turning (blocks_in n w) ≡ ok (blocks_in n (w + 1))
  unfolding blocks_in block_of
  turns_if e =
      let code : (w + 1) % block_codes ≡ 1 = omega arith in
      let around : (w + 1) % block_size / block_codes ≡ w % block_size / block_codes = omega arith in
      let outer : (w + 1) / block_size ≡ w / block_size = omega arith in
      let m : n ≡ suc (n - 1) = omega arith in
      rw (m, e, code, around, outer)

  pub turns_other : (w % block_codes ≡ 0 → ⊥) → turning (blocks_in n w) ≡ refused wrong_blocks
  unfolding block_of
  turns_other e = rw block-first (go (w % block_codes) e)
    where
      go : (k : ℕ) → (k ≡ 0 → ⊥) → turning (block_of k ∷ in_procedures (w % block_size / block_codes) (blocks_in (n - 1) (w / block_size))) ≡ refused wrong_blocks
      go zero z = absurd (z refl)
      go (suc zero) z = refl
      go (suc (suc k)) z = refl

  pub closes_no_if : w % block_codes ≡ 0 → closing (blocks_in n w) ≡ refused wrong_blocks
  unfolding block_of
  closes_no_if e = rw (block-first, e)

  pub closes_other : (w % block_codes ≡ 0 → ⊥)
      → closing (blocks_in n w) ≡ ok (in_procedures (w % block_size / block_codes) (blocks_in (n - 1) (w / block_size)))
  unfolding block_of
  closes_other e = rw block-first (go (w % block_codes) e)
    where
      around : List Block
      around = in_procedures (w % block_size / block_codes) (blocks_in (n - 1) (w / block_size))

      go : (k : ℕ) → (k ≡ 0 → ⊥) → closing (block_of k ∷ around) ≡ ok around
      go zero z = absurd (z refl)
      go (suc zero) z = refl
      go (suc (suc k)) z = refl

-- ---- at the end

pub blocks_open : (k n w : ℕ) → 1 ≤ n → all_closed (in_procedures k (blocks_in n w)) ≡ refused wrong_blocks
unfolding in_procedures
blocks_open zero n w h = rw (block-first n w h)
blocks_open (suc k) n w h = refl

pub none_open : (k n w : ℕ) → k ≡ 0 → n ≡ 0 → in_procedures k (blocks_in n w) ≡ []
unfolding in_procedures blocks_in
none_open k n w e f = rw (e, f)
