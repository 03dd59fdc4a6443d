-- The choices from a byte on.
use mathlib.Core.Path.{◌≡◌, refl, ap, ◌∙◌}
use mathlib.Core.List.{List, [], ◌∷◌}
use Prim.Native.Nat.{ℕ, suc, ◌+◌, ◌*◌, ◌≤◌, ◌<◌}
use native.Mathlib.Omega.{arith}
use lib.ListN.{length, get_or, drop, length-drop}
use lib.Seq.{drop-cons}
use Rattle.model.specs.Bytes.{u16_at}
use Rattle.model.specs.Run.{choices_of}
use Rattle.model.specs.Sizes.{choice_size}

short : (s : List ℕ) → length s < choice_size → choices_of s ≡ []
short [] h = refl
short (a ∷ []) h = refl
short (a ∷ b ∷ s) h = absurd (omega arith)

-- fewer than two bytes are left
pub choices-none : (cs : List ℕ) (k : ℕ) → length cs < k + choice_size → choices_of (drop k cs) ≡ []
choices-none cs k h = short (drop k cs) (simp length-drop (omega arith))

-- the next choice
pub choices-next : (cs : List ℕ) (k : ℕ) → k + choice_size ≤ length cs → choices_of (drop k cs) ≡ u16_at cs k ∷ choices_of (drop (k + choice_size) cs)
choices-next cs k h =
    let one : suc k ≡ k + 1 = omega arith in
    let two : suc (suc k) ≡ k + choice_size = omega arith in
    let first = drop-cons cs k 0 (omega arith) in
    let second = drop-cons cs (suc k) 0 (omega arith) in
    ap choices_of (first ∙ ap (λ r. get_or cs k 0 ∷ r) second) ∙ (λ i. (get_or cs k 0 + 256 * get_or cs (one i) 0) ∷ choices_of (drop (two i) cs))
