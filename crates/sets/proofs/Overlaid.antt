-- Single words of a list after others were stored over a part of it.
use mathlib.Core.List.{List, [], ◌∷◌}
use mathlib.Core.Path.{◌≡◌, refl, ◌∙◌}
use Prim.Native.Nat.{ℕ, zero, suc, ◌+◌, ◌<◌, ◌≤◌}
use native.Mathlib.Omega.{arith}
use lib.ListN.{length, get_or, set, length-set}
use lib.Seq.{get_or-set_same, get_or-set_other}
use Rattle.bytes_le.specs.Overlay.{overlay}

pub overlay-before : (vs l : List ℕ) (i j : ℕ) → j < i → get_or (overlay l i vs) j 0 ≡ get_or l j 0
unfolding overlay
overlay-before [] l i j h = refl
overlay-before (v ∷ vs) l i j h = overlay-before vs (set l i v) (suc i) j (omega arith) ∙ get_or-set_other l i j v 0 (λ e. omega arith)

pub overlay-beyond : (vs l : List ℕ) (i j : ℕ) → i + length vs ≤ j → get_or (overlay l i vs) j 0 ≡ get_or l j 0
unfolding overlay
overlay-beyond [] l i j h = refl
overlay-beyond (v ∷ vs) l i j h = overlay-beyond vs (set l i v) (suc i) j (omega arith) ∙ get_or-set_other l i j v 0 (λ e. omega arith)

pub overlay-inside : (vs l : List ℕ) (i x : ℕ) → x < length vs → i + length vs ≤ length l → get_or (overlay l i vs) (i + x) 0 ≡ get_or vs x 0
unfolding overlay
overlay-inside [] l i x h k = absurd (omega arith)
overlay-inside (v ∷ vs) l i zero h k =
    let e : i + 0 ≡ i = omega arith in
    rw e (overlay-before vs (set l i v) (suc i) i (omega arith) ∙ get_or-set_same l i v 0 (omega arith))
overlay-inside (v ∷ vs) l i (suc x) h k =
    let e : i + suc x ≡ suc i + x = omega arith in
    let f = length-set l i v in
    rw e (overlay-inside vs (set l i v) (suc i) x (omega arith) (omega arith))
