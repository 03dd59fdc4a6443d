-- The rule at the program's start, conjunct by conjunct from the first to the last: it never refuses a set that a region holds.
use mathlib.Core.Bool.{Bool, true, false}
use mathlib.Core.List.{List, [], ◌∷◌, map}
use mathlib.Core.Logic.{inr}
use mathlib.Core.Path.{◌≡◌, sym, ap, ap₂, ◌∙◌}
use Prim.Native.Nat.{ℕ, ◌+◌, ◌≤◌, ◌<◌}
use native.Mathlib.Omega.{arith}
use lib.ListN.{length, get_or, take, length-map}
use lib.Seq.{take-length, length-take-le}
use Rattle.model.specs.Conjunct.{Conj, Conjuncts, with_conjunct, union_of, atom, atoms, renamed, on_atom_lem, renumber}
use Rattle.model.specs.Lists.{All}
use Rattle.model.specs.Refusals.{ok}
use Rattle.model.specs.Sizes.{most_nodes}
use Rattle.model.specs.Walk.{zeroed, gather, start}
use Rattle.model.specs.TidySets.{Fine}
use Rattle.model.proofs.Conjuncts.Canonical.{insert_length}
use Rattle.model.proofs.Conjuncts.Gather.{gather-every}
use Rattle.model.proofs.Conjuncts.Limits.{fine-limits, all_short}
use Rattle.sets.specs.Region.{region_words, set_of, Within, Inserted}
use Rattle.sets.proofs.Rows.{set-few, frame}
use Rattle.rules.proofs.Gathering.{gather_none, gather-next}
use Rattle.rules.proofs.Limiting.{set-short}

-- ---- sets within the limits

-- no conjunct of more nodes than a condition may have
abbrev pub Short : Conj → Type 0
Short e = length e ≤ most_nodes

-- ---- the rule

-- one conjunct at the program's start
abbrev pub at_start : Conj → List Conj
at_start e = map zeroed e ∷ []

-- those of a set
abbrev pub started : Conjuncts → Conjuncts
started S = gather at_start S

pub started_none : (S : Conjuncts) → started (take 0 S) ≡ []
started_none S = sym (gather_none at_start S)

started_next : (S : Conjuncts) (k : ℕ) → k < length S → with_conjunct (renumber (map zeroed (get_or S k []))) (started (take k S)) ≡ started (take (k + 1) S)
unfolding union_of
started_next S k h = gather-next at_start S k h

pub started_length : (S : Conjuncts) → length (started S) ≤ length S
unfolding gather union_of
started_length [] = omega arith
started_length (e ∷ S) = omega (arith, insert_length (renumber (map zeroed e)) (started S), started_length S)

one-short : (e : Conj) → Short e → All Short (map renumber (at_start e))
unfolding renumber
one-short e h = (omega (arith, length-map (map zeroed e) (on_atom_lem (λ a. atom (renamed (atoms (map zeroed e)) a))), length-map e zeroed), tt)

pub start_fits : (s : List ℕ) (b : ℕ) → start (set_of s b) ≡ ok (started (set_of s b))
unfolding start
start_fits s b =
    let S = set_of s b in
    let fine : Fine (started S) = record {
      short = all_short (started S) (gather-every Short at_start Short one-short S (set-short s b));
      few = omega (arith, started_length S, set-few s b);
    } in
    fine-limits (started S) fine

-- ---- in a region, with a room behind it

module _ (s₀ : List ℕ) (b room : ℕ) (fit : b + region_words ≤ room) (inside : room + region_words ≤ length s₀) where
  -- the set stays while the room changes
  pub kept : (s : List ℕ) → length s ≡ length s₀ → Within room s₀ s → set_of s b ≡ set_of s₀ b
  kept s len within = frame s₀ s room b len (omega arith) (inr fit) within

  -- one conjunct more
  pub started_more : (s t : List ℕ) (k : ℕ) (d : Conj) (r : Bool) → length s ≡ length s₀ → Within room s₀ s → k < length (set_of s₀ b)
      → d ≡ renumber (map zeroed (get_or (set_of s b) k [])) → set_of s room ≡ started (take k (set_of s₀ b)) → Inserted r room d s t
      → set_of t room ≡ started (take (k + 1) (set_of s₀ b))
  started_more s t k d r len within h p so = go r
    where
      next : with_conjunct d (set_of s room) ≡ started (take (k + 1) (set_of s₀ b))
      next = ap₂ with_conjunct (p ∙ ap (λ R. renumber (map zeroed (get_or R k []))) (kept s len within)) so ∙ started_next (set_of s₀ b) k h

      few : length (set_of s room) ≤ k
      few = omega (arith, ap length so, started_length (take k (set_of s₀ b)), length-take-le k (set_of s₀ b) (omega arith))

      go : (q : Bool) → Inserted q room d s t → set_of t room ≡ started (take (k + 1) (set_of s₀ b))
      go true i = i ∙ next
      go false i = absurd (omega (arith, i.1, insert_length d (set_of s room), few, h, set-few s₀ b))

pub start-done : (s₀ : List ℕ) (b : ℕ) (s : List ℕ) (room k : ℕ) → k ≡ length (set_of s₀ b) → set_of s room ≡ started (take k (set_of s₀ b)) → start (set_of s₀ b) ≡ ok (set_of s room)
start-done s₀ b s room k z so =
    let S = set_of s₀ b in
    start_fits s₀ b ∙ ap (λ T. ok T) (sym (so ∙ ap (λ T. started T) (ap (λ j. take j S) z ∙ take-length S)))
