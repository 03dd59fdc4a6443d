-- A set gathered conjunct by conjunct from the first to the last: what a turn adds, and what its refusal says of the whole.
use mathlib.Core.List.{List, [], ◌∷◌, ◌++◌, map}
use mathlib.Core.Logic.{inl, inr}
use mathlib.Core.Path.{◌≡◌, refl, sym, ap, ap₂, subst, ◌∙◌}
use Prim.Native.Nat.{ℕ, zero, suc, ◌+◌, ◌≤◌, ◌<◌}
use native.Mathlib.Numerals.{add-one}
use native.Mathlib.Omega.{arith}
use lib.ListN.{length, get_or, take}
use lib.Seq.{take-suc, take-length}
use Rattle.model.specs.Conjunct.{Conj, Conjuncts, union_of, limits, renumber}
use Rattle.model.specs.Lists.{All}
use Rattle.model.specs.Code.{Instr}
use Rattle.model.specs.Refusals.{ok, refused}
use Rattle.model.specs.Kinds.{a_store}
use Rattle.model.specs.Walk.{before, gather, back}
use Rattle.model.proofs.Conjuncts.Gather.{gather-canon, gather_mono, gather-last}
use Rattle.model.proofs.Basics.Lists.{all_get_d}
use Rattle.model.specs.TidySets.{Sub, Canon, Mem, Numbered}
use Rattle.code_table.specs.Statements.{instr_of, OfKind}
use Rattle.code_table.specs.declared.Decoded.{Decoded}
use Rattle.sets.proofs.Rows.{frame}
use Rattle.sets.specs.Region.{set_of, Within, region_words}
use Rattle.rules.proofs.ByKind.{stores}
use Rattle.rules.proofs.Limiting.{store-short, set-short, set-limits}
use Rattle.rules.specs.Adding.{NoneLong, Added}
use Rattle.refusals.specs.Answers.{number_of}
use Rattle.refusals.specs.declared.Refusal.{Refusal}
use Rattle.std.specs.Prelude.{Ok, Err}

sub-take : (k : ℕ) (S : Conjuncts) → Sub (take k S) S
sub-take zero S x m = absurd m
sub-take (suc k) [] x m = m
sub-take (suc k) (e ∷ S) x (inl p) = inl p
sub-take (suc k) (e ∷ S) x (inr m) = inr (sub-take k S x m)

module _ (f : Conj → List Conj) where
  pub gather-next : (S : Conjuncts) (k : ℕ) → k < length S
      → union_of (map renumber (f (get_or S k []))) (gather f (take k S)) ≡ gather f (take (k + 1) S)
  gather-next S k h =
      let more : take (k + 1) S ≡ take k S ++ (get_or S k [] ∷ []) = rw (add-one k) (take-suc S k [] h) in
      sym (ap (gather f) more ∙ gather-last f (take k S) (get_or S k []))

  pub gather_none : (S : Conjuncts) → [] ≡ gather f (take 0 S)
  unfolding gather
  gather_none S = refl

  pub gathered_canon : (S T : Conjuncts) (k : ℕ) → T ≡ gather f (take k S) → Canon T
  gathered_canon S T k e = subst Canon (sym e) (gather-canon f (take k S))

  -- ---- a turn

  module _ (s₀ s t : List ℕ) (b room k : ℕ) (e : Conj) (fit : b + region_words ≤ room) (in' : room + region_words ≤ length s₀)
      (len : length s ≡ length s₀) (within : Within room s₀ s)
      (few : k < length (set_of s₀ b)) (this : e ≡ get_or (set_of s b) k []) where
    -- the conjunct is the set's own
    own : e ≡ get_or (set_of s₀ b) k []
    own = this ∙ ap (λ S. get_or S k []) (frame s₀ s room b len (omega arith) (inr fit) within)

    pub own-numbered : All Numbered (set_of s₀ b) → Numbered e
    own-numbered h = subst Numbered (sym own) (all_get_d Numbered (set_of s₀ b) k [] h few)

    module _ (P : Conjuncts → Type 0) (so : set_of s room ≡ gather f (take k (set_of s₀ b))) where
      step : union_of (map renumber (f e)) (set_of s room) ≡ gather f (take (k + 1) (set_of s₀ b))
      step = ap₂ (λ d T. union_of (map renumber (f d)) T) own so ∙ gather-next (set_of s₀ b) k few

      pub gathered_more : Added (Ok tt) P (map renumber (f e)) room s t → set_of t room ≡ gather f (take (k + 1) (set_of s₀ b))
      gathered_more h = h ∙ step

      pub gathered_refused : (r : Refusal) → Added (Err r) P (map renumber (f e)) room s t → P (gather f (set_of s₀ b))
          → limits (gather f (set_of s₀ b)) ≡ refused (number_of r)
      gathered_refused r h p =
          h (gather f (set_of s₀ b)) (gather-canon f (set_of s₀ b))
          (λ x m. gather_mono f (take (k + 1) (set_of s₀ b)) (set_of s₀ b) (sub-take (k + 1) (set_of s₀ b)) x (subst (λ S. Mem x S) step m)) p

-- ---- the rule

-- a store makes no conjunct longer
pub store_premise : (d : Decoded) (l : ℕ) (s : List ℕ) (b : ℕ) → OfKind a_store d → NoneLong (gather (before l (instr_of d)) (set_of s b))
store_premise d l s b e =
    subst (λ i. NoneLong (gather (before l i) (set_of s b))) (sym (stores d e))
    (store-short d.c d.ty l d.a d.len d.b (set_of s b) (set-short s b))

module _ (l : ℕ) (i : Instr) (S : Conjuncts) where
  pub rule_refused : (n : ℕ) → limits (gather (before l i) S) ≡ refused n → back l i S ≡ refused n
  unfolding back
  rule_refused n h = h

  -- all is gathered
  pub rule_done : (s : List ℕ) (b k : ℕ) → k ≡ length S → set_of s b ≡ gather (before l i) (take k S) → back l i S ≡ ok (set_of s b)
  unfolding back
  rule_done s b k z h = ap limits (sym (h ∙ ap (gather (before l i)) (ap (λ n. take n S) z ∙ take-length S))) ∙ set-limits s b
