-- What is left in scratch: by an operation that did nothing, by one that handed on the documented words alone, and by two one after
-- the other.
use mathlib.Core.Path.{◌≡◌, refl, sym, ap, ◌∙◌}
use mathlib.Core.List.{List, ◌++◌}
use Prim.Native.Nat.{ℕ, ◌+◌, ◌-◌, ◌≤◌, ◌<◌}
use native.Mathlib.Omega.{arith}
use lib.ListN.{length, take, drop}
use lib.Seq.{length_front, length-take-le, drop_at, drop-drop}
use Rattle.model.specs.Refusals.{Out, refused}
use Rattle.model.specs.Lent.{ScratchLeft}

-- words that are alike from one place on are alike from every later place on
drop-later : (m n : ℕ) (s t : List ℕ) → m ≤ n → drop m s ≡ drop m t → drop n s ≡ drop n t
drop-later m n s t h e =
    let k : m + (n - m) ≡ n = omega arith in
    ap (λ (j : ℕ). drop j s) (sym k) ∙ sym (drop-drop (n - m) m s) ∙ ap (drop (n - m)) e ∙ drop-drop (n - m) m t ∙ ap (λ (j : ℕ). drop j t) k

-- the documented words are there to be handed on
pub documented_part : (documented : ℕ) (s : List ℕ) → documented ≤ length s → documented ≤ length (take documented s)
documented_part documented s h = omega (arith, length-take-le documented s h)

module _ {A : Type 0} (documented last : ℕ) (o : Out A) where
  -- nothing was done
  pub scratch_as_it_was : (s : List ℕ) → ScratchLeft documented last o s s
  scratch_as_it_was s = record { size = refl; beyond = refl; idle = λ n e h. refl }

  -- where a refusal comes after the work
  module _ (late : (n : ℕ) → o ≡ refused n → last < n) where
    -- the documented words were handed on, and became ys
    pub scratch-worked : (ys before : List ℕ) → length ys ≡ length (take documented before) → documented ≤ length before
        → ScratchLeft documented last o before (ys ++ drop documented before)
    scratch-worked ys before h l = record {
      size = length_front before ys documented h;
      beyond = drop_at ys (drop documented before) documented (h ∙ length-take-le documented before l);
      idle = λ n e k. let q = late n e in absurd (omega arith);
    }

    -- an operation that is lent the same words and wants fewer
    pub scratch_wider : {B : Type 0} (fewer last' : ℕ) (p : Out B) (s t : List ℕ) → fewer ≤ documented → ScratchLeft fewer last' p s t
        → ScratchLeft documented last o s t
    scratch_wider fewer last' p s t h l = record {
      size = l.size;
      beyond = drop-later fewer documented t s h l.beyond;
      idle = λ n e k. let q = late n e in absurd (omega arith);
    }

    -- one after the other
    pub scratch-both : {B : Type 0} (p : Out B) (s t u : List ℕ) → ScratchLeft documented last p s t → ScratchLeft documented last o t u
        → ScratchLeft documented last o s u
    scratch-both p s t u l k = record {
      size = k.size ∙ l.size;
      beyond = k.beyond ∙ l.beyond;
      idle = λ n e h. let q = late n e in absurd (omega arith);
    }
