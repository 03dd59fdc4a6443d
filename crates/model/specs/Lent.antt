-- What an operation leaves in what it is lent.
use Rattle.std.specs.Prelude.{◌≡◌, List, ℕ, ◌≤◌, length, drop}
use Rattle.model.specs.Refusals.{Out, ok, refused}
use Rattle.model.specs.Run.{Ran}
use Rattle.model.specs.Guarded.{Guarded, held, passed}

-- where something stood: what f makes of the result; after a refusal, as it was
abbrev pub left_by : {A B : Type 0} → (A → B) → Out A → B → B
left_by f (ok a) before = f a
left_by f (refused n) before = before

-- by the run behind the filter: what f makes of the condition file and of what the run gives; where nothing was run, as it was
abbrev pub left_by_run : {B : Type 0} → (List ℕ → Ran → B) → Out Guarded → B → B
left_by_run f (ok held) before = before
left_by_run f (ok (passed C R)) before = f C R
left_by_run f (refused n) before = before

-- scratch, with the answer o: the words before the documented length are free; every word from there on is as it was; and after a
-- refusal that is found before any work, with a number up to `last`, all words are
pub record ScratchLeft {A : Type 0} (documented last : ℕ) (o : Out A) (before after : List ℕ) : Type 0 where
  pub size : length after ≡ length before
  pub beyond : drop documented after ≡ drop documented before
  pub idle : (n : ℕ) → o ≡ refused n → n ≤ last → after ≡ before
