-- What the answer of a rule or a walk on a region of sets stands for, and what it leaves.
use Rattle.std.specs.Prelude.{List, ◌≡◌, ℕ, ◌<◌, get_or, Result}
use Rattle.model.specs.Conjunct.{Conjuncts}
use Rattle.model.specs.Refusals.{Out}
use Rattle.refusals.specs.Answers.{out_of}
use Rattle.refusals.specs.declared.Refusal.{Refusal}

-- done, or a refusal
abbrev pub Answer : Type 0
Answer = Result (Unit {0}) Refusal

-- the set that the region holds afterwards, or the number of the refusal
abbrev pub answered : Answer → Conjuncts → Out Conjuncts
answered r S = out_of (λ u. S) r

-- nothing before the region at b differs
abbrev pub Below : ℕ → List ℕ → List ℕ → Type 0
Below b s t = (i : ℕ) → i < b → get_or t i 0 ≡ get_or s i 0
