-- `conjunct::capped` meets its contract.
use Rattle.std.proofs.Common.{◌≡◌, ℕ, List, min, ◌<◌, length, take, sym, ap, ◌∙◌, arith}
use native.Mathlib.Decide.{dec_lt}
use lib.Seq.{take_all}
use Rattle.model.specs.Sizes.{most_nodes}
use Rattle.conjunct.proofs.capped.Goals as goal

-- as many as there are, of a list that has no more
taken : (r len : ℕ) (l : List ℕ) → r ≡ min len most_nodes → length l ≡ most_nodes → take r l ≡ take len l
taken r len l e h = go (dec_lt len most_nodes)
  where
    go : Dec (len < most_nodes) → take r l ≡ take len l
    go (yes g) = ap (λ k. take k l) (omega arith)
    go (no g) = take_all r l (omega arith) ∙ sym (take_all len l (omega arith))

pub returns : goal.returns
returns c = (omega (arith, c.min.ensures), λ l h. taken c.min.result c.args.len l c.min.ensures h)
