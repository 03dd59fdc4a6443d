-- The open blocks through the statements, one by one.
use mathlib.Core.Path.{◌≡◌, ap, ◌∙◌}
use mathlib.Core.List.{List, [], ◌∷◌}
use Prim.Native.Nat.{ℕ, suc, ◌+◌, ◌≤◌, ◌<◌}
use native.Mathlib.Numerals.{add-one}
use native.Mathlib.Omega.{arith}
use lib.Dec.{ltb}
use lib.ListN.{length, get_or, drop, drop_of_length-le}
use lib.Seq.{drop-cons}
use Rattle.model.specs.Sizes.{most_nested}
use Rattle.model.specs.Refusals.{ok, refused, ◌>>=◌, wrong_blocks}
use Rattle.model.specs.Code.{plain, if, else, end, while}
use Rattle.model.specs.Procedures.{Item, own, procedure, call, Block, if_block, else_block, while_block, procedure_block, nesting, passing, open_after}
use Rattle.model.proofs.Basics.Results.{Gives, gives_check, gives_ok}

-- one statement further, from what is open before it
module _ (is : List Item) (i : ℕ) (bs : List Block) (w : open_after [] is ≡ open_after bs (drop i is)) where
  module _ (h : i < length is) where
    next : open_after [] is ≡ (passing (get_or is i (own end)) bs >>= λ cs. open_after cs (drop (i + 1) is))
    unfolding open_after
    next = w ∙ rw (add-one i, drop-cons is i (own end) h)

    pub pass_on : (cs : List Block) → passing (get_or is i (own end)) bs ≡ ok cs → open_after [] is ≡ open_after cs (drop (i + 1) is)
    pass_on cs e = next ∙ ap (◌>>= λ (ds : List Block). open_after ds (drop (i + 1) is)) e

    pub pass_stops : (n : ℕ) → passing (get_or is i (own end)) bs ≡ refused n → open_after [] is ≡ refused n
    pass_stops n e = next ∙ ap (◌>>= λ (ds : List Block). open_after ds (drop (i + 1) is)) e

  pub pass_ends : length is ≤ i → open_after [] is ≡ ok bs
  unfolding open_after
  pass_ends h = w ∙ rw (drop_of_length-le is h)

-- at most one block more is open behind a statement
abbrev AtMostOne : List Block → List Block → Type 0
AtMostOne bs cs = length cs ≤ suc (length bs)

grown : (x : Item) (bs : List Block) → Gives (AtMostOne bs) (passing x bs)
unfolding passing
grown (own (plain i)) bs = omega arith
grown (own (if v)) bs = gives_check (AtMostOne bs) (ltb (nesting bs) most_nested) wrong_blocks (ok (if_block ∷ bs)) (omega arith)
grown (own else) [] = tt
grown (own else) (if_block ∷ bs) = omega arith
grown (own else) (else_block ∷ bs) = tt
grown (own else) (while_block ∷ bs) = tt
grown (own else) (procedure_block ∷ bs) = tt
grown (own end) [] = tt
grown (own end) (if_block ∷ bs) = tt
grown (own end) (else_block ∷ bs) = omega arith
grown (own end) (while_block ∷ bs) = omega arith
grown (own end) (procedure_block ∷ bs) = omega arith
grown (own (while v)) bs = gives_check (AtMostOne bs) (ltb (nesting bs) most_nested) wrong_blocks (ok (while_block ∷ bs)) (omega arith)
grown (procedure n x k) bs = omega arith
grown (call t p as') bs = omega arith

pub grows_by_one : (x : Item) (bs cs : List Block) → passing x bs ≡ ok cs → length cs ≤ suc (length bs)
grows_by_one x bs cs e = gives_ok (AtMostOne bs) (passing x bs) cs e (grown x bs)
