-- `arith::word_in` meets its contract.
use Rattle.std.proofs.Common.{ℕ, ◌+◌, ◌%◌, ◌^◌, ap, ◌∙◌, arith, rules}
use Rattle.arith.specs.Types.{bits}
use Rattle.arith.specs.Words.{word_of}
use Rattle.arith.proofs.WordLaws.{word_held, word-wrap}
use Rattle.arith.proofs.word_in.Goals as goal

pub returns : goal.returns
unfolding word_of
returns c = λ ty z row h.
    let d = row.low in
    let v = c.to_word-v.ensures ∙ word_held _ h in
    word-wrap ty z c.low_bits-t.result _
    (c.low_bits-t.ensures ty row ∙ ap (λ (n : ℕ). n % 2 ^ bits ty) (λ i. (v i + d i) % 2 ^ 64))
    (search rules) (rw (← d) (omega arith))
